-- Signed numbers of 32 bits as four bytes, the highest first.
use Rattle.std.specs.Prelude.{ℕ, zero, suc, ◌+◌, ◌*◌, ◌/◌, ◌%◌, ◌<◌, List, [], ◌∷◌, ◌++◌, drop, ℤ, FitsSigned, slice_index}
use Rattle.std.specs.Int.{w32}
use Rattle.std.proofs.Common.{of_z, to_z}

-- the number in the first four bytes (`to_z` reads 32 bits as two's complement)
abbrev pub word : List ℕ → ℤ
word b = to_z w32 (slice_index b 0 * 16777216 + slice_index b 1 * 65536 + slice_index b 2 * 256 + slice_index b 3)

-- the four bytes of a number
abbrev pub bytes : ℤ → List ℕ
bytes z = (of_z w32 z / 16777216 % 256) ∷ (of_z w32 z / 65536 % 256) ∷ (of_z w32 z / 256 % 256) ∷ (of_z w32 z % 256) ∷ []

-- the first n numbers
unfoldable pub words : ℕ → List ℕ → List ℤ
words zero b = []
words (suc n) b = word b ∷ words n (drop 4 b)

abbrev pub all_bytes : List ℤ → List ℕ
all_bytes [] = []
all_bytes (z ∷ zs) = bytes z ++ all_bytes zs

-- the first c forms
unfoldable pub forms : ℕ → List ℕ → List (List ℤ)
forms zero b = []
forms (suc c) b = words 10 b ∷ forms c (drop 40 b)

abbrev pub forms_bytes : List (List ℤ) → List ℕ
forms_bytes [] = []
forms_bytes (C ∷ Cs) = all_bytes C ++ forms_bytes Cs

-- each is a byte; each fits 32 bits
abbrev pub Bytes : List ℕ → Type 0
Bytes [] = Unit {0}
Bytes (b ∷ bs) = (b < 256) × Bytes bs

abbrev pub Fit32 : List ℤ → Type 0
Fit32 [] = Unit {0}
Fit32 (z ∷ zs) = FitsSigned w32 z × Fit32 zs
