-- Numbers within the loops' bounds, and the counters that they stand for.
use Rattle.std.proofs.Common.{◌≡◌, ℕ, zero, suc, ◌+◌, ◌<◌, ◌≤◌, Bool, true, false, cond, ◌&&◌, leb, List, [], ◌∷◌, length, get_or, drop, ℤ, pos, negsuc, ◌-ℤ◌, nat_abs, ◌≤ℤ◌, Ok, Err, refl, ap, arith}
use lib.Signed.{le_z}
use Rattle.std.proofs.lemmas.List.{drop_more}
use Rattle.std.proofs.lemmas.Int.{ints}
use Rattle.std.proofs.lemmas.Bool.{and_parts, false≢true, leb-true}
use Rattle.base.specs.declared.refusal.Refusal.{Refusal}
use Rattle.base.specs.Numbers.{AllWithin, at}
use Rattle.base.specs.Forms.{value_at}
use Rattle.tree.specs.Finds.{is_point}
use Rattle.nest.specs.Backs.{bounds_less, reached}

pub length-less : (Us : List (List ℤ)) (ρ xs : List ℤ) → length Us ≤ length xs → length (bounds_less Us ρ xs) ≡ length Us
length-less [] ρ xs h = refl
length-less (U ∷ Us) ρ [] h = absurd (let no : ⊥ = omega arith in no)
length-less (U ∷ Us) ρ (x ∷ xs) h = ap suc (length-less Us ρ xs (omega arith))

pub at_less : (Us : List (List ℤ)) (ρ xs : List ℤ) (i : ℕ) → i < length Us → i < length xs → at (bounds_less Us ρ xs) i ≡ value_at (get_or Us i []) ρ -ℤ at xs i
at_less [] ρ xs i h l = absurd (let no : ⊥ = omega arith in no)
at_less (U ∷ Us) ρ [] i h l = absurd (let no : ⊥ = omega arith in no)
at_less (U ∷ Us) ρ (x ∷ xs) zero h l = refl
at_less (U ∷ Us) ρ (x ∷ xs) (suc i) h l = at_less Us ρ xs i (omega arith) (omega arith)

-- one number more is looked at
pub reached-more : (Us : List (List ℤ)) (ρ xs : List ℤ) (i : ℕ) → i < length Us → i < length xs → reached (drop i Us) ρ (drop i xs) ≡ ((le_z (pos 0) (at xs i) && le_z (at xs i) (value_at (get_or Us i []) ρ)) && reached (drop (i + 1) Us) ρ (drop (i + 1) xs))
reached-more Us ρ xs i h l = rw (drop_more Us i [] h, drop_more xs i (pos 0) l) refl

-- from 0 to a bound
from-to : (x U : ℤ) → (le_z (pos 0) x && le_z x U) ≡ true → (pos 0 ≤ℤ x) × (x ≤ℤ U)
from-to (pos m) (pos n) e = let h = leb-true m n (and_parts (le_z (pos 0) (pos m)) (leb m n) e).1 in (omega (arith, ints), omega (arith, ints, h))
from-to (pos m) (negsuc n) e = absurd (false≢true (and_parts (le_z (pos 0) (pos m)) (le_z (pos m) (negsuc n)) e).1)
from-to (negsuc m) U e = absurd (false≢true (and_parts (le_z (pos 0) (negsuc m)) (le_z (negsuc m) U) e).0)

-- ---- what a test that accepts or refuses has told
pub told-accepted : {A : Type 0} (b : Bool) (x y : A) (e : Refusal) → Ok x ≡ cond b (Ok y) (Err e) → (b ≡ true) × (x ≡ y)
told-accepted true x y e h = (refl, cc)
told-accepted false x y e h = absurd (let no : ◌≡◌ {A = ℕ} 0 1 = cc in let z : ⊥ = omega arith in z)

pub told-refused : {A : Type 0} (b : Bool) (y : A) (d e : Refusal) → Err d ≡ cond b (Ok y) (Err e) → (b ≡ false) × (d ≡ e)
told-refused true y d e h = absurd (let no : ◌≡◌ {A = ℕ} 0 1 = cc in let z : ⊥ = omega arith in z)
told-refused false y d e h = (refl, cc)

-- ---- parameter points
small : (x : ℤ) → (pos 0 ≤ℤ x) × (x ≤ℤ pos 1000000) → nat_abs x ≤ 1000000
small x h = omega (arith, ints, h.0, h.1)

pub point-within : (xs : List ℤ) → is_point xs ≡ true → AllWithin 1000000 xs
point-within [] e k = omega arith
point-within (x ∷ xs) e zero = small x (from-to x (pos 1000000) (and_parts (le_z (pos 0) x && le_z x (pos 1000000)) (is_point xs) e).0)
point-within (x ∷ xs) e (suc k) = point-within xs (and_parts (le_z (pos 0) x && le_z x (pos 1000000)) (is_point xs) e).1 k
