-- What a listing says: n p m k fuel, then m rows, then k context rows, all of it numbers.
use Rattle.std.specs.Prelude.{ℕ, zero, suc, ◌+◌, ◌*◌, Bool, cond, List, [], ◌∷◌, length, take, drop, ℤ, pos, negsuc, Some, None, Ok, Err, Result, ◌==◌, nat_le, slice_index_or}
use Rattle.std.specs.Borrow.{Bor}
use Rattle.base.specs.declared.refusal.Refusal.{Refusal}
use Rattle.base.specs.declared.refusal.Refusal.TheVariants.{Counts as CountsRefused, Listing as ListingRefused}
use Rattle.source.specs.Systems.{System}
use Rattle.source.specs.Counted.{Sizes, context_row_length, row_length, sized}
use Rattle.source.specs.Enters.{enter_answer, entered, confine_answer, confined}
use Rattle.source.specs.RowSources.{meaning_of, new_answer}
use Rattle.listing.specs.Words.{after_blanks, first_word, after_word, number_of}
use Rattle.listing.specs.declared.read.Listing.{Listing}

-- what is refused stays refused by the same number
abbrev pub and_then : {A B : Type 0} → Result A Refusal → (A → Result B Refusal) → Result B Refusal
and_then (Ok a) next = next a
and_then (Err e) next = Err e

-- numbers, and the text after them
pub record Numbers : Type 0 where
  pub values : List ℤ
  pub rest : List ℕ

abbrev pub with : ℤ → Numbers → Numbers
with x t = record { values = x ∷ t.values; rest = t.rest }

-- the numbers that the first words spell, so many as are wanted; refused where a word spells none, or is missing
abbrev pub first_numbers : ℕ → List ℕ → Result Numbers Refusal
first_numbers zero text = Ok (record { values = []; rest = text })
first_numbers (suc more) text =
    elim (number_of (first_word text)) [ Some x ↦ and_then (first_numbers more (after_word text)) (λ t. Ok (with x t)) | None ↦ Err ListingRefused ]

-- the same, as code has it: the numbers in their places, and a reference to the rest or a refusal
abbrev pub reached : List ℤ → Result (Bor (List ℕ)) Refusal → Result Numbers Refusal
reached xs (Ok rest) = Ok (record { values = xs; rest = rest.now })
reached xs (Err e) = Err e

-- a count is not below 0
abbrev pub count_of : ℤ → Result ℕ Refusal
count_of (pos n) = Ok n
count_of (negsuc n) = Err CountsRefused

abbrev pub count_at : List ℤ → ℕ → Result ℕ Refusal
count_at xs i = count_of (slice_index_or xs i (pos 0))

-- n p m k, refused where they are out of limits
abbrev pub counts_of : List ℤ → Result Sizes Refusal
counts_of xs =
    and_then (count_at xs 0) (λ n. and_then (count_at xs 1) (λ p. and_then (count_at xs 2) (λ m. and_then (count_at xs 3) (λ k. sized n p m k))))

-- how many numbers stand before the context rows: the fuel and the rows
abbrev pub before_context : Sizes → ℕ
before_context C = 1 + C.m * row_length C

-- how many numbers follow the counts
abbrev pub total : Sizes → ℕ
total C = before_context C + C.k * context_row_length C

-- so many rows of the same width, one after another
abbrev pub rows_of : ℕ → ℕ → List ℤ → List (List ℤ)
rows_of zero width xs = []
rows_of (suc more) width xs = take width xs ∷ rows_of more width (drop width xs)

-- every row in turn, by what one answers and the system that it leaves; the first refusal ends it
abbrev pub each_row : (System → List ℤ → Result (Unit {0}) Refusal) → (System → List ℤ → System) → List (List ℤ) → System → Result System Refusal
each_row answer left [] S = Ok S
each_row answer left (row ∷ rows) S = and_then (answer S row) (λ _. each_row answer left rows (left S row))

abbrev pub enter_all : List (List ℤ) → System → Result System Refusal
enter_all rows S = each_row enter_answer entered rows S

abbrev pub confine_all : List (List ℤ) → System → Result System Refusal
confine_all rows S = each_row confine_answer confined rows S

-- as code has it: the system that is left, or a refusal
abbrev pub arrived : System → Result (Unit {0}) Refusal → Result System Refusal
arrived S (Ok _) = Ok S
arrived S (Err e) = Err e

-- the system that is meant, and the fuel
pub record Meant : Type 0 where
  pub system : System
  pub fuel : ℤ

-- the numbers after the counts are the fuel, the rows and the context rows
abbrev pub rows_in : Sizes → List ℤ → List (List ℤ)
rows_in C xs = rows_of C.m (row_length C) (drop 1 xs)

abbrev pub context_rows_in : Sizes → List ℤ → List (List ℤ)
context_rows_in C xs = rows_of C.k (context_row_length C) (drop (before_context C) xs)

abbrev pub system_answer : Sizes → List ℤ → Result System Refusal
system_answer C xs = and_then (new_answer C.n C.p) (λ S. and_then (enter_all (rows_in C xs) S) (confine_all (context_rows_in C xs)))

-- whether no word is left
abbrev pub is_end : List ℕ → Bool
is_end text = length (after_blanks text) == 0

-- what follows the counts: so many numbers and no further word; the first number is the fuel
abbrev pub body_answer : Sizes → List ℕ → Result Meant Refusal
body_answer C text =
    and_then (first_numbers (total C) text) (λ t.
    cond (is_end t.rest) (and_then (system_answer C t.values) (λ S. Ok (record { system = S; fuel = slice_index_or t.values 0 (pos 0) }))) (Err ListingRefused))

-- whether a listing may be so long
abbrev pub is_short : List ℕ → Bool
is_short text = nat_le (length text) 65536

-- counts out of limits are refused before anything after them is looked at
abbrev pub read_answer : List ℕ → Result Meant Refusal
read_answer text =
    and_then (first_numbers 4 text) (λ t.
    and_then (counts_of t.values) (λ C.
    cond (is_short text) (body_answer C t.rest) (Err ListingRefused)))

-- what the code's answer means
abbrev pub understood : Result Listing Refusal → Result Meant Refusal
understood (Ok l) = Ok (record { system = meaning_of l.source; fuel = l.fuel })
understood (Err e) = Err e
