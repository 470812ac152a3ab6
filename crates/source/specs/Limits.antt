-- The limits of a system, and what is refused for them.
use Rattle.std.specs.Prelude.{ℕ, Bool, not, cond, ◌&&◌, List, length, ℤ, Some, None, Ok, Err, Option, Result, ◌==◌, nat_le, nat_lt, unsigned_abs}
use Rattle.std.specs.List.{position_from}
use Rattle.base.specs.declared.refusal.Refusal.{Refusal}
use Rattle.base.specs.declared.refusal.Refusal.TheVariants.{Counts, Number, RowShape}
use Rattle.base.specs.declared.refusal.Report.{Report}
use Rattle.base.specs.declared.refusal.Values.TheVariants.{None as No, Two}
use Rattle.base.specs.Refusals.{refused}

-- 1 to 6 unknowns, 0 to 4 parameters, at most 16 rows and 8 context rows
abbrev pub counts_fit : ℕ → ℕ → ℕ → ℕ → Bool
counts_fit n p m k = nat_le 1 n && (nat_le n 6 && (nat_le p 4 && (nat_le m 16 && nat_le k 8)))

abbrev pub counts_answer : ℕ → ℕ → ℕ → ℕ → Result (Unit {0}) Refusal
counts_answer n p m k = cond (counts_fit n p m k) (Ok tt) (Err Counts)

-- the same in numbers: 11
abbrev pub counts_report : ℕ → ℕ → ℕ → ℕ → Result (Unit {0}) Report
counts_report n p m k = cond (counts_fit n p m k) (Ok tt) (refused 11 No)

-- a number lies from -1,000,000 to 1,000,000
abbrev pub in_limits : ℤ → Bool
in_limits x = nat_le (unsigned_abs x) 1000000

-- the place of the first number that does not, counted from j
abbrev pub first_outside : ℕ → List ℤ → Option ℕ
first_outside j row = position_from (λ x. not (in_limits x)) j row

abbrev pub refused_at : ℕ → Option ℕ → Result (Unit {0}) Refusal
refused_at i None = Ok tt
refused_at i (Some j) = Err (Number i j)

abbrev pub reported_at : ℕ → Option ℕ → Result (Unit {0}) Report
reported_at i None = Ok tt
reported_at i (Some j) = refused 12 (Two i j)

-- whether these numbers make a row; i is the row's place
abbrev pub numbers_answer : ℕ → List ℤ → Result (Unit {0}) Refusal
numbers_answer i row = refused_at i (first_outside 0 row)

-- the same in numbers: 12 with the row's place and the first such column
abbrev pub numbers_report : ℕ → List ℤ → Result (Unit {0}) Report
numbers_report i row = reported_at i (first_outside 0 row)

-- whether a row has that width and there is a place for it
abbrev pub has_shape : ℕ → ℕ → ℕ → List ℤ → Bool
has_shape width count most row = length row == width && nat_lt count most

-- whether a row may join `count` others: by its length and their count first, then by its numbers
abbrev pub row_answer : ℕ → ℕ → ℕ → List ℤ → Result (Unit {0}) Refusal
row_answer width count most row = cond (has_shape width count most row) (numbers_answer 0 row) (Err RowShape)

-- the same in numbers: 14, or 12 with row 0 and the column
abbrev pub row_report : ℕ → ℕ → ℕ → List ℤ → Result (Unit {0}) Report
row_report width count most row = cond (has_shape width count most row) (numbers_report 0 row) (refused 14 No)
