-- The numbers that a nest may be given.
use Rattle.std.specs.Prelude.{ℕ, Bool, cond, ◌&&◌, List, length, ℤ, Ok, Err, Result, ◌==◌, nat_le, nat_lt, unsigned_abs}
use Rattle.std.specs.List.{list_all}
use Rattle.base.specs.declared.refusal.Refusal.{Refusal}
use Rattle.base.specs.declared.refusal.Refusal.TheVariants.{NestShape}
use Rattle.base.specs.declared.refusal.Report.{Report}
use Rattle.base.specs.declared.refusal.Values.TheVariants.{None}
use Rattle.base.specs.Refusals.{refused}

-- a number of a bound or a cell condition lies from -300 to 300
abbrev pub is_small : ℤ → Bool
is_small x = nat_le (unsigned_abs x) 300

abbrev pub all_small : List ℤ → Bool
all_small numbers = list_all is_small numbers

-- so many numbers, for one of so many places, each in limits
abbrev pub may_be_given : ℕ → ℕ → ℕ → List ℤ → Bool
may_be_given width place places numbers = length numbers == width && (nat_lt place places && all_small numbers)

abbrev pub given_answer : ℕ → ℕ → ℕ → List ℤ → Result (Unit {0}) Refusal
given_answer width place places numbers = cond (may_be_given width place places numbers) (Ok tt) (Err NestShape)

-- the same in numbers: 15
abbrev pub given_report : ℕ → ℕ → ℕ → List ℤ → Result (Unit {0}) Report
given_report width place places numbers = cond (may_be_given width place places numbers) (Ok tt) (refused 15 None)
