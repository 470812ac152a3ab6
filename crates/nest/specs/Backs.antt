-- From the numbers of a point of a nest's system back to the counters of its loops.
use Rattle.std.specs.Prelude.{Bool, true, false, cond, ◌&&◌, List, [], ◌∷◌, length, ℤ, pos, ◌-ℤ◌, Ok, Err, Result, ◌==◌, int_le}
use Rattle.base.specs.declared.refusal.Refusal.{Refusal}
use Rattle.base.specs.declared.refusal.Refusal.TheVariants.{BeyondBound}
use Rattle.base.specs.declared.refusal.Report.{Report}
use Rattle.base.specs.declared.refusal.Values.TheVariants.{None}
use Rattle.base.specs.Forms.{value_at}
use Rattle.base.specs.Refusals.{and_then, refused}
use Rattle.tree.specs.Finds.{is_point, point_answer, six_numbers}
use Rattle.base.specs.Numbers.{zeros}
use Rattle.nest.specs.Loops.{Loops}

-- each loop's bound at the parameters, minus the loop's number; numbers beyond the loops do not count
abbrev pub bounds_less : List (List ℤ) → List ℤ → List ℤ → List ℤ
bounds_less [] point xs = []
bounds_less (U ∷ Us) point [] = []
bounds_less (U ∷ Us) point (x ∷ xs) = (value_at U point -ℤ x) ∷ bounds_less Us point xs

-- a number is from 0 to a bound there
abbrev pub reaches : List ℤ → List ℤ → ℤ → Bool
reaches U point x = int_le (pos 0) x && int_le x (value_at U point)

-- each number is from 0 to its loop's bound there
abbrev pub reached : List (List ℤ) → List ℤ → List ℤ → Bool
reached [] point xs = true
reached (U ∷ Us) point [] = false
reached (U ∷ Us) point (x ∷ xs) = reaches U point x && reached Us point xs

-- the counter that a number stands for
abbrev pub counter_of : List ℤ → List ℤ → ℤ → Result ℤ Refusal
counter_of U point x = cond (reaches U point x) (Ok (value_at U point -ℤ x)) (Err BeyondBound)

-- the counters that the numbers stand for, and zeros up to six
abbrev pub counters_of : List (List ℤ) → List ℤ → List ℤ → Result (List ℤ) Refusal
counters_of Us point xs = cond (reached Us point xs) (Ok (six_numbers (bounds_less Us point xs))) (Err BeyondBound)

-- what turning the numbers back comes to: the six numbers, or why it is refused; the point is looked at first
abbrev pub turned_back : Loops → List ℤ → List ℤ → Result (List ℤ) Refusal
turned_back L point numbers = and_then (point_answer L.p point) (counters_of L.bounds point numbers)

-- what back says of it
abbrev pub said_of : Result (List ℤ) Refusal → Result (Unit {0}) Refusal
said_of (Ok six) = Ok tt
said_of (Err e) = Err e

-- the same in numbers: 42 or 43 for the point, then 45
abbrev pub back_report : Loops → List ℤ → List ℤ → Result (Unit {0}) Report
back_report L point numbers =
    cond (length point == L.p) (cond (is_point point) (cond (reached L.bounds point numbers) (Ok tt) (refused 45 None)) (refused 43 None)) (refused 42 None)

-- and what it leaves in the place of six: zeros alone where it is refused
abbrev pub left_of : Result (List ℤ) Refusal → List ℤ
left_of (Ok six) = six
left_of (Err e) = zeros 6
