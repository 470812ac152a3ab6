-- What asking a sheet's tree for the latest posting of a nest comes to.
use Rattle.std.specs.Prelude.{List, ℤ, Some, None, Ok, Err, Option, Result}
use Rattle.base.specs.declared.refusal.Refusal.{Refusal}
use Rattle.base.specs.Numbers.{zeros}
use Rattle.tree.specs.declared.node.Node.{Node}
use Rattle.tree.specs.Finds.{found_in, six_numbers}
use Rattle.nest.specs.Backs.{turned_back}
use Rattle.nest.specs.Loops.{Loops}

-- six counters, or why the point is not turned back
abbrev pub turned : Result (List ℤ) Refusal → Result (Option (List ℤ)) Refusal
turned (Ok six) = Ok (Some six)
turned (Err e) = Err e

-- a point that is found is turned back; none and a refusal stay
abbrev pub found_turned : Loops → List ℤ → Result (Option (List ℤ)) Refusal → Result (Option (List ℤ)) Refusal
found_turned L point (Ok (Some values)) = turned (turned_back L point (six_numbers values))
found_turned L point (Ok None) = Ok None
found_turned L point (Err e) = Err e

-- what the question comes to: six counters, none, or why it is refused
abbrev pub latest_in : List Node → Loops → List ℤ → Result (Option (List ℤ)) Refusal
latest_in nodes L point = found_turned L point (found_in nodes point)

-- the six counters that are left: zeros where there is none, and where it is refused
abbrev pub left_of : Result (Option (List ℤ)) Refusal → List ℤ
left_of (Ok (Some six)) = six
left_of (Ok None) = zeros 6
left_of (Err e) = zeros 6
