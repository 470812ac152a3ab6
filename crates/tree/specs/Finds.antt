-- What a list of nodes answers at a parameter point, whatever stands in it.
use Rattle.std.specs.Prelude.{ℕ, zero, suc, ◌-◌, Bool, cond, ◌&&◌, List, [], ◌∷◌, ◌++◌, length, take, replicate, ℤ, pos, Some, None, Ok, Err, Option, Result, ◌==◌, int_le, int_lt, nat_le, nat_lt}
use Rattle.std.specs.List.{list_all}
use Rattle.base.specs.declared.refusal.Refusal.{Refusal}
use Rattle.base.specs.declared.refusal.Refusal.TheVariants.{NoTree, PointLength, PointNumber, OutsideKeep}
use Rattle.base.specs.Forms.{value_at}
use Rattle.base.specs.declared.refusal.Report.{Report}
use Rattle.base.specs.declared.refusal.Values.TheVariants.{None as No}
use Rattle.base.specs.Refusals.{and_then, refused}
use Rattle.tree.specs.declared.node.Node.{Node}
use Rattle.tree.specs.declared.node.Node.TheVariants.{Head, Keep, Split, New, Leaf, None as Blank}
use Rattle.tree.specs.declared.walk.Found.{Found}
use Rattle.tree.specs.declared.walk.Found.TheVariants.{Point, None as NoPoint}
use Rattle.tree.specs.Answers.{gaining, values_at}

-- each number is from 0 to d - 1
abbrev pub all_below : ℤ → List ℤ → Bool
all_below d xs = list_all (λ x. int_le (pos 0) x && int_lt x d) xs

-- a new parameter floor(T / d) may be made where `made` are there: not a sixth, d is 2 or more, T's numbers are from 0 to d - 1
abbrev pub proper : ℕ → ℤ → List ℤ → Bool
proper made d T = nat_lt made 5 && (int_le (pos 2) d && all_below d T)

-- The walk for n unknowns, with `past` trees to pass over first, at a setting in which `made` new parameters were made.
-- A split chooses its first branch where its form is at least 0, or passes over it. The walk ends with none where the list
-- ends, at a new parameter that is not proper, and at a head or a keep.
abbrev pub walk : ℕ → ℕ → ℕ → List ℤ → List Node → Option (List ℤ)
walk n past made ρ [] = None
walk n zero made ρ (Split C ∷ rest) = cond (int_le (pos 0) (value_at C ρ)) (walk n 0 made ρ rest) (walk n 1 made ρ rest)
walk n zero made ρ (New d T ∷ rest) = cond (proper made d T) (walk n 0 (suc made) (gaining made d T ρ) rest) None
walk n zero made ρ (Leaf forms ∷ rest) = Some (values_at ρ (take n forms))
walk n zero made ρ (Blank ∷ rest) = None
walk n zero made ρ (Head a b ∷ rest) = None
walk n zero made ρ (Keep C ∷ rest) = None
walk n (suc past) made ρ (Split C ∷ rest) = walk n (suc (suc past)) made ρ rest
walk n (suc past) made ρ (New d T ∷ rest) = walk n (suc past) made ρ rest
walk n (suc past) made ρ (Leaf forms ∷ rest) = walk n past made ρ rest
walk n (suc past) made ρ (Blank ∷ rest) = walk n past made ρ rest
walk n (suc past) made ρ (Head a b ∷ rest) = None
walk n (suc past) made ρ (Keep C ∷ rest) = None

-- the keeps, each of which is to be at least 0, then the walk
abbrev pub kept_answer : ℕ → List ℤ → List Node → Result (Option (List ℤ)) Refusal
kept_answer n ρ [] = Ok None
kept_answer n ρ (Keep C ∷ rest) = cond (int_le (pos 0) (value_at C ρ)) (kept_answer n ρ rest) (Err OutsideKeep)
kept_answer n ρ (Head a b ∷ rest) = Ok None
kept_answer n ρ (Split C ∷ rest) = Ok (walk n 0 0 ρ (Split C ∷ rest))
kept_answer n ρ (New d T ∷ rest) = Ok (walk n 0 0 ρ (New d T ∷ rest))
kept_answer n ρ (Leaf forms ∷ rest) = Ok (walk n 0 0 ρ (Leaf forms ∷ rest))
kept_answer n ρ (Blank ∷ rest) = Ok (walk n 0 0 ρ (Blank ∷ rest))

-- each number is from 0 to 1,000,000
abbrev pub is_point : List ℤ → Bool
is_point xs = list_all (λ x. int_le (pos 0) x && int_le x (pos 1000000)) xs

-- a list, and zeros up to so many
abbrev pub padded : ℕ → List ℤ → List ℤ
padded m xs = xs ++ replicate (m - length xs) (pos 0)

-- the values of the nine parameter places of a form: the point, and 0 where a place has no value
abbrev pub spread : List ℤ → List ℤ
spread point = padded 9 point

-- from 1 to 6 unknowns and at most 4 parameters
abbrev pub head_fits : ℕ → ℕ → Bool
head_fits n p = (nat_le 1 n && nat_le n 6) && nat_le p 4

-- p numbers, each from 0 to 1,000,000
abbrev pub point_answer : ℕ → List ℤ → Result (Unit {0}) Refusal
point_answer p point = cond (length point == p) (cond (is_point point) (Ok tt) (Err PointNumber)) (Err PointLength)

-- the same in numbers: 42 or 43
abbrev pub point_report : ℕ → List ℤ → Result (Unit {0}) Report
point_report p point = cond (length point == p) (cond (is_point point) (Ok tt) (refused 43 No)) (refused 42 No)

-- what a question to the list comes to: a point, none, or why it is refused
abbrev pub found_in : List Node → List ℤ → Result (Option (List ℤ)) Refusal
found_in [] point = Err NoTree
found_in (Head n p ∷ rest) point = cond (head_fits n p) (and_then (point_answer p point) (kept_answer n (spread point) rest)) (Err NoTree)
found_in (Keep C ∷ rest) point = Err NoTree
found_in (Split C ∷ rest) point = Err NoTree
found_in (New d T ∷ rest) point = Err NoTree
found_in (Leaf forms ∷ rest) point = Err NoTree
found_in (Blank ∷ rest) point = Err NoTree

-- what find says of it
abbrev pub said_of : Result (Option (List ℤ)) Refusal → Result Found Refusal
said_of (Ok (Some values)) = Ok Point
said_of (Ok None) = Ok NoPoint
said_of (Err e) = Err e

-- the values, and zeros up to six
abbrev pub six_numbers : List ℤ → List ℤ
six_numbers values = padded 6 values

-- and what it leaves in the place of six: zeros where there is no point
abbrev pub left_of : Result (Option (List ℤ)) Refusal → List ℤ
left_of (Ok (Some values)) = six_numbers values
left_of (Ok None) = replicate 6 (pos 0)
left_of (Err e) = replicate 6 (pos 0)
