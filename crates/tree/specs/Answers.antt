-- What a tree answers at a parameter point.
use Rattle.std.specs.Prelude.{ℕ, suc, ◌+◌, ◌-◌, cond, List, ◌++◌, map, length, replicate, ℤ, pos, Some, None, Option, int_le, slice_set}
use Rattle.base.specs.Forms.{value_at}
use Rattle.base.specs.Numbers.{floor_div}
use Rattle.tree.specs.Trees.{Tree, split, new, leaf, none}

-- the values of the nine parameter places of a form: the parameters, and 0 where a place has no value
abbrev pub setting : List ℕ → List ℤ
setting z = map pos z ++ replicate (9 - length z) (pos 0)

abbrev pub values_at : List ℤ → List (List ℤ) → List ℤ
values_at ρ forms = map (λ C. value_at C ρ) forms

-- the setting with the value floor(T / d) of one more new parameter, after those made already
abbrev pub gaining : ℕ → ℤ → List ℤ → List ℤ → List ℤ
gaining made d T ρ = slice_set ρ (4 + made) (floor_div (value_at T ρ) d)

-- a split goes to its first branch where its form is at least 0; a leaf gives the values of its forms; none says that there is no point
abbrev pub answer_from : ℕ → List ℤ → Tree → Option (List ℤ)
answer_from made ρ (split C t u) = cond (int_le (pos 0) (value_at C ρ)) (answer_from made ρ t) (answer_from made ρ u)
answer_from made ρ (new d T t) = answer_from (suc made) (gaining made d T ρ) t
answer_from made ρ (leaf forms) = Some (values_at ρ forms)
answer_from made ρ none = None

abbrev pub answer_at : Tree → List ℕ → Option (List ℤ)
answer_at t z = answer_from 0 (setting z) t
