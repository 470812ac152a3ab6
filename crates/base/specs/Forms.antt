-- Forms of the parameters: ten numbers, the last of them the constant.
use Rattle.std.specs.Prelude.{List, [], ◌∷◌, ◌++◌, map, ℤ, pos, ◌+ℤ◌, ◌-ℤ◌, ◌*ℤ◌, neg_ℤ, slice_set}
use Rattle.base.specs.Numbers.{at}

-- the sum of the products, number by number; the shorter list decides
abbrev pub dot : List ℤ → List ℤ → ℤ
dot [] ys = pos 0
dot (x ∷ xs) [] = pos 0
dot (x ∷ xs) (y ∷ ys) = x *ℤ y +ℤ dot xs ys

-- the value of a form where the nine parameters have the values ρ
abbrev pub value_at : List ℤ → List ℤ → ℤ
value_at C ρ = dot C (ρ ++ (pos 1 ∷ []))

-- -C - 1, which is at least 0 exactly where C is below 0
abbrev pub opposite : List ℤ → List ℤ
opposite C = slice_set (map neg_ℤ C) 9 (neg_ℤ (at C 9) -ℤ pos 1)
