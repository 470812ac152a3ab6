-- How large a setting is.
use Rattle.std.specs.Prelude.{◌≡◌, ℕ, ◌+◌, true, List, [], ◌∷◌, ℤ, pos, int_le, unsigned_abs}
use Rattle.std.specs.List.{list_all}

-- no number is below 0
abbrev pub NoneBelow : List ℤ → Type 0
NoneBelow xs = list_all (int_le (pos 0)) xs ≡ true

-- the sum of the sizes
abbrev pub total : List ℤ → ℕ
total [] = 0
total (x ∷ xs) = unsigned_abs x + total xs
