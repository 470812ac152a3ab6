-- Lexicographic order of lists of whole numbers.
use Rattle.std.specs.Prelude.{◌≡◌, ◌⊎◌, List, [], ◌∷◌, ℤ, pos, ◌<ℤ◌}

-- the first number that is not 0, if any, is above 0
abbrev pub LexNN : List ℤ → Type 0
LexNN [] = Unit {0}
LexNN (x ∷ xs) = (pos 0 <ℤ x) ⊎ ((x ≡ pos 0) × LexNN xs)

-- equal, or smaller at the first place where they differ; of one length
abbrev pub LexLe : List ℤ → List ℤ → Type 0
LexLe [] [] = Unit {0}
LexLe [] (y ∷ ys) = ⊥
LexLe (x ∷ xs) [] = ⊥
LexLe (x ∷ xs) (y ∷ ys) = (x <ℤ y) ⊎ ((x ≡ y) × LexLe xs ys)
