-- Which places of a form are in use.
use Rattle.std.specs.Prelude.{◌≡◌, ℕ, ◌+◌, ◌<◌, ◌≤◌, ◌⊎◌, List, [], ◌∷◌, length, ℤ, pos}
use Rattle.base.specs.Numbers.{at}

-- a place that is not in use: past the p parameters, or past the new ones made so far
abbrev pub Spare : ℕ → ℕ → ℕ → Type 0
Spare p made q = ((p ≤ q) × (q < 4)) ⊎ ((4 + made ≤ q) × (q < 9))

-- a form of ten numbers that uses no such place
pub record Uses (p made : ℕ) (C : List ℤ) : Type 0 where
  pub ten : length C ≡ 10
  pub free : (q : ℕ) → Spare p made q → at C q ≡ pos 0

abbrev pub AllUse : ℕ → ℕ → List (List ℤ) → Type 0
AllUse p made [] = Unit {0}
AllUse p made (C ∷ Cs) = Uses p made C × AllUse p made Cs
