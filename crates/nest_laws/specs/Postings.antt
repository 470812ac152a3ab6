-- When the loops of a nest post to its cell, and which posting comes later.
use Rattle.std.specs.Prelude.{◌≡◌, ℕ, ◌⊎◌, List, [], ◌∷◌, ◌++◌, map, length, ℤ, pos, ◌≤ℤ◌, Some, None, Option}
use Rattle.base.specs.Forms.{dot, value_at}
use Rattle.source.specs.Systems.{Precedes}
use Rattle.nest.specs.Backs.{bounds_less}
use Rattle.nest.specs.Loops.{Loops}

-- each counter, from 0 up, is at most its loop's bound at the parameters z
abbrev pub UpToBounds : List (List ℤ) → List ℕ → List ℕ → Type 0
UpToBounds [] z cs = Unit {0}
UpToBounds (U ∷ Us) z [] = ⊥
UpToBounds (U ∷ Us) z (c ∷ cs) = (pos c ≤ℤ value_at U (map pos z)) × UpToBounds Us z cs

-- the counters and parameters times their coefficients, plus the last number of the condition, are 0
abbrev pub AllMet : List (List ℤ) → List ℕ → Type 0
AllMet [] values = Unit {0}
AllMet (cell ∷ cells) values = (dot cell (map pos values ++ pos 1 ∷ []) ≡ pos 0) × AllMet cells values

-- the loops, with these counters, post to the cell at the parameters z
pub record Posting (L : Loops) (z counters : List ℕ) : Type 0 where
  pub counted : length counters ≡ L.n
  pub within : UpToBounds L.bounds z counters
  pub met : AllMet L.cells (counters ++ z)

-- the unknowns x stand for these counters: each is its loop's bound minus the unknown
pub record StandsFor (L : Loops) (z x counters : List ℕ) : Type 0 where
  pub counted : length x ≡ L.n
  pub turned : bounds_less L.bounds (map pos z) (map pos x) ≡ map pos counters

-- c comes later than d: it is larger in the first loop where they differ
abbrev pub Later : List ℕ → List ℕ → Type 0
Later c d = Precedes d c

-- c is the latest posting at z: it comes later than every other
abbrev pub LatestOf : Loops → List ℕ → List ℕ → Type 0
LatestOf L z c = Posting L z c × ((d : List ℕ) → Posting L z d → (c ≡ d) ⊎ Later c d)

-- the values are unknowns, and the counters that they stand for are the latest posting at z
pub record Latest (L : Loops) (z : List ℕ) (values : List ℤ) : Type 0 where
  pub unknowns : List ℕ
  pub counters : List ℕ
  pub are : values ≡ map pos unknowns
  pub stand : StandsFor L z unknowns counters
  pub latest : LatestOf L z counters

-- what is said of the postings at z: the unknowns of the latest one, or that there is none
abbrev pub LatestAnswer : Loops → List ℕ → Option (List ℤ) → Type 0
LatestAnswer L z (Some values) = Latest L z values
LatestAnswer L z None = (c : List ℕ) → Posting L z c → ⊥
