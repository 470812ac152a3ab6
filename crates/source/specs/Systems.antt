-- What a system of linear inequalities is, which points it has, and which point precedes another.
use Rattle.std.specs.Prelude.{◌≡◌, ℕ, ◌<◌, ◌⊎◌, List, [], ◌∷◌, ◌++◌, map, length, ℤ, pos, ◌≤ℤ◌, slice_index_or}
use Rattle.base.specs.Forms.{dot}

-- n unknowns and p parameters, rows over both, context rows over the parameters alone
pub record System : Type 0 where
  pub n : ℕ
  pub p : ℕ
  pub rows : List (List ℤ)
  pub context : List (List ℤ)

-- the number at column j of row i of a table, 0 where there is none
abbrev pub entry : List (List ℤ) → ℕ → ℕ → ℤ
entry table i j = slice_index_or (slice_index_or table i []) j (pos 0)

abbrev pub number : System → ℕ → ℕ → ℤ
number S i j = entry S.rows i j

abbrev pub context_number : System → ℕ → ℕ → ℤ
context_number S i j = entry S.context i j

-- the values times their coefficients, plus the last number of the row, are at least 0
abbrev pub Holds : List ℤ → List ℕ → Type 0
Holds row values = pos 0 ≤ℤ dot row (map pos values ++ pos 1 ∷ [])

abbrev pub AllHold : List (List ℤ) → List ℕ → Type 0
AllHold [] values = Unit {0}
AllHold (row ∷ rows) values = Holds row values × AllHold rows values

-- x is a point of S at the parameters z: n unknowns, however large, with which every row holds there
pub record Point (S : System) (z x : List ℕ) : Type 0 where
  pub counted : length x ≡ S.n
  pub holds : AllHold S.rows (x ++ z)

-- the parameters z meet the context of S
pub record MeetsContext (S : System) (z : List ℕ) : Type 0 where
  pub counted : length z ≡ S.p
  pub holds : AllHold S.context z

-- x is smaller than y in the first coordinate where they differ
abbrev pub Precedes : List ℕ → List ℕ → Type 0
Precedes [] ys = ⊥
Precedes (x ∷ xs) [] = ⊥
Precedes (x ∷ xs) (y ∷ ys) = (x < y) ⊎ ((x ≡ y) × Precedes xs ys)
