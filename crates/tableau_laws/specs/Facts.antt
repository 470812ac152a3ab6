-- What is right about a table, for a system of numeric rows: four facts.
use Rattle.std.specs.Prelude.{◌≡◌, ℕ, List, [], ◌∷◌, map, length, ℤ, pos, ◌+ℤ◌, ◌*ℤ◌, ◌≤ℤ◌}
use Rattle.base.specs.Forms.{dot}
use Rattle.tableau.specs.declared.table.Row.{Row}
use Rattle.algebra.specs.Lists.{NonNeg, column}
use Rattle.algebra.specs.Orders.{LexNN}
use Rattle.tableau_laws.specs.Lines.{Above, AllSay, AllSayAt, Line, SaysAt, Shaped, coefs_of, under}

-- each row of the system, with x for its unknowns, is at least 0
abbrev pub Satisfied : List Line → List ℤ → Type 0
Satisfied [] x = Unit {0}
Satisfied (r ∷ sys) x = (pos 0 ≤ℤ (dot r.coefs x +ℤ r.constant)) × Satisfied sys x

-- a point of the system: n naturals
pub record Point (n : ℕ) (sys : List Line) (x : List ℤ) : Type 0 where
  pub counted : length x ≡ n
  pub natural : NonNeg x
  pub satisfied : Satisfied sys x

-- the table reaches x: at some natural y the unknowns' rows have the values x, and every other row a natural value
pub record Reached (top rest : List Line) (x : List ℤ) : Type 0 where
  pub basic : List ℤ
  pub wide : length basic ≡ 9
  pub natural : NonNeg basic
  pub unknowns : AllSay top basic x
  pub values : List ℤ
  pub values_natural : NonNeg values
  pub others : AllSay rest basic values

-- the system's rows stand first among the rest: where the unknowns are X, each has there the value that the system gives it
abbrev pub Linked : List ℤ → ℤ → List ℤ → List Line → List Line → Type 0
Linked y s X [] rest = Unit {0}
Linked y s X (r ∷ sys) [] = ⊥
Linked y s X (r ∷ sys) (h ∷ rest) = SaysAt h y s (dot r.coefs X +ℤ s *ℤ r.constant) × Linked y s X sys rest

-- the four facts of a table whose unknowns' rows are `top`
pub record Facts (n : ℕ) (sys top rest : List Line) : Type 0 where
  -- every point of the system is reached
  pub reach : (x : List ℤ) → Point n sys x → Reached top rest x
  -- whatever the basic unknowns are, the system's rows follow from the unknowns
  pub link : (y : List ℤ) (s : ℤ) (X : List ℤ) → length y ≡ 9 → AllSayAt top y s X → Linked y s X sys rest
  -- in the unknowns' rows the first number of a column that is not 0, if any, is above 0
  pub lex : (l : ℕ) → LexNN (column (coefs_of top) l)
  -- each divisor is at least 1
  pub div : Above top × Above rest
  pub size : length top ≡ n

-- the same of the rows of a table, at a setting ρ of the parameters
pub record Right (n : ℕ) (sys : List Line) (ρ : List ℤ) (top rest : List Row) : Type 0 where
  pub facts : Facts n sys (map (under ρ) top) (map (under ρ) rest)
  pub top_shaped : Shaped top
  pub rest_shaped : Shaped rest
