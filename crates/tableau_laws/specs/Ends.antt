-- What is claimed where the work ends.
use Rattle.std.specs.Prelude.{ℕ, List, [], ◌∷◌, map, ℤ, pos, ◌≤ℤ◌}
use Rattle.base.specs.Numbers.{quot_by}
use Rattle.base.specs.Forms.{value_at}
use Rattle.tableau.specs.declared.table.Row.{Row}
use Rattle.algebra.specs.Orders.{LexLe}
use Rattle.tableau_laws.specs.Lines.{Line}
use Rattle.tableau_laws.specs.Facts.{Point}

-- the system has no point
abbrev pub NoPoint : ℕ → List Line → Type 0
NoPoint n sys = (x : List ℤ) → Point n sys x → ⊥

-- x is a point of the system, and comes before every other
pub record Least (n : ℕ) (sys : List Line) (x : List ℤ) : Type 0 where
  pub point : Point n sys x
  pub first : (x' : List ℤ) → Point n sys x' → LexLe x x'

-- each row's form is at least 0 at ρ
abbrev pub NonNegAt : List ℤ → List Row → Type 0
NonNegAt ρ [] = Unit {0}
NonNegAt ρ (r ∷ rs) = (pos 0 ≤ℤ value_at r.form ρ) × NonNegAt ρ rs

-- a leaf: the forms of the unknowns, each over the divisor of its row
abbrev pub leaf_forms : List Row → List (List ℤ)
leaf_forms [] = []
leaf_forms (r ∷ rs) = map (quot_by r.div) r.form ∷ leaf_forms rs
