-- The rows of a system, as a table starts from them.
use Rattle.std.specs.Prelude.{◌≡◌, ℕ, ◌≤◌, List, [], ◌∷◌, pos}
use Rattle.base.specs.Numbers.{at}
use Rattle.tableau.specs.declared.table.Row.{Row}

-- rows as a system of n unknowns has them: divisor 1, and nothing in the columns past n
abbrev pub Plain : ℕ → List Row → Type 0
Plain n [] = Unit {0}
Plain n (r ∷ rs) = (r.div ≡ pos 1) × ((l : ℕ) → n ≤ l → at r.coefs l ≡ pos 0) × Plain n rs
