-- What the work keeps: room for every row, numbers in range, steps within the fuel.
use Rattle.std.specs.Prelude.{◌≡◌, ℕ, ◌+◌, ◌*◌, ◌<◌, ◌≤◌, List, [], ◌∷◌, take, ℤ, pos}
use Rattle.base.specs.Numbers.{at}
use Rattle.tableau.specs.declared.table.Row.{Row}
use Rattle.tableau.specs.Tables.{Ready}
use Rattle.solver.specs.declared.context.Context.{Context}
use Rattle.solver.specs.declared.count.Count.{Count}
use Rattle.solver.specs.declared.settle.End.{End}
use Rattle.solver.specs.declared.settle.End.TheVariants.{Leaf, None, Split}
use Rattle.solver.specs.declared.sign.Scan.{Scan}
use Rattle.solver.specs.declared.sign.Scan.TheVariants.{Negative, Unsure, Clear}
use Rattle.solver.specs.declared.state.State.{State}

-- the rows of a context
abbrev pub in_force : Context → List (List ℤ)
in_force c = take c.count c.forms

-- a state of the work: 6 unknowns, 16 rows and the cuts are in the table; 8 forms at the
-- start, one of each split and two of each new parameter are in the context
pub record StateReady (s : State) : Type 0 where
  pub table : Ready s.table
  pub unknowns : s.table.unknowns ≤ 6
  pub cuts : s.cuts ≤ 24
  pub rows : s.table.count ≤ 22 + s.cuts
  pub forms : s.context.count + s.left ≤ 20 + 2 * s.context.made

-- the count goes on from another, within the fuel, and as many nodes are written
pub record Stepped (fuel : ℕ) (from to : Count) : Type 0 where
  pub more : from.steps ≤ to.steps
  pub within : to.steps ≤ fuel

-- with one step more at least
pub record Moved (fuel : ℕ) (from to : Count) : Type 0 where
  pub more : from.steps < to.steps
  pub within : to.steps ≤ fuel

-- the same rows are in force, of the same parameters
pub record SameContext (from to : Context) : Type 0 where
  pub count : to.count ≡ from.count
  pub rows : in_force to ≡ in_force from
  pub parameters : to.parameters ≡ from.parameters
  pub made : to.made ≡ from.made

-- the row found is one of the first n
abbrev pub ScanBelow : ℕ → Scan → Type 0
ScanBelow n (Negative h) = h < n
ScanBelow n (Unsure h) = h < n
ScanBelow n Clear = Unit {0}

abbrev pub EndBelow : ℕ → End → Type 0
EndBelow n Leaf = Unit {0}
EndBelow n None = Unit {0}
EndBelow n (Split h) = h < n

-- the row's form names no parameter, as in a test
abbrev pub ConstForm : Row → Type 0
ConstForm r = (k : ℕ) → k < 9 → at r.form k ≡ pos 0

abbrev pub AllConst : List Row → Type 0
AllConst [] = Unit {0}
AllConst (r ∷ rs) = ConstForm r × AllConst rs
