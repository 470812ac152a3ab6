-- What holds of every arrangement of calls on a sheet.
use Rattle.std.specs.Prelude.{◌≡◌, ◌≢◌, ℕ, ◌⊎◌, ◌↔◌, List, ◌∷◌, ◌++◌, map, length, ℤ, pos, ◌≤ℤ◌, ◌<ℤ◌, Some, None, Ok, Err, Option, IsOk}
use Rattle.std.specs.List.{AllByRecursion, IsAmong}
use Rattle.base.specs.declared.refusal.Refusal.{Refusal}
use Rattle.base.specs.declared.refusal.Values.{Values}
use Rattle.base.specs.declared.refusal.Values.TheVariants.{None as NoValues}
use Rattle.base.specs.Refusals.{refused, report_of, reported}
use Rattle.source.specs.Systems.{MeetsContext, Point, Precedes, System}
use Rattle.tree.specs.declared.walk.Found.TheVariants.{Point as APoint, None as NoPoint}
use Rattle.base.specs.Numbers.{zeros}
use Rattle.tree.specs.Finds.{six_numbers}
use Rattle.solver.specs.declared.run.Solved.{Solved}
use Rattle.store.specs.Stores.{Costs, Meaning, fresh}
use Rattle.solver.specs.Solves.{solve_answer, work_after}
use Rattle.sheet.specs.Sheets.{solved_here}
use Rattle.sheet.specs.Arrangements.{Arrangement, LeadsTo}
use Rattle.sheet.specs.Events.{Event, Find, Solve, find, solve, standing}

-- ---- finds
-- the place of six names a point of the system at the parameters asked, zeros after its numbers; it precedes every other one there
pub record NamesLeast (S : System) (point place : List ℤ) : Type 0 where
  pub parameters : List ℕ
  pub unknowns : List ℕ
  pub asked : point ≡ map pos parameters
  pub named : place ≡ six_numbers (map pos unknowns)
  pub is_point : Point S parameters unknowns
  pub precedes : (other : List ℕ) → Point S parameters other → (unknowns ≡ other) ⊎ Precedes unknowns other

-- a point that a find names is a point of the standing system at the parameters asked, and precedes every other one there
abbrev pub NamedRight : Option System → Find → Type 0
NamedRight None f = f.answer ≢ Ok APoint
NamedRight (Some S) f = f.answer ≡ Ok APoint → NamesLeast S f.point f.place

-- each number is from 0 to 1,000,000
abbrev pub InRange : List ℤ → Type 0
InRange point = AllByRecursion (λ x. (pos 0 ≤ℤ x) × (x ≤ℤ pos 1_000_000)) point

-- the parameters asked do not meet the system's context
abbrev pub OutsideContext : System → List ℤ → Type 0
OutsideContext S point = (z : List ℕ) → point ≡ map pos z → ¬ MeetsContext S z

-- the rules refuse the point by this number: 41 where no system stands, then 42 for its length, 43 for a number, 44 for the context
abbrev pub Refuses : Option System → List ℤ → ℕ → Type 0
Refuses None point number = number ≡ 41
Refuses (Some S) point number =
    ((length point ≢ S.p) × (number ≡ 42))
    ⊎ (((length point ≡ S.p) × ((¬ InRange point) × (number ≡ 43)))
    ⊎ ((length point ≡ S.p) × (InRange point × (OutsideContext S point × (number ≡ 44)))))

-- a find is refused exactly when the rules say so, by just that number, which comes with no values
pub record RefusedRight (now : Option System) (f : Find) : Type 0 where
  pub only : (e : Refusal) → f.answer ≡ Err e → (number : ℕ) × ((report_of e ≡ record { number = number; values = NoValues }) × Refuses now f.point number)
  pub whenever : (number : ℕ) → Refuses now f.point number → reported f.answer ≡ refused number NoValues

-- not refused, it says none exactly when the standing system has no point there
abbrev pub NoneRight : Option System → Find → Type 0
NoneRight None f = ¬ IsOk f.answer
NoneRight (Some S) f = IsOk f.answer → (z : List ℕ) × ((f.point ≡ map pos z) × ((f.answer ≡ Ok NoPoint) ↔ ((x : List ℕ) → ¬ Point S z x)))

-- where it names no point it leaves six zeros
abbrev pub ZerosOtherwise : Find → Type 0
ZerosOtherwise f = f.answer ≢ Ok APoint → f.place ≡ zeros 6

pub record FindRight (now : Option System) (f : Find) : Type 0 where
  pub named : NamedRight now f
  pub refused : RefusedRight now f
  pub none : NoneRight now f
  pub otherwise : ZerosOtherwise f

-- ---- solves
-- their systems and the lengths of their work tables are equal
pub record Alike (s r : Solve) : Type 0 where
  pub systems : s.system ≡ r.system
  pub rooms : s.room ≡ r.room

-- refused by 24, with whatever values
abbrev pub IsSpent : Solve → Type 0
IsSpent s = (values : Values) × (reported s.answer ≡ refused 24 values)

-- s is accepted: r, with fuel within the limit, gives the same steps, nodes and tree if its fuel is at least those steps; otherwise it is spent
abbrev pub AcceptedAlike : Solve → Solve → Type 0
AcceptedAlike s r =
    (v : Solved) → s.answer ≡ Ok v → pos 0 ≤ℤ r.fuel → r.fuel ≤ℤ pos 100_000 →
    (pos v.steps ≤ℤ r.fuel → (r.answer ≡ Ok v) × (r.work ≡ s.work)) × (r.fuel <ℤ pos v.steps → IsSpent r)

-- s is spent: r, with no more fuel, down to 0, is spent too
abbrev pub SpentAlike : Solve → Solve → Type 0
SpentAlike s r = IsSpent s → pos 0 ≤ℤ r.fuel → r.fuel ≤ℤ s.fuel → IsSpent r

-- s is refused otherwise, with fuel within the limit: r, with no less fuel within it, is refused alike
abbrev pub RefusedAlike : Solve → Solve → Type 0
RefusedAlike s r =
    (e : Refusal) → s.answer ≡ Err e → ¬ IsSpent s → pos 0 ≤ℤ s.fuel → s.fuel ≤ℤ r.fuel → r.fuel ≤ℤ pos 100_000 → r.answer ≡ Err e

pub record SolvesRight (s r : Solve) : Type 0 where
  pub accepted : AcceptedAlike s r
  pub spent : SpentAlike s r
  pub refused : RefusedAlike s r

-- ---- arrangements
-- as `solved` says of the system, the fuel and the length of the work table; refused by 23 where the tree costs more than the capacity
abbrev pub AsSolved : ℕ → Costs → Solve → Type 0
AsSolved capacity costs s =
    let o = solved_here (fresh capacity costs) s.system s.fuel s.room in
    (s.answer ≡ solve_answer o) × (s.work ≡ work_after s.system s.room o)

-- each find answers rightly for the system that stands before it, each two solves alike agree with one another, and each is as `solved` says
pub record Right (capacity : ℕ) (costs : Costs) (events : List Event) : Type 0 where
  pub finds : (before later : List Event) (f : Find) → events ≡ before ++ find f ∷ later → FindRight (standing before) f
  pub solves : (s r : Solve) → IsAmong events (solve s) → IsAmong events (solve r) → Alike s r → SolvesRight s r
  pub as_solved : (s : Solve) → IsAmong events (solve s) → AsSolved capacity costs s

-- every arrangement of calls, over a store of whatever capacity and costs
abbrev pub ArrangementsRight : Type 0
ArrangementsRight = (capacity : ℕ) (costs : Costs) (events : List Event) → Arrangement capacity costs events → Right capacity costs events

-- ---- calls that come next
-- whatever arrangement leads to where the store means m, with these events it is one that leads to where it means n, and it is right
abbrev pub LeadsOn : Meaning → List Event → Meaning → Type 0
LeadsOn m events n = (before : List Event) → LeadsTo before m → LeadsTo (before ++ events) n × Right m.capacity m.costs (before ++ events)

-- the next find answers rightly for the system that stands after whatever arrangement leads there
abbrev pub NextFind : Meaning → Find → Type 0
NextFind m f = (before : List Event) → LeadsTo before m → FindRight (standing before) f

-- the next solve and each one alike in whatever arrangement leads there agree with one another
abbrev pub NextSolve : Meaning → Solve → Type 0
NextSolve m r = (before : List Event) → LeadsTo before m → (s : Solve) → IsAmong before (solve s) → Alike s r → SolvesRight s r × SolvesRight r s
