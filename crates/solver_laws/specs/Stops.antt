-- What a refused solve tells: its refusal by number and values, and the count that it ends with.
use Rattle.std.specs.Prelude.{◌≡◌, ℕ, ◌≤◌, false, Ok, Err, unsigned_abs, ℤ}
use Rattle.base.specs.declared.refusal.Refusal.{Refusal}
use Rattle.base.specs.declared.refusal.Refusal.TheVariants.{Counts, Number, NoParameterPoint, Fuel, WorkFull, FuelSpent, Range, Cuts, NewParameters, Depth}
use Rattle.base.specs.declared.refusal.Values.{Values}
use Rattle.base.specs.declared.refusal.Values.TheVariants.{None, Two}
use Rattle.base.specs.Refusals.{report_of}
use Rattle.source.specs.Systems.{System}
use Rattle.solver.specs.declared.count.Count.{Count}
use Rattle.solver.specs.declared.count.Stopped.{Stopped}
use Rattle.solver.specs.Rules.{test}
use Rattle.solver.specs.Solves.{context_of, nothing, solved}

-- users know the refusal by this number, with these values
abbrev pub ReportIs : Refusal → ℕ → Values → Type 0
ReportIs why number values = report_of why ≡ record { number = number; values = values }

-- by this number, with the steps that were made and a flag, 0 or 1
abbrev pub WithSteps : Refusal → ℕ → Count → Type 0
WithSteps why number c = (flag : ℕ) × ((flag ≤ 1) × ReportIs why number (Two c.steps flag))

-- the test of the context, the first thing in a run, found no parameter point and ended with this count
abbrev pub NoPointFound : System → ℤ → ℕ → Count → Type 0
NoPointFound S fuel room c = test S.p 0 (context_of S) (record { fuel = unsigned_abs fuel; room = room }) nothing ≡ Ok (false, c)

-- 11, 12 (with some row and column) and 21 come before the run, where nothing is counted; 13 comes with no values, and its count is that of the
-- test of the context; the others come with the steps that were made; a solve is refused by no others
abbrev pub Told : System → ℤ → ℕ → Refusal → Count → Type 0
Told S fuel room Counts c = ReportIs Counts 11 None × (c ≡ nothing)
Told S fuel room (Number row column) c = ReportIs (Number row column) 12 (Two row column) × (c ≡ nothing)
Told S fuel room Fuel c = ReportIs Fuel 21 None × (c ≡ nothing)
Told S fuel room NoParameterPoint c = ReportIs NoParameterPoint 13 None × NoPointFound S fuel room c
Told S fuel room (WorkFull m) c = WithSteps (WorkFull m) 22 c
Told S fuel room (FuelSpent m) c = WithSteps (FuelSpent m) 24 c
Told S fuel room (Range m) c = WithSteps (Range m) 31 c
Told S fuel room (Cuts m) c = WithSteps (Cuts m) 32 c
Told S fuel room (NewParameters m) c = WithSteps (NewParameters m) 33 c
Told S fuel room (Depth m) c = WithSteps (Depth m) 34 c
Told S fuel room _ c = ⊥

-- each refused solve tells this
abbrev pub StopsTold : Type 0
StopsTold = (S : System) (fuel : ℤ) (room : ℕ) (s : Stopped) → solved S fuel room ≡ Err s → Told S fuel room s.why s.count
