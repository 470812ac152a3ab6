-- What a solve on a sheet tells where it is refused.
use Rattle.std.specs.Prelude.{◌≡◌, ℕ, ℤ, Ok}
use Rattle.base.specs.declared.refusal.Refusal.{Refusal}
use Rattle.base.specs.declared.refusal.Refusal.TheVariants.{StoreFull}
use Rattle.base.specs.declared.refusal.Values.TheVariants.{None}
use Rattle.source.specs.Systems.{System}
use Rattle.tree.specs.Trees.{Tree}
use Rattle.solver.specs.declared.count.Count.{Count}
use Rattle.solver.specs.declared.count.Stopped.{Stopped}
use Rattle.solver.specs.Solves.{solved}
use Rattle.solver_laws.specs.Stops.{ReportIs, Told}

-- by 23, which comes with no values, the steps and nodes of the whole run, which made a tree; by the others, what the solve itself tells
abbrev pub ToldBy : System → ℤ → ℕ → Refusal → Count → Type 0
ToldBy S fuel room StoreFull c = ReportIs StoreFull 23 None × ((t : Tree) × (solved S fuel room ≡ Ok (t, c)))
ToldBy S fuel room why c = Told S fuel room why c

abbrev pub RefusalTold : System → ℤ → ℕ → Stopped → Type 0
RefusalTold S fuel room s = ToldBy S fuel room s.why s.count
