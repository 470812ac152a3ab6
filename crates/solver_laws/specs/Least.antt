-- Whatever a solve answers is right.
use Rattle.std.specs.Prelude.{◌≡◌, ℕ, List, ℤ, Ok}
use Rattle.source.specs.Systems.{MeetsContext, System}
use Rattle.tree.specs.Answers.{answer_at}
use Rattle.tree.specs.Trees.{Tree}
use Rattle.solver.specs.declared.count.Count.{Count}
use Rattle.solver.specs.Solves.{solved}
use Rattle.solver_laws.specs.Meaning.{RightAnswer}

-- at every parameter point that meets the context, the tree answers the least point of the system there; or it says none, and there is none
abbrev pub LeastPoint : Type 0
LeastPoint = (S : System) (fuel : ℤ) (room : ℕ) (t : Tree) (c : Count) → solved S fuel room ≡ Ok (t, c) → (z : List ℕ) → MeetsContext S z → RightAnswer S z (answer_at t z)
