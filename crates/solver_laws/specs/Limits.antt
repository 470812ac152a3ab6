-- Every tree that a solve answers is within the limits of a tree.
use Rattle.std.specs.Prelude.{◌≡◌, ℕ, ℤ, Ok}
use Rattle.source.specs.Systems.{System}
use Rattle.tree.specs.Limits.{WithinLimits}
use Rattle.tree.specs.Trees.{Tree}
use Rattle.solver.specs.declared.count.Count.{Count}
use Rattle.solver.specs.Solves.{context_of, solved}

-- its depth, its new parameters, its numbers, the places that its forms use, and its keeps
abbrev pub TreeLimits : Type 0
TreeLimits = (S : System) (fuel : ℤ) (room : ℕ) (t : Tree) (c : Count) → solved S fuel room ≡ Ok (t, c) → WithinLimits S.n S.p (context_of S) t
