-- What holds of every solve by the rules.
use Rattle.std.specs.Prelude.{◌≡◌, ℕ, ◌≤◌, length, ℤ, Ok, unsigned_abs}
use Rattle.source.specs.Systems.{System}
use Rattle.tree.specs.Trees.{Tree}
use Rattle.solver.specs.declared.count.Count.{Count}
use Rattle.solver.specs.Runs.{end_count, steps_of}
use Rattle.solver.specs.Solves.{solved, written}

-- a solve makes no more steps than its fuel allows, however it ends
abbrev pub WithinFuel : Type 0
WithinFuel = (S : System) (fuel : ℤ) (room : ℕ) → steps_of (solved S fuel room) ≤ unsigned_abs fuel

-- and writes no more nodes than the work table holds
abbrev pub WithinRoom : Type 0
WithinRoom = (S : System) (fuel : ℤ) (room : ℕ) → (end_count (solved S fuel room)).nodes ≤ room

abbrev pub SolveLaws : Type 0
SolveLaws = WithinFuel × WithinRoom

-- the nodes that an accepted solve counts are those that its one tree is written in: head, keeps and the nodes as made
abbrev pub NodesCounted : Type 0
NodesCounted = (S : System) (fuel : ℤ) (room : ℕ) (t : Tree) (c : Count) → solved S fuel room ≡ Ok (t, c) → c.nodes ≡ length (written S t)
