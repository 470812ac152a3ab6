use Rattle.std.proofs.Common.{◌≤◌, length}
use Rattle.solver.proofs.Writing.{LeafFilled}
use Rattle.solver.proofs.node.leaf_of.Given as goal

abbrev pub invariant-loop-h : goal.invariant-loop-h
invariant-loop-h l = (l.t.unknowns ≤ length l.t.rows) × LeafFilled l.t.rows l.h l.forms
