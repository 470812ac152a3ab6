use Rattle.solver.proofs.Writing.{Kept}
use Rattle.solver.proofs.run.write_keeps.Given as goal

abbrev pub invariant-loop-form : goal.invariant-loop-form
invariant-loop-form l = Kept l.ctx l.initial.work l.initial.count l.form-index l.work l.count
