use Rattle.solver_laws.proofs.Contexts.{context-laws}
use Rattle.solver_laws.proofs.context_laws_stand.Goals as goal

pub returns : goal.returns
returns c = context-laws
