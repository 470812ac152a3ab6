use Rattle.std.proofs.Common.{subst}
use Rattle.sheet.specs.Arrangements.{Reached}
use Rattle.sheet.proofs.sheet.Sheet.was_reached.Goals as goal

pub returns : goal.returns
returns g c = record { reached = subst (λ m. ∥ Reached m ∥₁) c.self.view_is c.self.invariant }
