use Rattle.std.proofs.Common.{sym, subst}
use Rattle.sheet.specs.Arrangements.{LeadsTo, Reached}
use Rattle.sheet.proofs.Arranged.{fresh-leads, reach-first}
use Rattle.sheet.proofs.sheet.Sheet.new.Goals as goal

pub invariant_of-result : goal.invariant_of-result
invariant_of-result g c = subst (λ m. ∥ Reached m ∥₁) (sym c.empty.ensures.left) (reach-first (g.T.Store.meaning c.args.store))

pub returns-clause-law : goal.returns-clause-law
returns-clause-law g c = subst (LeadsTo _) (sym c.empty.ensures.left) (fresh-leads (g.T.Store.meaning c.args.store))
