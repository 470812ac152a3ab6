use Rattle.std.proofs.Common.{length, ap, ◌∙◌}
use Rattle.store.specs.Stores.{Meaning}
use Rattle.sheet.specs.Sheets.{emptied}
use Rattle.sheet.specs.Events.{wipe}
use Rattle.sheet.proofs.Arranged.{next, reach}
use Rattle.sheet.proofs.sheet.Sheet.wipe.Goals as goal

pub invariant_of-self : goal.invariant_of-self
invariant_of-self g c = reach (g.T.Store.meaning c.self.inside.store) (wipe c.count-count.result) _ c.count-count.ensures.answer c.empty.ensures.left c.self.invariant

pub returns-clause-law : goal.returns-clause-law
returns-clause-law g c =
    next c.args.self.now (wipe c.count-count.result) _
    (c.count-count.ensures.answer ∙ ap (λ (m : Meaning). length m.nodes) c.self.view_is) (c.empty.ensures.left ∙ ap emptied c.self.view_is)

pub returns-clause-reached : goal.returns-clause-reached
returns-clause-reached g c = invariant_of-self g c
