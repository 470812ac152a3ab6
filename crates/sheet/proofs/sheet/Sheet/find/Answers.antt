use Rattle.std.proofs.Common.{refl, subst, ap, ◌∙◌}
use Rattle.store.specs.Stores.{Meaning}
use Rattle.tree.specs.Finds.{found_in, left_of, said_of}
use Rattle.sheet.specs.Arrangements.{Reached}
use Rattle.sheet.specs.Events.{find}
use Rattle.sheet.proofs.Arranged.{next, next-find}
use Rattle.sheet.proofs.Paging.{replies-alike}
use Rattle.sheet.proofs.sheet.Sheet.find.Goals as goal

pub returns-clause-law : goal.returns-clause-law
returns-clause-law g c =
    let p = c.args.point.now in
    next c.args.self.now (find (record { point = p; answer = c.find.result; place = c.find.new.place })) _
    (c.find.ensures.answer ∙ ap (λ (m : Meaning). said_of (found_in m.nodes p)) c.self.view_is, c.find.ensures.left ∙ ap (λ (m : Meaning). left_of (found_in m.nodes p)) c.self.view_is) refl

pub returns-clause-right : goal.returns-clause-right
returns-clause-right g c =
    let p = c.args.point.now in
    next-find c.args.self.now (record { point = p; answer = c.find.result; place = c.find.new.place })
    (c.find.ensures.answer ∙ ap (λ (m : Meaning). said_of (found_in m.nodes p)) c.self.view_is, c.find.ensures.left ∙ ap (λ (m : Meaning). left_of (found_in m.nodes p)) c.self.view_is)

pub returns-clause-reached : goal.returns-clause-reached
returns-clause-reached g c = subst (λ m. ∥ Reached m ∥₁) c.self.view_is c.self.invariant

pub returns-clause-page : goal.returns-clause-page
returns-clause-page g c =
    let p = c.args.point.now in
    replies-alike c.args.self.now (record { point = p; answer = c.find.result; place = c.find.new.place })
    (c.find.ensures.answer ∙ ap (λ (m : Meaning). said_of (found_in m.nodes p)) c.self.view_is, c.find.ensures.left ∙ ap (λ (m : Meaning). left_of (found_in m.nodes p)) c.self.view_is)
