use Rattle.std.proofs.Common.{◌∙◌, rules, tests}
use Rattle.std.proofs.lemmas.Iterator.{YieldsList-from_slice}
use Rattle.std.proofs.lemmas.Iterator.Consumers.{YieldsList-from_enumerate}
use Rattle.std.proofs.lemmas.Iterator.Search.{all_from_yields_List}
use Rattle.page.specs.Fits.{number_fits}
use Rattle.page.proofs.Testing.{form-is}
use Rattle.page.proofs.number.form_fits.Goals as goal

pub returns : goal.returns
returns c =
    let p = c.args.p in
    let made = c.args.made in
    let C = c.args.form.now in
    record { value = all_from_yields_List (λ q. number_fits p made q.0 q.1) _ _ c.all.result c.all.ensures.ran (YieldsList-from_enumerate (YieldsList-from_slice C (cc)) cc) (λ x b q k. search (rules, tests)) ∙ form-is p made C }
