use Rattle.std.proofs.Common.{cond, ltb, ◌∙◌, rules, tests}
use Rattle.std.proofs.lemmas.Iterator.{YieldsList-from_slice}
use Rattle.std.proofs.lemmas.Iterator.Consumers.{YieldsList-from_enumerate}
use Rattle.std.proofs.lemmas.Iterator.Search.{all_from_yields_List}
use Rattle.page.specs.Fits.{form_fits}
use Rattle.base.specs.Numbers.{all_zero}
use Rattle.page.proofs.Testing.{leaf-is}
use Rattle.page.proofs.number.leaf_fits.Goals as goal

pub returns : goal.returns
returns c =
    let n = c.args.n in
    let p = c.args.p in
    let made = c.args.made in
    let Cs = c.args.forms.now in
    record { value = all_from_yields_List (λ q. cond (ltb q.0 n) (form_fits p made q.1) (all_zero q.1)) _ _ c.all.result c.all.ensures.ran (YieldsList-from_enumerate (YieldsList-from_slice Cs (cc)) cc) (λ x b q k. search (rules, tests)) ∙ leaf-is n p made Cs }
