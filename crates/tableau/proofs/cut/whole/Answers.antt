use Rattle.std.proofs.Common.{Bool, ℤ, rules}
use borrow.Author.Tests.{tests}
use Rattle.std.proofs.lemmas.Iterator.{YieldsList-from_slice}
use Rattle.std.proofs.lemmas.Iterator.Search.{all_from_yields_List}
use Rattle.base.specs.Numbers.{is_zero, mod_by}
use Rattle.tableau.proofs.cut.whole.Goals as goal

pub returns : goal.returns
returns c =
    let r = c.args.row.now in
    let p : ℤ → Bool = λ x. is_zero (mod_by r.div x) in
    all_from_yields_List p _ _ _ c.all.ensures.ran (YieldsList-from_slice r.form cc) (λ x b q k. search (rules, tests))
