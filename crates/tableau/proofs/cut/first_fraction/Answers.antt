use Rattle.std.proofs.Common.{◌∙◌, Bool, not, rules}
use borrow.Author.Tests.{tests}
use Rattle.std.proofs.lemmas.Iterator.{YieldsList-from_slice}
use Rattle.std.proofs.lemmas.Iterator.Adapters.{position_from-zero, serves_from_places}
use Rattle.std.proofs.lemmas.Iterator.Search.{position_from_yields_List}
use Rattle.tableau.specs.declared.table.Row.{Row}
use Rattle.tableau.specs.Cuts.{whole}
use Rattle.tableau.specs.Rows.{Sound}
use Rattle.tableau.specs.Tables.{top}
use Rattle.tableau.proofs.Searches.{first_fraction-is, top-sound}
use Rattle.tableau.proofs.cut.first_fraction.Goals as goal

pub position-requires-clause-callable : goal.position-requires-clause-callable
position-requires-clause-callable c =
    serves_from_places (YieldsList-from_slice (top c.args.t.now) cc) (λ x q k. search rules)
    (λ x k lt e. let sound : Sound x.now = top-sound c.args.t.now c.requires x.now k lt e in search rules)

pub returns-clause-value : goal.returns-clause-value
returns-clause-value c =
    let hs = top c.args.t.now in
    let p : Row → Bool = λ r. not (whole r) in
    position_from_yields_List p _ _ _ c.position.ensures.ran (YieldsList-from_slice hs cc) (λ x b q k. search (rules, tests)) ∙ position_from-zero p hs ∙ first_fraction-is 0 hs
