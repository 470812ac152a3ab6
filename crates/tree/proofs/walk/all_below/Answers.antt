use Rattle.std.proofs.Common.{◌&&◌, pos, rules, tests}
use lib.Signed.{le_z, lt_z}
use Rattle.std.proofs.lemmas.Iterator.{YieldsList-from_slice}
use Rattle.std.proofs.lemmas.Iterator.Search.{all_from_yields_List}
use Rattle.tree.proofs.walk.all_below.Goals as goal

pub returns : goal.returns
returns c = record { value = all_from_yields_List (λ x. le_z (pos 0) x && lt_z x c.args.d) _ _ c.all.result c.all.ensures.ran (YieldsList-from_slice c.args.form.now cc) (λ x b q k. search (rules, tests)) }
