use Rattle.tableau_laws.proofs.Lowest.{lowest-at, value-lowest}
use Rattle.tableau_laws.proofs.Turns.{value-turned}
use Rattle.tableau_laws.proofs.Cuts.{new-cut, new-holds, plain-cut, setting-natural, value-new}
use Rattle.tableau_laws.proofs.Start.{start_right}
use Rattle.tableau_laws.proofs.Pivots.{pivot-keeps}
use Rattle.tableau_laws.proofs.CutKeeps.{cut_keeps, new-keeps}
use Rattle.tableau_laws.proofs.Leaves.{leaf-right, none_right}
use Rattle.tableau_laws.proofs.table_laws_stand.Goals as goal

pub returns : goal.returns
returns c = (
  (value-turned, value-lowest, value-new),
  (lowest-at, plain-cut, new-cut),
  (start_right, pivot-keeps, cut_keeps, new-keeps),
  (new-holds, setting-natural),
  (none_right, leaf-right),
)
