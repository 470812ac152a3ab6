use Rattle.sheet.proofs.Paging.{page-of-tree}
use Rattle.sheet.proofs.law.solved_pages_stand.Goals as goal

pub returns : goal.returns
returns c = page-of-tree
