use Rattle.std.proofs.Common.{length}
use Rattle.page.proofs.Listing.{answered, writes}
use Rattle.page.proofs.write.write_list.Goals as goal

pub returns-clause-law : goal.returns-clause-law
returns-clause-law c =
    let nodes = c.args.nodes.now in
    writes nodes c.args.page.now c.put_all.new.page c.in_ok-length.length c.put_all.ensures.numbers (answered nodes (length c.args.page.now) _ c.in_ok-length.ensures.value) c.put_all.ensures.left
