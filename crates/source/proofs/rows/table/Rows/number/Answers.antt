use Rattle.std.proofs.Common.{sym, arith}
use Rattle.source.proofs.Tables.{entry-below, entry-beside}
use Rattle.source.proofs.rows.table.Rows.number.Goals as goal
use Rattle.source.proofs.rows.table.Rows.number.Goals.{else-row-self-via-then-row-self+else-column-self, else-row-self-via-else-row-self}

pub returns-else-row-self : goal.returns-else-row-self
returns-else-row-self g c =
    let s = c.args.self.now in
    elim c.else-row-self.branch [
      | else-row-self-via-then-row-self+else-column-self w ↦
          record { value = sym (entry-beside s.width s.count s.numbers c.args.row c.args.column (omega arith)) }
      | else-row-self-via-else-row-self w ↦ record { value = sym (entry-below s.width s.count s.numbers c.args.row c.args.column (omega arith)) }
    ]
