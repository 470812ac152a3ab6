use Rattle.std.proofs.Common.{◌∙◌}
use Rattle.page.proofs.Holding.{holdable-from}
use Rattle.page_store.proofs.Standing.{never-refused, read_back}
use Rattle.page_store.proofs.read.first_node.Goals as goal

pub returns-in-Ok : goal.returns-in-Ok
returns-in-Ok c = record { value = λ x rest h e. c.node_of.ensures.value ∙ read_back x rest c.args.bytes.now c.in-Ok.record c.in-Ok.field-0-1 (holdable-from x h) e c.in-Ok.ensures.reads }

pub returns-in-Err : goal.returns-in-Err
returns-in-Err c = record { value = λ x rest h e. absurd (never-refused x rest c.args.bytes.now c.in-Err.field-0 (holdable-from x h) e c.in-Err.ensures.reads) }
