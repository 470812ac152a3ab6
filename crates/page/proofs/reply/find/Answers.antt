use Rattle.std.proofs.Common.{ap, ◌∙◌}
use Rattle.tree.specs.Finds.{said_of}
use Rattle.tree.specs.Walks.{six_of}
use Rattle.tree.proofs.Turns.{left-six, said-six}
use Rattle.page.proofs.Replying.{asking-end, asking-on}
use Rattle.page.proofs.reply.find.Goals as goal

pub loop-found-preserved : goal.loop-found-preserved
loop-found-preserved c =
    asking-on c.loop-found.walk c.see.new.self c.loop-found.rest.now c.args.page.now c.args.point.now (c.in-Ok.found, c.in-Ok.after) c.node_of.result c.loop-found.invariant c.in-Ok.ensures.reads c.in-Ok.ensures.shorter c.node_of.ensures.value c.see.ensures.follows

pub returns-clause-answer : goal.returns-clause-answer
returns-clause-answer c =
    c.tell-2.ensures.answer ∙ ap said_of (asking-end c.loop-found.walk c.loop-found.rest.now c.args.page.now c.args.point.now c.in_default.field-0 c.loop-found.invariant c.in_default.ensures.reads) ∙ said-six _

pub returns-clause-left : goal.returns-clause-left
returns-clause-left c =
    c.tell-2.ensures.left ∙ ap six_of (asking-end c.loop-found.walk c.loop-found.rest.now c.args.page.now c.args.point.now c.in_default.field-0 c.loop-found.invariant c.in_default.ensures.reads) ∙ left-six _
