use Rattle.std.proofs.Common.{length}
use Rattle.page.proofs.Replying.{Asking}
use Rattle.page.proofs.reply.find.Given as goal

abbrev pub invariant-loop-found : goal.invariant-loop-found
invariant-loop-found l = Asking l.walk l.rest l.page l.point

abbrev pub decreases-loop-found : goal.decreases-loop-found
decreases-loop-found l = length l.rest
