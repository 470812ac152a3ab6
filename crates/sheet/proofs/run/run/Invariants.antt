use Rattle.std.proofs.Common.{◌≡◌, List, take, length, ◌≤◌}
use Rattle.std.specs.Prelude.{vec_len, vec_capacity}
use Rattle.sheet.specs.Events.{Event}
use Rattle.sheet.specs.Arrangements.{Made, after_all}
use Rattle.sheet.specs.Logs.{Log, work_left}
use Rattle.sheet.proofs.run.run.Given as goal

-- the calls so far and their answers are events that were made, one after another; there is room for each answer that is to come
abbrev pub invariant-loop-call : goal.invariant-loop-call
invariant-loop-call g l =
    (events : List Event) × Log g.S.Source.meaning (length l.fn.work) (take l.call-index l.calls) l.answers.items events × Made l.fn.sheet events × (l.sheet ≡ after_all l.fn.sheet events)
    × (l.work ≡ work_left l.fn.work events) × (vec_len l.answers ≡ l.call-index) × (length l.calls ≤ vec_capacity l.answers)
