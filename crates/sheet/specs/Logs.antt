-- A list of calls and their answers as events.
use Rattle.std.specs.Prelude.{◌≡◌, ℕ, List, [], ◌∷◌, length}
use Rattle.source.specs.Systems.{System}
use Rattle.tree.specs.declared.node.Node.{Node}
use Rattle.sheet.specs.declared.call.Call.{Call}
use Rattle.sheet.specs.declared.call.Call.TheVariants.{Solve as solve_call, Find as find_call, Wipe as wipe_call}
use Rattle.sheet.specs.declared.call.Answer.{Answer}
use Rattle.sheet.specs.declared.call.Answer.TheVariants.{Solved, Found, Wiped}
use Rattle.store.specs.Stores.{Meaning}
use Rattle.sheet.specs.Events.{Event, find, find_of, solve, wipe}
use Rattle.sheet.specs.Arrangements.{Gives, Made, after as afterwards, after_all}
use Rattle.sheet.specs.Laws.{LeadsOn}

-- The call and its answer are this event, where a source means the table that `meaning` says and the work table has `room` nodes. The work
-- table that a solve left is not in its answer: the event has it.
abbrev pub Logs : {S : Type 0} → (S → System) → ℕ → Call S → Answer → Event → Type 0
Logs meaning room (solve_call source fuel) (Solved said) e =
    (work : List Node) × (e ≡ solve (record { system = meaning source; room = room; fuel = fuel; answer = said; work = work }))
Logs meaning room (find_call point) (Found said place) e = e ≡ find (find_of point.items said place)
Logs meaning room wipe_call (Wiped n) e = e ≡ wipe n
Logs meaning room (solve_call source fuel) (Found said place) e = ⊥
Logs meaning room (solve_call source fuel) (Wiped n) e = ⊥
Logs meaning room (find_call point) (Solved said) e = ⊥
Logs meaning room (find_call point) (Wiped n) e = ⊥
Logs meaning room wipe_call (Solved said) e = ⊥
Logs meaning room wipe_call (Found said place) e = ⊥

-- and so are the calls and their answers, one after another
abbrev pub Log : {S : Type 0} → (S → System) → ℕ → List (Call S) → List Answer → List Event → Type 0
Log meaning room [] [] [] = Unit {0}
Log meaning room (c ∷ cs) (a ∷ rest) (e ∷ es) = Logs meaning room c a e × Log meaning room cs rest es
Log meaning room [] [] (e ∷ es) = ⊥
Log meaning room [] (a ∷ rest) es = ⊥
Log meaning room (c ∷ cs) [] es = ⊥
Log meaning room (c ∷ cs) (a ∷ rest) [] = ⊥

-- the work table after these events: as the latest solve among them left it
abbrev pub work_left : List Node → List Event → List Node
work_left now [] = now
work_left now (solve s ∷ events) = work_left s.work events
work_left now (find f ∷ events) = work_left now events
work_left now (wipe n ∷ events) = work_left now events

-- One call, made where the store meant m and the work table was `before`, gave this answer, and then the store means n and the work table is `after`.
abbrev pub MadeOne : {S : Type 0} → (S → System) → Call S → Answer → Meaning → Meaning → List Node → List Node → Type 0
MadeOne meaning call answer m n before after =
    (e : Event) × Logs meaning (length before) call answer e × Gives m e × (n ≡ afterwards m e) × (after ≡ work_left before (e ∷ []))

-- The calls, made where the store meant m and the work table was `before`, gave these answers, and then the store means n and the work table
-- is `after`: they are events, made one after another, which lead on from m to n.
abbrev pub Ran : {S : Type 0} → (S → System) → List (Call S) → List Answer → Meaning → Meaning → List Node → List Node → Type 0
Ran meaning calls answers m n before after =
    (events : List Event) × Log meaning (length before) calls answers events × Made m events × (n ≡ after_all m events) × LeadsOn m events n × (after ≡ work_left before events)
