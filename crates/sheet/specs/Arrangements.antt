-- Which lists of events are arrangements of calls on one sheet.
use Rattle.std.specs.Prelude.{◌≡◌, ℕ, List, [], ◌∷◌, length}
use Rattle.store.specs.Stores.{Costs, Meaning, fresh}
use Rattle.tree.specs.Finds.{found_in, left_of, said_of}
use Rattle.solver.specs.Solves.{solve_answer, work_after}
use Rattle.sheet.specs.Events.{Event, find, solve, wipe}
use Rattle.sheet.specs.Sheets.{emptied, replaced, solved_here}

-- the call, made where the store means m, answers and leaves what the event says
abbrev pub Gives : Meaning → Event → Type 0
Gives m (solve s) =
    let o = solved_here m s.system s.fuel s.room in
    (s.answer ≡ solve_answer o) × (s.work ≡ work_after s.system s.room o)
Gives m (find f) =
    let o = found_in m.nodes f.point in
    (f.answer ≡ said_of o) × (f.place ≡ left_of o)
Gives m (wipe n) = n ≡ length m.nodes

-- and what the store means then
abbrev pub after : Meaning → Event → Meaning
after m (solve s) = replaced m s.system (solved_here m s.system s.fuel s.room)
after m (find f) = m
after m (wipe n) = emptied m

-- the calls are made one after another, the first where the store means m
abbrev pub Made : Meaning → List Event → Type 0
Made m [] = Unit {0}
Made m (e ∷ events) = Gives m e × Made (after m e) events

abbrev pub after_all : Meaning → List Event → Meaning
after_all m [] = m
after_all m (e ∷ events) = after_all (after m e) events

-- an arrangement of calls on one sheet straight from its making, over a store of this capacity and these costs
abbrev pub Arrangement : ℕ → Costs → List Event → Type 0
Arrangement capacity costs events = Made (fresh capacity costs) events

-- an arrangement after which the store means m
pub record LeadsTo (events : List Event) (m : Meaning) : Type 0 where
  pub made : Arrangement m.capacity m.costs events
  pub now : after_all (fresh m.capacity m.costs) events ≡ m

-- some arrangement leads to where the store means m
abbrev pub Reached : Meaning → Type 0
Reached m = (events : List Event) × LeadsTo events m
