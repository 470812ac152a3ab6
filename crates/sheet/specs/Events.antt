-- Calls on a sheet, each with what it answered and left in its caller's memory; and the system that stands after them.
use Rattle.std.specs.Prelude.{ℕ, List, [], ◌∷◌, length, ℤ, Some, None, Ok, Err, Option, Result}
use Rattle.base.specs.declared.refusal.Refusal.{Refusal}
use Rattle.source.specs.Systems.{System}
use Rattle.tree.specs.declared.node.Node.{Node}
use Rattle.tree.specs.declared.walk.Found.{Found}
use Rattle.solver.specs.declared.run.Solved.{Solved}

-- a solve: the table that its source meant at the call, the length of the work table, the fuel; the answer, and the work table as it was left
pub record Solve : Type 0 where
  pub system : System
  pub room : ℕ
  pub fuel : ℤ
  pub answer : Result Solved Refusal
  pub work : List Node

-- the solve of this system with this fuel, and the work table before and after it
abbrev pub solve_of : System → ℤ → List Node → Result Solved Refusal → List Node → Solve
solve_of S fuel before answer after = record { system = S; room = length before; fuel = fuel; answer = answer; work = after }

-- a find: its point; the answer, and the place of six as it was left
pub record Find : Type 0 where
  pub point : List ℤ
  pub answer : Result Found Refusal
  pub place : List ℤ

-- the find at this point, and the place of six after it
abbrev pub find_of : List ℤ → Result Found Refusal → List ℤ → Find
find_of point answer after = record { point = point; answer = answer; place = after }

-- a call of one of three kinds; a wipe answers how many nodes went
pub data Event : Type 0 where
  solve : Solve → Event
  find : Find → Event
  wipe : ℕ → Event

-- a list of one event
abbrev pub one_solve : System → ℤ → List Node → Result Solved Refusal → List Node → List Event
one_solve S fuel before answer after = solve (solve_of S fuel before answer after) ∷ []

abbrev pub one_find : List ℤ → Result Found Refusal → List ℤ → List Event
one_find point answer after = find (find_of point answer after) ∷ []

abbrev pub one_wipe : ℕ → List Event
one_wipe n = wipe n ∷ []

-- the system that stands after a solve, by its answer alone: its own if it is accepted
abbrev pub standing_by : Option System → System → Result Solved Refusal → Option System
standing_by now S (Ok v) = Some S
standing_by now S (Err e) = now

-- and after these events, the first of them first
abbrev pub standing_after : Option System → List Event → Option System
standing_after now [] = now
standing_after now (solve s ∷ events) = standing_after (standing_by now s.system s.answer) events
standing_after now (find f ∷ events) = standing_after now events
standing_after now (wipe n ∷ events) = standing_after None events

-- the system of the latest accepted solve, if no wipe came after it
abbrev pub standing : List Event → Option System
standing events = standing_after None events
