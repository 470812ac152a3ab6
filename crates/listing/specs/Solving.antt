-- A listing solved on a sheet, and what is printed for one.
use Rattle.std.specs.Prelude.{ℕ, List, length, Ok, Err, Result}
use Rattle.base.specs.declared.refusal.Refusal.{Refusal}
use Rattle.source.specs.Systems.{System}
use Rattle.store.specs.Stores.{Meaning}
use Rattle.tree.specs.Trees.{Tree}
use Rattle.tree.specs.declared.node.Node.{Node}
use Rattle.solver.specs.declared.run.Solved.{Solved}
use Rattle.solver.specs.Runs.{Outcome}
use Rattle.solver.specs.Solves.{solve_answer, solved, work_after, written}
use Rattle.sheet.specs.Sheets.{replaced, solved_here}
use Rattle.listing.specs.Listings.{Meant, and_then, read_answer}
use Rattle.listing.specs.Texts.{refusal_text, tree_text}

-- ---- on any sheet: steps and nodes, or the refusal of the text or of the solve
abbrev pub text_solved : Meaning → List ℕ → ℕ → Result Solved Refusal
text_solved m text room = and_then (read_answer text) (λ l. solve_answer (solved_here m l.system l.fuel room))

-- a text that is refused leaves the sheet as it was; a solve leaves it as a solve does
abbrev pub sheet_by : Meaning → ℕ → Result Meant Refusal → Meaning
sheet_by m room (Ok l) = replaced m l.system (solved_here m l.system l.fuel room)
sheet_by m room (Err e) = m

abbrev pub sheet_left : Meaning → List ℕ → ℕ → Meaning
sheet_left m text room = sheet_by m room (read_answer text)

-- and so with the work table
abbrev pub work_by : Meaning → List Node → Result Meant Refusal → List Node
work_by m before (Ok l) = work_after l.system (length before) (solved_here m l.system l.fuel (length before))
work_by m before (Err e) = before

abbrev pub work_left : Meaning → List ℕ → List Node → List Node
work_left m text before = work_by m before (read_answer text)

-- ---- what is printed: the tree of the solve with a work table of 64 nodes and the steps made, or by which number the text or the solve is refused
abbrev pub shown_by : System → Outcome Tree → List ℕ
shown_by S (Ok v) = tree_text (written S v.0) v.1.steps
shown_by S (Err s) = refusal_text s.why

abbrev pub answer_by : Result Meant Refusal → List ℕ
answer_by (Ok l) = shown_by l.system (solved l.system l.fuel 64)
answer_by (Err e) = refusal_text e

abbrev pub answer_text : List ℕ → List ℕ
answer_text text = answer_by (read_answer text)
