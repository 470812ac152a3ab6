-- What each call of a sheet answers and leaves, over what its store means.
use Rattle.std.specs.Prelude.{ℕ, false, List, length, ℤ, Ok, Err, Result}
use Rattle.base.specs.declared.refusal.Refusal.{Refusal}
use Rattle.source.specs.Systems.{System}
use Rattle.store.specs.Stores.{Meaning, fresh, holding, install_answer}
use Rattle.tree.specs.declared.node.Node.{Node}
use Rattle.tree.specs.Trees.{Tree}
use Rattle.solver.specs.declared.count.Count.{Count}
use Rattle.solver.specs.declared.count.Stopped.{Stopped}
use Rattle.solver.specs.declared.run.Solved.{Solved}
use Rattle.solver.specs.Runs.{Outcome, stopped}
use Rattle.solver.specs.Solves.{counted_answer, solve_answer, solved, work_after, written}

-- if the tree costs more than the store's capacity the solve is refused by 23, after the steps of its run
abbrev pub after_install : Result (Unit {0}) Refusal → Tree × Count → Outcome Tree
after_install (Ok _) v = Ok v
after_install (Err e) v = Err (stopped e v.1)

abbrev pub held : Meaning → System → Outcome Tree → Outcome Tree
held m S (Ok v) = after_install (install_answer m (written S v.0)) v
held m S (Err s) = Err s

-- what a solve comes to on a sheet, with the tree
abbrev pub solved_here : Meaning → System → ℤ → ℕ → Outcome Tree
solved_here m S fuel room = held m S (solved S fuel room)

-- the answer of a solve without the count that a refusal comes with
abbrev pub uncounted : Result Solved Stopped → Result Solved Refusal
uncounted (Ok v) = Ok v
uncounted (Err s) = Err s.why

-- an accepted tree takes the place of the one before
abbrev pub replaced : Meaning → System → Outcome Tree → Meaning
replaced m S (Ok v) = holding m (written S v.0) false
replaced m S (Err s) = m

-- so, with a work table of these nodes: what a solve comes to, what it answers, and what the work table and the store hold then
abbrev pub outcome : Meaning → System → ℤ → List Node → Outcome Tree
outcome m S fuel work = solved_here m S fuel (length work)

abbrev pub solve_says : Meaning → System → ℤ → List Node → Result Solved Refusal
solve_says m S fuel work = solve_answer (outcome m S fuel work)

abbrev pub solve_counts : Meaning → System → ℤ → List Node → Result Solved Stopped
solve_counts m S fuel work = counted_answer (outcome m S fuel work)

abbrev pub table_after : Meaning → System → ℤ → List Node → List Node
table_after m S fuel work = work_after S (length work) (outcome m S fuel work)

abbrev pub store_after : Meaning → System → ℤ → List Node → Meaning
store_after m S fuel work = replaced m S (outcome m S fuel work)

-- closed, and no node listed, as a fresh store: so a sheet is made, and so a wipe leaves it
abbrev pub emptied : Meaning → Meaning
emptied m = fresh m.capacity m.costs
