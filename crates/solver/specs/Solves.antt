-- A solve from end to end.
use Rattle.std.specs.Prelude.{ℕ, zero, suc, ◌+◌, ◌-◌, Bool, true, false, cond, ◌&&◌, List, [], ◌∷◌, ◌++◌, map, length, take, drop, replicate, ℤ, pos, Ok, Err, Result, int_le, unsigned_abs}
use Rattle.base.specs.declared.refusal.Place.TheVariants.{Node}
use Rattle.base.specs.declared.refusal.Refusal.{Refusal}
use Rattle.base.specs.Refusals.{and_then}
use Rattle.base.specs.declared.refusal.Refusal.TheVariants.{Fuel, NoParameterPoint}
use Rattle.base.specs.Numbers.{at, zeros}
use Rattle.source.specs.Limits.{counts_answer, numbers_answer}
use Rattle.source.specs.Systems.{System}
use Rattle.tableau.specs.declared.table.Row.{Row}
use Rattle.tree.specs.declared.node.Node.{Node as TreeNode}
use Rattle.tree.specs.declared.node.Node.TheVariants.{Head, Keep, None as Blank}
use Rattle.tree.specs.Trees.{Tree, nodes}
use Rattle.solver.specs.declared.count.Count.{Count}
use Rattle.solver.specs.declared.count.Stopped.{Stopped}
use Rattle.solver.specs.declared.run.Solved.{Solved}
use Rattle.solver.specs.Runs.{Outcome, Run, fail, return, ◌>>=◌, ◌>>◌, stopped, write}
use Rattle.tableau.specs.Tables.{unit_rows}
use Rattle.solver.specs.Rules.{Work, node, test}

-- ---- a system's rows as rows of the table
-- the first numbers of a row, 0 where there is none
abbrev pub fitted : ℕ → List ℤ → List ℤ
fitted zero row = []
fitted (suc w) [] = pos 0 ∷ fitted w []
fitted (suc w) (x ∷ xs) = x ∷ fitted w xs

-- p coefficients and the constant after them
abbrev pub form_of : ℕ → List ℤ → List ℤ
form_of p row = take p row ++ (zeros (9 - p) ++ at row p ∷ [])

abbrev pub row_of : ℕ → ℕ → List ℤ → Row
row_of n p row = record { coefs = take n row ++ zeros (9 - n); form = form_of p (drop n row); div = pos 1 }

abbrev pub rows_of : System → List (List ℤ)
rows_of S = map (fitted (S.n + S.p + 1)) S.rows

abbrev pub context_of : System → List (List ℤ)
context_of S = map (λ row. form_of S.p (fitted (S.p + 1) row)) S.context

-- one row for each unknown (itself), then the system's rows; the context is the system's context rows
abbrev pub start : System → Work
start S =
    record {
      top = unit_rows 0 S.n;
      rest = map (row_of S.n S.p) (rows_of S);
      context = context_of S;
      parameters = S.p;
      made = 0;
      cuts = 0;
    }

-- ---- the limits of a system, in this order
-- the numbers of each row, the first of them being row i
abbrev pub numbers_fit : ℕ → List (List ℤ) → Result (Unit {0}) Refusal
numbers_fit i [] = Ok tt
numbers_fit i (row ∷ rows) = and_then (numbers_answer i row) (numbers_fit (i + 1) rows)

abbrev pub fuel_fits : ℤ → Result (Unit {0}) Refusal
fuel_fits fuel = cond (int_le (pos 0) fuel && int_le fuel (pos 100_000)) (Ok tt) (Err Fuel)

abbrev pub system_fits : System → Result (Unit {0}) Refusal
system_fits S =
    and_then (counts_answer S.n S.p (length S.rows) (length S.context))
    (and_then (numbers_fit 0 (rows_of S)) (numbers_fit (length S.rows) (map (fitted (S.p + 1)) S.context)))

-- ---- the context's own test, head and keeps, the tree
unfoldable pub keeps : List (List ℤ) → Run (Unit {0})
keeps [] = return tt
keeps (C ∷ Cs) = write Node >> keeps Cs

-- where no parameter point meets the context, there is nothing to answer for
unfoldable pub begun : Work → Bool → Run Tree
begun s true = write Node >> (keeps s.context >> node 12 s)
begun s false = fail NoParameterPoint

unfoldable pub run : Work → Run Tree
run s = test s.parameters s.made s.context >>= begun s

-- before the run nothing is counted
abbrev pub nothing : Count
nothing = record { steps = 0; nodes = 0 }

-- the run that follows a check, where it passes
abbrev pub run_if : {A : Type 0} → Result (Unit {0}) Refusal → Outcome A → Outcome A
run_if (Ok _) o = o
run_if (Err why) o = Err (stopped why nothing)

-- what a solve answers, with the tree
unfoldable pub solved : System → ℤ → ℕ → Outcome Tree
solved S fuel room =
    run_if (system_fits S) (run_if (fuel_fits fuel) (run (start S) (record { fuel = unsigned_abs fuel; room = room }) nothing))

-- ---- what the caller sees
-- the tree as written: the head, the keeps, then the nodes as made
abbrev pub written : System → Tree → List TreeNode
written S t = Head S.n S.p ∷ (map Keep (context_of S) ++ nodes t)

abbrev pub solve_answer : Outcome Tree → Result Solved Refusal
solve_answer (Ok v) = Ok (record { steps = v.1.steps; nodes = v.1.nodes })
solve_answer (Err s) = Err s.why

-- the same, where a refusal comes with its count
abbrev pub counted_answer : Outcome Tree → Result Solved Stopped
counted_answer (Ok v) = Ok (record { steps = v.1.steps; nodes = v.1.nodes })
counted_answer (Err s) = Err s

-- the tree with blank nodes after it, or all blank
abbrev pub work_after : System → ℕ → Outcome Tree → List TreeNode
work_after S room (Ok v) = written S v.0 ++ replicate (room - length (written S v.0)) Blank
work_after S room (Err s) = replicate room Blank
