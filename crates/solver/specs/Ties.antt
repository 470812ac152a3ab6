-- The tables, contexts and states of the code, as the rules see them.
use Rattle.std.specs.Prelude.{◌≡◌, ℕ, suc, ◌+◌, cond, List, [], ◌++◌, map, length, take, drop, ℤ, pos, Ok, Err, Option, Result, int_lt, nat_lt, slice_index_or}
use Rattle.std.specs.List.{position_from}
use Rattle.base.specs.declared.refusal.Place.{Place}
use Rattle.base.specs.declared.refusal.Place.TheVariants.{Node}
use Rattle.base.specs.declared.refusal.Refusal.{Refusal}
use Rattle.base.specs.declared.refusal.Refusal.TheVariants.{FuelSpent, WorkFull}
use Rattle.base.specs.Numbers.{at, quot_by}
use Rattle.source.specs.Counted.{Sizes}
use Rattle.source.specs.Limits.{counts_answer, numbers_answer}
use Rattle.source.specs.Systems.{System}
use Rattle.tableau.specs.declared.table.Row.{Row}
use Rattle.tableau.specs.declared.table.Table.{Table}
use Rattle.tableau.specs.Tables.{no_row, rest, top, unit_rows}
use Rattle.tree.specs.declared.node.Node.{Node as TreeNode}
use Rattle.solver.specs.declared.context.Context.{Context}
use Rattle.solver.specs.declared.count.Count.{Count}
use Rattle.solver.specs.declared.count.Stopped.{Stopped}
use Rattle.solver.specs.declared.sign.Scan.{Scan as Found}
use Rattle.solver.specs.declared.sign.Scan.TheVariants.{Negative, Unsure, Clear}
use Rattle.solver.specs.declared.state.State.{State}
use Rattle.solver.specs.Bounds.{in_force}
use Rattle.solver.specs.Runs.{Limits, Outcome, noted, stepped, stopped_at}
use Rattle.solver.specs.Rules.{Scan, Work, below, clear, unsure}
use Rattle.solver.specs.Solves.{fitted, form_of, numbers_fit, row_of, start, system_fits}
use Rattle.base.specs.Refusals.{and_then}

abbrev pub limits : ℕ → ℕ → Limits
limits fuel room = record { fuel = fuel; room = room }

-- the work with this table
abbrev pub with_table : Table → Work → Work
with_table t s = record { top = top t; rest = rest t; context = s.context; parameters = s.parameters; made = s.made; cuts = s.cuts }

-- the work of a test, which has neither context nor parameters
abbrev pub test_of : Table → ℕ → Work
test_of t cuts = record { top = top t; rest = rest t; context = []; parameters = 0; made = 0; cuts = cuts }

abbrev pub work_of : State → Work
work_of s =
    record {
      top = top s.table;
      rest = rest s.table;
      context = in_force s.context;
      parameters = s.context.parameters;
      made = s.context.made;
      cuts = s.cuts;
    }

-- what a move on the table answers: the work with the table after it, or a refusal
abbrev pub moved : Table → Work → Result Count Stopped → Outcome Work
moved t s (Ok c) = Ok (with_table t s, c)
moved t s (Err e) = Err e

-- a step, as a count alone
abbrev pub ticked : Place → ℕ → Count → Result Count Stopped
ticked place fuel c = cond (nat_lt c.steps fuel) (Ok (stepped c)) (Err (stopped_at FuelSpent place c))

-- the work after a cut: its context and new parameters, and one cut more
abbrev pub after_cut : Work → List (List ℤ) → ℕ → Work
after_cut s context made = record { top = s.top; rest = s.rest; context = context; parameters = s.parameters; made = made; cuts = suc s.cuts }

-- the first row, counted from k, whose constant is below 0
abbrev pub first_negative : ℕ → List Row → Option ℕ
first_negative k rs = position_from (λ r. int_lt (at r.form 9) (pos 0)) k rs

-- what a cut in a test answers
abbrev pub tested : Table → ℕ → Result Count Stopped → Outcome Work
tested t cuts (Ok c) = Ok (test_of t cuts, c)
tested t cuts (Err e) = Err e

-- the work knows of the parameters what the context says
pub record KnownAs (c : Context) (s : Work) : Type 0 where
  pub context : s.context ≡ in_force c
  pub parameters : s.parameters ≡ c.parameters
  pub made : s.made ≡ c.made

-- the row found, by itself
abbrev pub scan_at : List Row → Found → Scan
scan_at rows (Negative h) = below (slice_index_or rows h no_row)
scan_at rows (Unsure h) = unsure (slice_index_or rows h no_row)
scan_at rows Clear = clear

abbrev pub scanned_at : List Row → Result (Found × Count) Stopped → Outcome Scan
scanned_at rows (Ok v) = Ok (scan_at rows v.0, v.1)
scanned_at rows (Err e) = Err e

-- the first unknown row is remembered
abbrev pub first_unsure : Found → ℕ → Found
first_unsure Clear h = Unsure h
first_unsure (Unsure k) h = Unsure k
first_unsure (Negative k) h = Negative k

-- ---- the work table
-- these nodes stand from a place on, and the other places hold what they held
abbrev pub Wrote : List TreeNode → ℕ → List TreeNode → List TreeNode → Type 0
Wrote before from ns after = after ≡ take from before ++ (ns ++ drop (from + length ns) before)

-- the same where the write was made; refused, nothing is written
abbrev pub WroteIf : List TreeNode → ℕ → List TreeNode → List TreeNode → Result Count Stopped → Type 0
WroteIf before from ns after (Ok _) = Wrote before from ns after
WroteIf before from ns after (Err _) = after ≡ before

-- a node, as a count alone
abbrev pub noted_in : ℕ → Count → Result Count Stopped
noted_in room c = cond (nat_lt c.nodes room) (Ok (noted c)) (Err (stopped_at WorkFull Node c))

-- what a run that only counts answers
abbrev pub counted : Result Count Stopped → Outcome (Unit {0})
counted (Ok c) = Ok (tt, c)
counted (Err e) = Err e

-- the form of a row over its divisor
abbrev pub solution_of : Row → List ℤ
solution_of r = map (quot_by r.div) r.form

-- ---- what is read of a system
abbrev pub counts_of : System → Sizes
counts_of S = record { n = S.n; p = S.p; m = length S.rows; k = length S.context }

abbrev pub counts_read : System → Result Sizes Refusal
counts_read S = and_then (counts_answer S.n S.p (length S.rows) (length S.context)) (Ok (counts_of S))

-- row i, if its numbers are within the limits
abbrev pub row_read : ℕ → ℕ → ℕ → List ℤ → Result Row Refusal
row_read n p i row = and_then (numbers_answer i row) (Ok (row_of n p row))

abbrev pub form_read : ℕ → ℕ → List ℤ → Result (List ℤ) Refusal
form_read p i row = and_then (numbers_answer i row) (Ok (form_of p row))

-- the table of n unknowns and these rows, or the refusal of the first row that is out of limits
abbrev pub TableRead : ℕ → ℕ → List (List ℤ) → Result Table Refusal → Type 0
TableRead n p rows (Ok t) =
    (numbers_fit 0 (map (fitted (n + p + 1)) rows) ≡ Ok tt) × (top t ≡ unit_rows 0 n) × (rest t ≡ map (row_of n p) (map (fitted (n + p + 1)) rows))
TableRead n p rows (Err e) = numbers_fit 0 (map (fitted (n + p + 1)) rows) ≡ Err e

-- the context of these context rows, the first of them being row m
abbrev pub ContextRead : ℕ → ℕ → List (List ℤ) → Result Context Refusal → Type 0
ContextRead m p rows (Ok x) =
    (numbers_fit m (map (fitted (p + 1)) rows) ≡ Ok tt) × (in_force x ≡ map (λ row. form_of p (fitted (p + 1) row)) rows) × (x.parameters ≡ p) × (x.made ≡ 0)
ContextRead m p rows (Err e) = numbers_fit m (map (fitted (p + 1)) rows) ≡ Err e

-- the state that a solve of S starts from, or why there is none
abbrev pub Started : System → Result State Refusal → Type 0
Started S (Ok s) = (system_fits S ≡ Ok tt) × (work_of s ≡ start S) × (s.left ≡ 12) × (s.table.unknowns ≡ S.n)
Started S (Err e) = system_fits S ≡ Err e
