-- Every solve is right.
use Rattle.std.proofs.Common.{◌≡◌, ℕ, ◌+◌, ◌-◌, Bool, true, false, List, map, length, ℤ, pos, nat_abs, ◌∙◌, arith}
use Rattle.std.proofs.lemmas.List.{length-append, length-map}
use Rattle.base.specs.declared.refusal.Refusal.TheVariants.{NoParameterPoint}
use Rattle.base.specs.Numbers.{zeros}
use Rattle.algebra.proofs.Dots.{length-zeros}
use Rattle.algebra.proofs.Naturals.{nonneg-append, nonneg_pos, nonneg-zeros}
use Rattle.source.specs.Systems.{MeetsContext, System}
use Rattle.tableau_laws.specs.Facts.{Right}
use Rattle.tableau_laws.proofs.Start.{start_right}
use Rattle.tree.specs.Answers.{answer_from, setting}
use Rattle.solver.specs.Rules.{Work}
use Rattle.solver.specs.Solves.{begun, nothing, row_of, rows_of, run, start}
use Rattle.solver_laws.specs.Least.{LeastPoint}
use Rattle.solver_laws.specs.Meaning.{Setting, Yields}
use Rattle.solver_laws.proofs.Accepted.{Counted, counted, run_of, system-fits}
use Rattle.solver.specs.Ties.{limits}
use Rattle.solver_laws.proofs.Formed.{Formed}
use Rattle.solver_laws.proofs.Nodes.{Answers, Good, node-right}
use Rattle.solver_laws.proofs.Systems.{context-uses, lines_at, meets-setting, right_answer, rows-free, rows-plain, rows-shaped}
use Rattle.solver_laws.proofs.Tests.{units-constant}
use Rattle.solver_laws.proofs.Yields.{y-any, y-bind, y-fail, y-then}

-- ---- the work that a solve starts from
start-table : (S : System) → Counted S → (ρ : List ℤ) → Right S.n (lines_at S ρ) ρ (start S).top (start S).rest
start-table S k ρ =
    let rest = map (row_of S.n S.p) (rows_of S) in
    start_right S.n ρ rest (omega (arith, k.unknowns_most)) (rows-shaped S.n S.p S.rows (omega (arith, k.unknowns_most)) k.parameters_most) (rows-plain S.n S.p S.rows)

pub start-formed : (S : System) → Counted S → Formed (start S)
start-formed S k =
    let r = start-table S k (zeros 9) in
    record {
      few = k.parameters_most;
      new = omega arith;
      context = context-uses S.p 0 S.context k.parameters_most;
      top_shaped = r.top_shaped;
      rest_shaped = r.rest_shaped;
      top_free = λ q h. units-constant 0 S.n q;
      rest_free = λ q h. rows-free S.n S.p 0 q S.rows k.parameters_most h;
    }

pub setting-is : (S : System) → Counted S → (z : List ℕ) → length z ≡ S.p → Setting (setting z)
setting-is S k z e = record {
  nine = length-append (map pos z) (zeros (9 - length z)) ∙ rw (length-map z pos, length-zeros (9 - length z), e) nine;
  natural = nonneg-append (map pos z) (zeros (9 - length z)) (nonneg_pos z) (nonneg-zeros (9 - length z));
}
  where
    nine : S.p + (9 - S.p) ≡ 9
    nine = omega (arith, k.parameters_most)

start-good : (S : System) → Counted S → (z : List ℕ) → MeetsContext S z → Good S.n (lines_at S (setting z)) (start S) (setting z)
start-good S k z m = record { right = start-table S k (setting z); formed = start-formed S k; setting = setting-is S k z m.counted; meets = meets-setting S z m }

-- ---- the run
begun-right : (n : ℕ) (sys : _) (s : Work) (ρ : List ℤ) → Good n sys s ρ → (b : Bool) → Yields (Answers n sys s ρ) (begun s b)
unfolding begun
begun-right n sys s ρ g true = y-then _ _ _ (y-then _ _ _ (node-right n sys 12 s ρ g))
begun-right n sys s ρ g false = y-fail _ NoParameterPoint

run-right : (n : ℕ) (sys : _) (s : Work) (ρ : List ℤ) → Good n sys s ρ → Yields (Answers n sys s ρ) (run s)
unfolding run
run-right n sys s ρ g = y-bind (λ _. Unit {0}) _ _ _ (y-any _) (λ b _. begun-right n sys s ρ g b)

pub least-point : LeastPoint
least-point S fuel room t c e z m =
    let k = counted S (system-fits S fuel room t c e) in
    right_answer S z m.counted (answer_from 0 (setting z) t) ((run-right S.n (lines_at S (setting z)) (start S) (setting z) (start-good S k z m)).law (limits (nat_abs fuel) room) nothing t c (run_of S fuel room t c e))
