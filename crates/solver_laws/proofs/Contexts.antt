-- Refusal 13 is right, and tests and signs are.
use Rattle.std.proofs.Common.{◌≡◌, ℕ, Bool, true, false, List, nat_abs, Ok, Err, Result, sym, refl, ap, ◌∙◌, subst, arith}
use Rattle.base.specs.declared.refusal.Refusal.{Refusal}
use Rattle.base.specs.declared.refusal.Refusal.TheVariants.{NoParameterPoint}
use Rattle.source.specs.Systems.{MeetsContext, System}
use Rattle.tree.specs.Trees.{Tree}
use Rattle.solver.specs.declared.count.Count.{Count}
use Rattle.solver.specs.Runs.{Limits, Outcome, fail, next, stopped, ◌>>=◌}
use Rattle.solver.specs.Rules.{Work, test}
use Rattle.solver.specs.Solves.{begun, context_of, fuel_fits, nothing, run, run_if, solved, start, system_fits}
use Rattle.solver_laws.specs.Contexts.{AcceptedMet, ContextLaws, EmptyRefused, RefusedEmpty}
use Rattle.solver_laws.specs.Meaning.{HasSetting}
use Rattle.solver_laws.proofs.Accepted.{Counted, counted, run_of, system-fits}
use Rattle.solver_laws.proofs.Closed.{no-path}
use Rattle.solver.specs.Ties.{limits}
use Rattle.solver_laws.proofs.Least.{setting-is}
use Rattle.solver_laws.proofs.Signs.{sign-right}
use Rattle.solver_laws.proofs.Spent.{Others, early-thirteen, others-fuel, others-system, why-is}
use Rattle.solver_laws.proofs.Systems.{context-uses, meets-setting, setting-point}
use Rattle.solver_laws.proofs.Tests.{test-right}
use Rattle.solver_laws.proofs.Tells.{Tells, begun-tells, not-thirteen, test-tells}

-- ---- the test of the context
module _ (S : System) (k : Counted S) where
  test-answers : (l : Limits) (c : Count) (b : Bool) (d : Count) → test S.p 0 (context_of S) l c ≡ Ok (b, d) → HasSetting (context_of S) b
  test-answers l c b d e = (test-right S.p 0 k.parameters_most (omega arith) (context_of S) (context-uses S.p 0 S.context k.parameters_most)).law l c b d e

  no-setting : HasSetting (context_of S) false → (z : List ℕ) → MeetsContext S z → ⊥
  no-setting h z m = h _ (setting-is S k z m.counted) (meets-setting S z m)

  a-setting : HasSetting (context_of S) true → (z : List ℕ) × MeetsContext S z
  a-setting h = setting-point S k.parameters_most h.0 h.1 h.2

-- what a run made of the test of the context
pub run-splits : (S : System) (l : Limits) (c : Count) → run (start S) l c ≡ next (test S.p 0 (context_of S) l c) (begun (start S)) l
unfolding run ◌>>=◌
run-splits S l c = refl

pub thirteen : (s : Work) (l : Limits) (c : Count) → begun s false l c ≡ Err (stopped NoParameterPoint c)
unfolding begun fail
thirteen s l c = refl

not-said : {A : Type 0} (o : Outcome A) (d : Count) → Tells o → ¬ (o ≡ Err (stopped NoParameterPoint d))
not-said o d h e = not-thirteen (stopped NoParameterPoint d) (subst Tells e h) refl

module _ (S : System) (k : Counted S) (l : Limits) where
  -- refused by 13: the test found no setting
  empty-run : (d : Count) → run (start S) l nothing ≡ Err (stopped NoParameterPoint d) → (z : List ℕ) → MeetsContext S z → ⊥
  empty-run d e = go (test S.p 0 (context_of S) l nothing) refl (sym (run-splits S l nothing) ∙ e)
    where
      go : (o : Outcome Bool) → test S.p 0 (context_of S) l nothing ≡ o → next o (begun (start S)) l ≡ Err (stopped NoParameterPoint d) → (z : List ℕ) → MeetsContext S z → ⊥
      go (Ok v) t h = begins v.0 v.1 t h
        where
          begins : (b : Bool) (c : Count) → test S.p 0 (context_of S) l nothing ≡ Ok (b, c) → begun (start S) b l c ≡ Err (stopped NoParameterPoint d) → (z : List ℕ) → MeetsContext S z → ⊥
          begins true c t h = absurd (not-said (begun (start S) true l c) d (begun-tells (start S) l c) h)
          begins false c t h = no-setting S k (test-answers S k l nothing false c t)
      go (Err r) t h = absurd (not-said (test S.p 0 (context_of S) l nothing) d (test-tells S.p 0 (context_of S) l nothing) (let q : r ≡ stopped NoParameterPoint d = cc in t ∙ ap Err q))

  -- accepted: it found one
  met-run : (t : Tree) (c : Count) → run (start S) l nothing ≡ Ok (t, c) → (z : List ℕ) × MeetsContext S z
  met-run t c e = go (test S.p 0 (context_of S) l nothing) refl (sym (run-splits S l nothing) ∙ e)
    where
      go : (o : Outcome Bool) → test S.p 0 (context_of S) l nothing ≡ o → next o (begun (start S)) l ≡ Ok (t, c) → (z : List ℕ) × MeetsContext S z
      go (Ok v) q h = begins v.0 v.1 q h
        where
          begins : (b : Bool) (d : Count) → test S.p 0 (context_of S) l nothing ≡ Ok (b, d) → begun (start S) b l d ≡ Ok (t, c) → (z : List ℕ) × MeetsContext S z
          begins true d q h = a-setting S k (test-answers S k l nothing true d q)
          begins false d q h = absurd (let z : ◌≡◌ {A = Outcome Tree} (Err (stopped NoParameterPoint d)) (Ok (t, c)) = sym (thirteen (start S) l d) ∙ h in no-path cc)
      go (Err r) q h = absurd (no-path cc)

  -- without a parameter point, a test that comes to its end says so
  refused-run : ((z : List ℕ) → MeetsContext S z → ⊥) → (b : Bool) (c : Count) → test S.p 0 (context_of S) l nothing ≡ Ok (b, c) → run (start S) l nothing ≡ Err (stopped NoParameterPoint c)
  refused-run none true c e = absurd (let z = a-setting S k (test-answers S k l nothing true c e) in none z.0 z.1)
  refused-run none false c e = run-splits S l nothing ∙ ap (λ (o : Outcome Bool). next o (begun (start S)) l) e ∙ thirteen (start S) l c

-- ---- solves
past-limits : (a b : Result (Unit {0}) Refusal) (o : Outcome Tree) (c : Count) → Others a → Others b → run_if a (run_if b o) ≡ Err (stopped NoParameterPoint c) → (a ≡ Ok tt) × (o ≡ Err (stopped NoParameterPoint c))
past-limits (Ok _) (Ok _) o c p q e = (refl, e)
past-limits (Ok _) (Err r) o c p q e = absurd (early-thirteen r q (why-is (stopped r nothing) (stopped NoParameterPoint c) e))
past-limits (Err r) b o c p q e = absurd (early-thirteen r p (why-is (stopped r nothing) (stopped NoParameterPoint c) e))

pub refused-empty : RefusedEmpty
unfolding solved
refused-empty S fuel room c e =
    let h = past-limits (system_fits S) (fuel_fits fuel) _ c (others-system S) (others-fuel _) e in
    empty-run S (counted S h.0) (limits (nat_abs fuel) room) c h.1

pub empty-refused : EmptyRefused
unfolding solved
empty-refused S fuel room fits fuels none b c e = rw (fits, fuels) (refused-run S (counted S fits) (limits (nat_abs fuel) room) none b c e)

pub accepted-met : AcceptedMet
accepted-met S fuel room t c e = met-run S (counted S (system-fits S fuel room t c e)) (limits (nat_abs fuel) room) t c (run_of S fuel room t c e)

pub context-laws : ContextLaws
context-laws = (refused-empty, empty-refused, accepted-met, test-right, sign-right)
