-- What an accepted solve went through: the limits of the system and of the fuel, then the run.
use Rattle.std.proofs.Common.{◌≡◌, ℕ, ◌≤◌, Bool, true, false, cond, ◌&&◌, leb, length, ℤ, nat_abs, Ok, Err, Result, refl, subst}
use Rattle.std.proofs.lemmas.Bool.{and_parts, leb-true}
use Rattle.base.specs.declared.refusal.Refusal.{Refusal}
use Rattle.base.specs.declared.refusal.Refusal.TheVariants.{Counts}
use Rattle.source.specs.Limits.{counts_answer, counts_fit}
use Rattle.source.specs.Systems.{System}
use Rattle.tree.specs.Trees.{Tree}
use Rattle.solver.specs.declared.count.Count.{Count}
use Rattle.solver.specs.Runs.{Outcome}
use Rattle.solver.specs.Solves.{fuel_fits, nothing, run, run_if, solved, start, system_fits}
use Rattle.base.specs.Refusals.{and_then}
use Rattle.solver.specs.Ties.{limits}

-- ---- one check after another
pub then-first : {A : Type 0} (a : Result (Unit {0}) Refusal) (r : Result A Refusal) (v : A) → and_then a r ≡ Ok v → a ≡ Ok tt
then-first (Ok _) r v e = refl
then-first (Err x) r v e = absurd (subst (λ (o : Result _ Refusal). elim o as (λ _. Type 0) [ Ok y ↦ ⊥ | Err y ↦ Unit {0} ]) e tt)

pub then-second : {A : Type 0} (a : Result (Unit {0}) Refusal) (r : Result A Refusal) (v : A) → and_then a r ≡ Ok v → r ≡ Ok v
then-second (Ok _) r v e = e
then-second (Err x) r v e = absurd (subst (λ (o : Result _ Refusal). elim o as (λ _. Type 0) [ Ok y ↦ ⊥ | Err y ↦ Unit {0} ]) e tt)

-- a run where a check passed
run-first : {A : Type 0} (a : Result (Unit {0}) Refusal) (o : Outcome A) (v : A × Count) → run_if a o ≡ Ok v → a ≡ Ok tt
run-first (Ok _) o v e = refl
run-first (Err x) o v e = absurd (subst (λ (o : Outcome _). elim o as (λ _. Type 0) [ Ok y ↦ ⊥ | Err y ↦ Unit {0} ]) e tt)

run-second : {A : Type 0} (a : Result (Unit {0}) Refusal) (o : Outcome A) (v : A × Count) → run_if a o ≡ Ok v → o ≡ Ok v
run-second (Ok _) o v e = e
run-second (Err x) o v e = absurd (subst (λ (o : Outcome _). elim o as (λ _. Type 0) [ Ok y ↦ ⊥ | Err y ↦ Unit {0} ]) e tt)

-- ---- the counts of a system within the limits
pub record Counted (S : System) : Type 0 where
  pub unknowns_least : 1 ≤ S.n
  pub unknowns_most : S.n ≤ 6
  pub parameters_most : S.p ≤ 4
  pub rows_most : length S.rows ≤ 16
  pub context_most : length S.context ≤ 8

fitting : (b : Bool) → ◌≡◌ {A = Result (Unit {0}) Refusal} (cond b (Ok tt) (Err Counts)) (Ok tt) → b ≡ true
fitting true e = refl
fitting false e = absurd (subst (λ (o : Result (Unit {0}) Refusal). elim o as (λ _. Type 0) [ Ok y ↦ ⊥ | Err y ↦ Unit {0} ]) e tt)

pub counted : (S : System) → system_fits S ≡ Ok tt → Counted S
counted S e =
    let n = S.n in
    let p = S.p in
    let m = length S.rows in
    let k = length S.context in
    let f : counts_fit n p m k ≡ true = fitting (counts_fit n p m k) (then-first (counts_answer n p m k) _ tt e) in
    let a = and_parts (leb 1 n) (leb n 6 && (leb p 4 && (leb m 16 && leb k 8))) f in
    let b = and_parts (leb n 6) (leb p 4 && (leb m 16 && leb k 8)) a.1 in
    let c = and_parts (leb p 4) (leb m 16 && leb k 8) b.1 in
    let d = and_parts (leb m 16) (leb k 8) c.1 in
    record { unknowns_least = leb-true 1 n a.0; unknowns_most = leb-true n 6 b.0; parameters_most = leb-true p 4 c.0; rows_most = leb-true m 16 d.0; context_most = leb-true k 8 d.1 }

pub system-fits : (S : System) (fuel : ℤ) (room : ℕ) (t : Tree) (c : Count) → solved S fuel room ≡ Ok (t, c) → system_fits S ≡ Ok tt
unfolding solved
system-fits S fuel room t c e = run-first (system_fits S) _ (t, c) e

pub run_of : (S : System) (fuel : ℤ) (room : ℕ) (t : Tree) (c : Count) → solved S fuel room ≡ Ok (t, c) → run (start S) (limits (nat_abs fuel) room) nothing ≡ Ok (t, c)
unfolding solved
run_of S fuel room t c e = run-second (fuel_fits fuel) _ (t, c) (run-second (system_fits S) _ (t, c) e)
