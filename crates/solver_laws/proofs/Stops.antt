-- What a refused solve tells.
use Rattle.std.proofs.Common.{◌≡◌, ℕ, ◌≤◌, arith, Bool, true, false, ℤ, nat_abs, Some, Ok, Err, Option, Result, sym, refl, ap, subst}
use Rattle.base.specs.declared.refusal.Met.{Met}
use Rattle.base.specs.declared.refusal.Place.{Place}
use Rattle.base.specs.declared.refusal.Place.TheVariants.{Node, Test}
use Rattle.base.specs.declared.refusal.Refusal.{Refusal}
use Rattle.base.specs.declared.refusal.Refusal.TheVariants.{Counts, Cuts, Depth, Fuel, FuelSpent, NewParameters, Number, Range, WorkFull}
use Rattle.base.specs.declared.refusal.Report.{Report}
use Rattle.base.specs.declared.refusal.Values.TheVariants.{Two}
use Rattle.base.specs.Refusals.{flag, met}
use Rattle.source.specs.Systems.{System}
use Rattle.tree.specs.Trees.{Tree}
use Rattle.solver.specs.declared.count.Count.{Count}
use Rattle.solver.specs.Rules.{test}
use Rattle.solver.specs.Runs.{Limits, Outcome, met_at, next}
use Rattle.solver.specs.Solves.{begun, context_of, fuel_fits, nothing, run, run_if, solved, start, system_fits}
use Rattle.solver.specs.Ties.{limits}
use Rattle.solver_laws.specs.Stops.{StopsTold, Told}
use Rattle.solver_laws.proofs.Closed.{met_of}
use Rattle.solver_laws.proofs.Contexts.{run-splits, thirteen}
use Rattle.solver_laws.proofs.Spent.{Early, Others, others-fuel, others-system}
use Rattle.solver_laws.proofs.Tells.{Tells, begun-tells, none-some, test-tells}

abbrev ToldOf : System → ℤ → ℕ → Outcome Tree → Type 0
ToldOf S fuel room (Ok v) = Unit {0}
ToldOf S fuel room (Err s) = Told S fuel room s.why s.count

flag-fits : (place : Place) → flag place ≤ 1
flag-fits Node = omega arith
flag-fits Test = omega arith

-- a refusal that was met where so much was counted names the steps of that count
met-steps : (number : ℕ) (m : Met) (place : Place) (c : Count) → ◌≡◌ {A = Option Met} (Some m) (Some (met_at place c)) →
    (f : ℕ) × ((f ≤ 1) × (◌≡◌ {A = Report} (record { number = number; values = met m }) (record { number = number; values = Two c.steps f })))
met-steps number m place c e =
    let q : m ≡ met_at place c = cc in
    let steps : m.steps ≡ c.steps = ap (λ (x : Met). x.steps) q in
    (flag m.place, (flag-fits m.place, ap (λ (k : ℕ). record { number = number; values = Two k (flag m.place) }) steps))

module _ (S : System) (fuel : ℤ) (room : ℕ) where
  -- refused on the way
  told-met : (why : Refusal) (place : Place) (c : Count) → met_of why ≡ Some (met_at place c) → Told S fuel room why c
  told-met (WorkFull m) place c e = met-steps 22 m place c e
  told-met (FuelSpent m) place c e = met-steps 24 m place c e
  told-met (Range m) place c e = met-steps 31 m place c e
  told-met (Cuts m) place c e = met-steps 32 m place c e
  told-met (NewParameters m) place c e = met-steps 33 m place c e
  told-met (Depth m) place c e = met-steps 34 m place c e
  told-met _ place c e = absurd (none-some (met_at place c) e)

  told-on-the-way : (o : Outcome Tree) → Tells o → ToldOf S fuel room o
  told-on-the-way (Ok v) t = tt
  told-on-the-way (Err s) t = told-met s.why t.0 s.count t.1

  -- refused before the run
  told-early : (why : Refusal) → Early why → Told S fuel room why nothing
  told-early Counts h = (refl, refl)
  told-early (Number row column) h = (refl, refl)
  told-early Fuel h = (refl, refl)
  told-early _ h = absurd h

  -- the run: its test of the context, and what follows
  told-run : ToldOf S fuel room (run (start S) (limits (nat_abs fuel) room) nothing)
  told-run = subst (ToldOf S fuel room) (sym (run-splits S l nothing)) (go (test S.p 0 (context_of S) l nothing) refl (test-tells S.p 0 (context_of S) l nothing))
    where
      l : Limits
      l = limits (nat_abs fuel) room

      begins : (b : Bool) (c : Count) → test S.p 0 (context_of S) l nothing ≡ Ok (b, c) → ToldOf S fuel room (begun (start S) b l c)
      begins true c t = told-on-the-way (begun (start S) true l c) (begun-tells (start S) l c)
      begins false c t = subst (ToldOf S fuel room) (sym (thirteen (start S) l c)) (refl, t)

      go : (o : Outcome Bool) → test S.p 0 (context_of S) l nothing ≡ o → Tells o → ToldOf S fuel room (next o (begun (start S)) l)
      go (Ok v) t h = begins v.0 v.1 t
      go (Err s) t h = told-met s.why h.0 s.count h.1

  told-after : (a b : Result (Unit {0}) Refusal) (o : Outcome Tree) → Others a → Others b → ToldOf S fuel room o → ToldOf S fuel room (run_if a (run_if b o))
  told-after (Ok _) (Ok _) o p q h = h
  told-after (Ok _) (Err e) o p q h = told-early e q
  told-after (Err e) b o p q h = told-early e p

told-solved : (S : System) (fuel : ℤ) (room : ℕ) → ToldOf S fuel room (solved S fuel room)
unfolding solved
told-solved S fuel room = told-after S fuel room (system_fits S) (fuel_fits fuel) _ (others-system S) (others-fuel _) (told-run S fuel room)

pub stops-told : StopsTold
stops-told S fuel room s e = subst (ToldOf S fuel room) e (told-solved S fuel room)
