-- Two solves alike on one sheet.
use Rattle.std.proofs.Common.{◌≡◌, ℕ, zero, suc, ◌≤◌, ◌⊎◌, Bool, true, false, cond, leb, List, [], ◌∷◌, ℤ, pos, negsuc, ◌≤ℤ◌, ◌<ℤ◌, nat_abs, Ok, Err, Result, sym, refl, ap, ap₂, ◌∙◌, subst, inl, inr, arith}
use borrow.Author.Differences.{ints}
use Rattle.base.specs.declared.refusal.Met.{Met}
use Rattle.base.specs.declared.refusal.Refusal.{Refusal}
use Rattle.base.specs.declared.refusal.Refusal.TheVariants.{Counts, Number, NoParameterPoint, RowShape, NestShape, Listing, Fuel, WorkFull, StoreFull, FuelSpent, StoreClosed, Range, Cuts, NewParameters, Depth, NoTree, PointLength, PointNumber, OutsideKeep, BeyondBound, PageLength, PageKind, PageNumber, PageDepth}
use Rattle.base.specs.declared.refusal.Report.{Report}
use Rattle.base.specs.declared.refusal.Values.{Values}
use Rattle.base.specs.Refusals.{met, refused, report_of, reported}
use Rattle.source.specs.Systems.{System}
use Rattle.store.specs.Stores.{Meaning, install_answer, used}
use Rattle.tree.specs.Trees.{Tree}
use Rattle.solver.specs.declared.count.Count.{Count}
use Rattle.solver.specs.declared.run.Solved.{Solved}
use Rattle.solver.specs.Runs.{Outcome, steps_of, stopped}
use Rattle.solver.specs.Solves.{solve_answer, solved, work_after, written}
use Rattle.solver_laws.specs.Fuel.{Spent}
use Rattle.solver_laws.proofs.Closed.{no-path}
use Rattle.solver_laws.proofs.Fuel.{enough, less-spent, more-refused, too-little}
use Rattle.solver_laws.proofs.Inside.{within-fuel}
use Rattle.sheet.specs.Sheets.{after_install, held, replaced, solved_here}
use Rattle.sheet.specs.Events.{Event, Solve, solve, find, wipe}
use Rattle.sheet.specs.Arrangements.{Gives, Made, after}
use Rattle.std.specs.List.{IsAmong}
use Rattle.sheet.specs.Laws.{Alike, IsSpent, SolvesRight}

abbrev pub counted : Count → Solved
counted c = record { steps = c.steps; nodes = c.nodes }

-- steps within a fuel are within each larger one
steps-under : (k : ℕ) (fuel fuel' : ℤ) → pos 0 ≤ℤ fuel → k ≤ nat_abs fuel → fuel ≤ℤ fuel' → pos k ≤ℤ fuel'
steps-under k (pos f) fuel' low h more = omega (arith, ints, more)
steps-under k (negsuc f) fuel' low h more = absurd (let no : ⊥ = omega (arith, ints, low) in no)

-- 24 is the number of spent fuel alone
number-24 : (e : Refusal) → (report_of e).number ≡ 24 → (k : Met) × (e ≡ FuelSpent k)
number-24 (FuelSpent k) h = (k, refl)
number-24 Counts h = absurd (let no : ⊥ = omega (arith, h) in no)
number-24 (Number i j) h = absurd (let no : ⊥ = omega (arith, h) in no)
number-24 NoParameterPoint h = absurd (let no : ⊥ = omega (arith, h) in no)
number-24 RowShape h = absurd (let no : ⊥ = omega (arith, h) in no)
number-24 NestShape h = absurd (let no : ⊥ = omega (arith, h) in no)
number-24 Listing h = absurd (let no : ⊥ = omega (arith, h) in no)
number-24 Fuel h = absurd (let no : ⊥ = omega (arith, h) in no)
number-24 (WorkFull k) h = absurd (let no : ⊥ = omega (arith, h) in no)
number-24 StoreFull h = absurd (let no : ⊥ = omega (arith, h) in no)
number-24 StoreClosed h = absurd (let no : ⊥ = omega (arith, h) in no)
number-24 (Range k) h = absurd (let no : ⊥ = omega (arith, h) in no)
number-24 (Cuts k) h = absurd (let no : ⊥ = omega (arith, h) in no)
number-24 (NewParameters k) h = absurd (let no : ⊥ = omega (arith, h) in no)
number-24 (Depth k) h = absurd (let no : ⊥ = omega (arith, h) in no)
number-24 NoTree h = absurd (let no : ⊥ = omega (arith, h) in no)
number-24 PointLength h = absurd (let no : ⊥ = omega (arith, h) in no)
number-24 PointNumber h = absurd (let no : ⊥ = omega (arith, h) in no)
number-24 OutsideKeep h = absurd (let no : ⊥ = omega (arith, h) in no)
number-24 BeyondBound h = absurd (let no : ⊥ = omega (arith, h) in no)
number-24 (PageLength o) h = absurd (let no : ⊥ = omega (arith, h) in no)
number-24 (PageKind o) h = absurd (let no : ⊥ = omega (arith, h) in no)
number-24 (PageNumber o) h = absurd (let no : ⊥ = omega (arith, h) in no)
number-24 (PageDepth o) h = absurd (let no : ⊥ = omega (arith, h) in no)

answer-24 : (r : Result Solved Refusal) (v : Values) → reported r ≡ refused 24 v → (k : Met) × (r ≡ Err (FuelSpent k))
answer-24 (Ok x) v h = absurd (no-path cc)
answer-24 (Err e) v h = let n : (report_of e).number ≡ 24 = number-as (report_of e) v h in let k = number-24 e n in (k.0, ap Err k.1)
  where
    number-as : (r : Report) (v : Values) → ◌≡◌ {A = Result Solved Report} (Err r) (refused 24 v) → r.number ≡ 24
    number-as r v h = cc

module _ (m : Meaning) (S : System) where
  -- accepted on the sheet: accepted by the rules
  pub accepted : (o : Outcome Tree) (v : Solved) → solve_answer (held m S o) ≡ Ok v → (w : Tree × Count) × (o ≡ Ok w) × (held m S o ≡ Ok w) × (v ≡ counted w.1)
  accepted (Ok w) v e = go (install_answer m (written S w.0)) e
    where
      go : (a : Result (Unit {0}) Refusal) → solve_answer (after_install a w) ≡ Ok v → (u : Tree × Count) × (◌≡◌ {A = Outcome Tree} (Ok w) (Ok u)) × (after_install a w ≡ Ok u) × (v ≡ counted u.1)
      go (Ok _) e = (w, refl, refl, cc)
      go (Err r) e = absurd (no-path cc)
  accepted (Err r) v e = absurd (no-path cc)

  -- spent on the sheet: spent by the rules
  pub spent : (o : Outcome Tree) (k : Met) → solve_answer (held m S o) ≡ Err (FuelSpent k) → Spent o
  spent (Ok w) k e = absurd (go (leb (used m.costs (written S w.0)) m.capacity) e)
    where
      go : (b : Bool) → solve_answer (after_install (cond b (Ok tt) (Err StoreFull)) w) ≡ Err (FuelSpent k) → ⊥
      go true e = no-path cc
      go false e = no-path cc
  spent (Err r) k e = let why : r.why ≡ FuelSpent k = cc in (k, r.count, ap (λ y. Err (stopped y r.count)) why)

-- solves that the same store gives
module _ (m : Meaning) (s r : Solve) (gs : Gives m (solve s)) (gr : Gives m (solve r)) (a : Alike s r) where
  S : System
  S = s.system

  at_r : r.answer ≡ solve_answer (solved_here m s.system r.fuel s.room)
  at_r = gr.0 ∙ ap₂ (λ X n. solve_answer (solved_here m X r.fuel n)) (sym a.systems) (sym a.rooms)

  left-r : r.work ≡ work_after s.system s.room (solved_here m s.system r.fuel s.room)
  left-r = gr.1 ∙ ap₂ (λ X n. work_after X n (solved_here m X r.fuel n)) (sym a.systems) (sym a.rooms)

  spent-too : Spent (solved s.system r.fuel s.room) → IsSpent r
  spent-too q = (met q.0, ap reported (at_r ∙ ap (λ o. solve_answer (held m s.system o)) q.2))

  same-outcome : (o : Outcome Tree) → solved s.system s.fuel s.room ≡ o → solved s.system r.fuel s.room ≡ o → solved_here m s.system r.fuel s.room ≡ solved_here m s.system s.fuel s.room
  same-outcome o p q = ap (held m s.system) (q ∙ sym p)

  is-spent : IsSpent s → Spent (solved s.system s.fuel s.room)
  is-spent (v, h) = let k = answer-24 s.answer v h in spent m s.system (solved s.system s.fuel s.room) k.0 (sym gs.0 ∙ k.1)

  -- with the outcome of s, r answers as s does
  as-s : solved_here m s.system r.fuel s.room ≡ solved_here m s.system s.fuel s.room → r.answer ≡ s.answer
  as-s same = at_r ∙ ap solve_answer same ∙ sym gs.0

  -- refused with more fuel, as the rules say or because the same tree does not fit
  refused-too : (o : Outcome Tree) → solved s.system s.fuel s.room ≡ o → ¬ IsSpent s → pos 0 ≤ℤ s.fuel → s.fuel ≤ℤ r.fuel → r.fuel ≤ℤ pos 100_000 → r.answer ≡ s.answer
  refused-too (Ok w) p h low more most =
      let within = subst (λ (o : Outcome Tree). steps_of o ≤ nat_abs s.fuel) p (within-fuel s.system s.fuel s.room) in
      as-s (same-outcome (Ok w) p (enough s.system s.room s.fuel r.fuel w.0 w.1 p (steps-under w.1.steps s.fuel r.fuel low within more) most))
  refused-too (Err t) p h low more most =
      as-s (same-outcome (Err t) p (more-refused s.system s.room s.fuel r.fuel t p (λ q. h (met q.0, ap reported (gs.0 ∙ ap (λ o. solve_answer (held m s.system o)) q.2))) low more most))

  pub solves-right : SolvesRight s r
  solves-right = record {
    accepted = λ v e low high.
        let A = accepted m s.system (solved s.system s.fuel s.room) v (sym gs.0 ∙ e) in (
          λ h.
              let q = enough s.system s.room s.fuel r.fuel A.0.0 A.0.1 A.1 (subst (λ (u : Solved). pos u.steps ≤ℤ r.fuel) A.3 h) high in
              let same = same-outcome (Ok A.0) A.1 q in
              (as-s same ∙ e, left-r ∙ ap (work_after s.system s.room) same ∙ sym gs.1),
          λ h. spent-too (too-little s.system s.room s.fuel r.fuel A.0.0 A.0.1 A.1 low (subst (λ (u : Solved). r.fuel <ℤ pos u.steps) A.3 h)),
        );
    spent = λ q low high. spent-too (less-spent s.system s.room s.fuel r.fuel (is-spent q) low high);
    refused = λ e p h low more most. refused-too (solved s.system s.fuel s.room) refl h low more most ∙ p;
  }

-- ---- capacity and costs never change
pub record Same (m n : Meaning) : Type 0 where
  pub capacity : m.capacity ≡ n.capacity
  pub costs : m.costs ≡ n.costs

steady-solve : (m : Meaning) (S : System) (o : Outcome Tree) → Same (replaced m S o) m
steady-solve m S (Ok w) = record { capacity = refl; costs = refl }
steady-solve m S (Err r) = record { capacity = refl; costs = refl }

pub steady : (m : Meaning) (e : Event) → Same (after m e) m
steady m (solve s) = steady-solve m s.system (solved_here m s.system s.fuel s.room)
steady m (find f) = record { capacity = refl; costs = refl }
steady m (wipe n) = record { capacity = refl; costs = refl }

-- so it does not matter when a solve is made
held-same : (m n : Meaning) → Same m n → (S : System) (o : Outcome Tree) → held m S o ≡ held n S o
held-same m n q S (Ok w) = ap₂ (λ c k. after_install (cond (leb (used k (written S w.0)) c) (Ok tt) (Err StoreFull)) w) q.capacity q.costs
held-same m n q S (Err r) = refl

pub gives-same : (m n : Meaning) → Same m n → (s : Solve) → Gives m (solve s) → Gives n (solve s)
gives-same m n q s g =
    let e = held-same m n q s.system (solved s.system s.fuel s.room) in
    (g.0 ∙ ap solve_answer e, g.1 ∙ ap (work_after s.system s.room) e)

-- ---- one of the events, as `IsAmong` says, or by recursion
abbrev pub Among : Event → List Event → Type 0
Among e [] = ⊥
Among e (x ∷ xs) = (e ≡ x) ⊎ Among e xs

pub among-of : (xs : List Event) (e : Event) → IsAmong xs e → Among e xs
among-of [] e (i, (h, is)) = absurd (let no : ⊥ = omega (arith, h) in no)
among-of (x ∷ xs) e (zero, (h, is)) = inl is
among-of (x ∷ xs) e (suc i, (h, is)) = inr (among-of xs e (i, (omega (arith, h), is)))

pub of_among : (xs : List Event) (e : Event) → Among e xs → IsAmong xs e
of_among [] e h = absurd h
of_among (x ∷ xs) e (inl is) = (zero, (omega arith, is))
of_among (x ∷ xs) e (inr h) = let k = of_among xs e h in (suc k.0, (omega (arith, k.1.0), k.1.1))

pub given : (m n : Meaning) → Same m n → (events : List Event) → Made m events → (s : Solve) → Among (solve s) events → Gives n (solve s)
given m n q [] h s i = absurd i
given m n q (e ∷ es) h s (inl i) = gives-same m n q s (subst (Gives m) (sym i) h.0)
given m n q (e ∷ es) h s (inr i) = let k = steady m e in given (after m e) n (record { capacity = k.capacity ∙ q.capacity; costs = k.costs ∙ q.costs }) es h.1 s i
