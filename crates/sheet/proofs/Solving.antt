-- What a solve on a sheet comes to: the rules' answer, and then whether the tree fits the store.
use Rattle.std.proofs.Common.{◌≡◌, ℕ, ◌-◌, Bool, true, false, cond, leb, List, length, take, replicate, ℤ, Ok, Err, IfErr, Result, sym, refl, ap, ◌∙◌, subst}
use Rattle.std.proofs.lemmas.List.{take_at}
use Rattle.base.specs.declared.refusal.Refusal.{Refusal}
use Rattle.base.specs.declared.refusal.Refusal.TheVariants.{StoreFull}
use Rattle.source.specs.Systems.{System}
use Rattle.store.specs.Stores.{Meaning, holding, install_answer, installed, unless_refused, used}
use Rattle.tree.specs.declared.node.Node.{Node}
use Rattle.tree.specs.declared.node.Node.TheVariants.{None as Blank}
use Rattle.tree.specs.Trees.{Tree}
use Rattle.solver.specs.declared.count.Count.{Count}
use Rattle.solver.specs.declared.count.Stopped.{Stopped}
use Rattle.solver.specs.declared.run.Solved.{Solved}
use Rattle.solver.specs.Runs.{Outcome, stopped}
use Rattle.solver.specs.Solves.{counted_answer, solve_answer, solved, work_after, written}
use Rattle.solver_laws.specs.Stops.{Told}
use Rattle.solver_laws.proofs.Closed.{no-path}
use Rattle.solver_laws.proofs.Counted.{nodes-counted}
use Rattle.solver_laws.proofs.Stops.{stops-told}
use Rattle.sheet.specs.Refused.{RefusalTold, ToldBy}
use Rattle.sheet.specs.Sheets.{after_install, held, replaced, solved_here, uncounted}
use Rattle.sheet.proofs.Alike.{counted}

module _ (m : Meaning) (S : System) (fuel : ℤ) (room : ℕ) (v : Solved) (w : List Node) (said : Ok v ≡ counted_answer (solved S fuel room)) (left : w ≡ work_after S room (solved S fuel room)) where
  -- the first nodes of the work table, as many as were counted, are the tree
  tree-of : (u : Tree × Count) × (solved S fuel room ≡ Ok u) × (v ≡ counted u.1) × (take v.nodes w ≡ written S u.0)
  tree-of = go (solved S fuel room) refl said left
    where
      go : (o : Outcome Tree) → solved S fuel room ≡ o → Ok v ≡ counted_answer o → w ≡ work_after S room o → (u : Tree × Count) × (solved S fuel room ≡ Ok u) × (v ≡ counted u.1) × (take v.nodes w ≡ written S u.0)
      go (Ok u) e s l =
          let same : v ≡ counted u.1 = cc in
          let n : length (written S u.0) ≡ v.nodes = sym (nodes-counted S fuel room u.0 u.1 e) ∙ sym (ap (λ (x : Solved). x.nodes) same) in
          (u, e, same, ap (take v.nodes) l ∙ take_at (written S u.0) (replicate (room - length (written S u.0)) Blank) v.nodes n)
      go (Err r) e s l = absurd (no-path cc)

  -- it fits, or it does not
  pub fits : (x : Unit {0}) → Ok x ≡ install_answer m (take v.nodes w) →
      (Ok v ≡ counted_answer (solved_here m S fuel room)) × (w ≡ work_after S room (solved_here m S fuel room)) × (installed m (take v.nodes w) ≡ replaced m S (solved_here m S fuel room))
  fits x a =
      let k = tree-of in
      let b : install_answer m (written S k.0.0) ≡ Ok x = sym (a ∙ ap (install_answer m) k.3) in
      let H : solved_here m S fuel room ≡ Ok k.0 = ap (held m S) k.1 ∙ ap (λ r. after_install r k.0) b in (
        ap Ok k.2 ∙ sym (ap counted_answer H),
        left ∙ ap (work_after S room) k.1 ∙ sym (ap (work_after S room) H),
        ap (installed m) k.3 ∙ ap (λ r. unless_refused r (holding m (written S k.0.0) false) m) b ∙ sym (ap (replaced m S) H),
      )

  pub full : (r : Refusal) → Err r ≡ install_answer m (take v.nodes w) →
      (Err (stopped r (record { steps = v.steps; nodes = v.nodes })) ≡ counted_answer (solved_here m S fuel room)) × (replicate room Blank ≡ work_after S room (solved_here m S fuel room)) × (installed m (take v.nodes w) ≡ replaced m S (solved_here m S fuel room))
  full r a =
      let k = tree-of in
      let b : install_answer m (written S k.0.0) ≡ Err r = sym (a ∙ ap (install_answer m) k.3) in
      let H : solved_here m S fuel room ≡ Err (stopped r k.0.1) = ap (held m S) k.1 ∙ ap (λ r. after_install r k.0) b in (
        ap (λ (c : Count). Err (stopped r c)) (ap (λ (x : Solved). record { steps = x.steps; nodes = x.nodes }) k.2) ∙ sym (ap counted_answer H),
        sym (ap (work_after S room) H),
        ap (installed m) k.3 ∙ ap (λ r. unless_refused r (holding m (written S k.0.0) false) m) b ∙ sym (ap (replaced m S) H),
      )

pub uncounted-answer : (o : Outcome Tree) → uncounted (counted_answer o) ≡ solve_answer o
uncounted-answer (Ok v) = refl
uncounted-answer (Err s) = refl

-- ---- what a refused solve tells
-- the rules do not refuse by 23 themselves
as-told : (S : System) (fuel : ℤ) (room : ℕ) (why : Refusal) (c : Count) → Told S fuel room why c → ToldBy S fuel room why c
as-told S fuel room StoreFull c h = absurd h
as-told S fuel room _ c h = h

pub told : (m : Meaning) (S : System) (fuel : ℤ) (room : ℕ) (r : Result Solved Stopped) → r ≡ counted_answer (solved_here m S fuel room) → IfErr r (RefusalTold S fuel room)
told m S fuel room (Ok v) h = tt
told m S fuel room (Err s) h = go (solved S fuel room) refl h
  where
    full : (v : Tree × Count) → solved S fuel room ≡ Ok v → (b : Bool) → Err s ≡ counted_answer (after_install (cond b (Ok tt) (Err StoreFull)) v) → RefusalTold S fuel room s
    full v e true h = absurd (no-path cc)
    full v e false h = subst (RefusalTold S fuel room) (sym (let same : s ≡ stopped StoreFull v.1 = cc in same)) (refl, (v.0, e))

    go : (o : Outcome Tree) → solved S fuel room ≡ o → Err s ≡ counted_answer (held m S o) → RefusalTold S fuel room s
    go (Ok v) e h = full v e (leb (used m.costs (written S v.0)) m.capacity) h
    go (Err t) e h = subst (RefusalTold S fuel room) (sym (let same : s ≡ t = cc in same)) (as-told S fuel room t.why t.count (stops-told S fuel room t e))
