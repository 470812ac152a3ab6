-- A listing on a sheet whose store refuses no tree.
use Rattle.std.proofs.Common.{◌≡◌, ◌≤◌, ℕ, cond, List, length, ℤ, Ok, Err, Result, refl, ap, ap₂, ◌∙◌, subst, arith}
use Rattle.std.proofs.lemmas.Bool.{le-leb}
use Rattle.base.specs.declared.refusal.Refusal.{Refusal}
use Rattle.base.specs.declared.refusal.Refusal.TheVariants.{StoreFull}
use Rattle.source.specs.Systems.{System}
use Rattle.store.specs.Stores.{Meaning, used}
use Rattle.store.specs.NodeStores.{unit_costs}
use Rattle.store.proofs.Rooms.{used-one}
use Rattle.tree.specs.Trees.{Tree}
use Rattle.tree.specs.declared.node.Node.{Node}
use Rattle.solver.specs.declared.run.Solved.{Solved}
use Rattle.solver.specs.Runs.{Outcome, end_count}
use Rattle.solver.specs.Solves.{solve_answer, solved, written}
use Rattle.solver_laws.proofs.Closed.{no-path}
use Rattle.solver_laws.proofs.Counted.{nodes-counted}
use Rattle.solver_laws.proofs.Inside.{within-room}
use Rattle.sheet.specs.Sheets.{after_install, held, replaced, solved_here}
use Rattle.listing.specs.Listings.{Meant, and_then, read_answer}
use Rattle.listing.specs.Solving.{answer_by, answer_text, sheet_by, sheet_left, shown_by, text_solved}
use Rattle.listing.specs.Texts.{refusal_text, tree_text}

-- one unit a node, and as many units as the work table has nodes
never-full : (m : Meaning) (S : System) (fuel : ℤ) (room : ℕ) → m.costs ≡ unit_costs → room ≤ m.capacity → solved_here m S fuel room ≡ solved S fuel room
never-full m S fuel room costs units = go (solved S fuel room) refl
  where
    go : (o : Outcome Tree) → solved S fuel room ≡ o → held m S o ≡ o
    go (Ok v) e =
        let xs = written S v.0 in
        let counted : v.1.nodes ≡ length xs = nodes-counted S fuel room v.0 v.1 e in
        let within : v.1.nodes ≤ room = subst (λ o. (end_count o).nodes ≤ room) e (within-room S fuel room) in
        let cost : used m.costs xs ≡ length xs = ap (λ k. used k xs) costs ∙ used-one xs in
        let fits : used m.costs xs ≤ m.capacity = omega (arith, counted, within, cost, units) in
        ap (λ b. after_install (cond b (Ok tt) (Err StoreFull)) v) (le-leb _ _ fits)
    go (Err s) e = refl

module _ (m : Meaning) (costs : m.costs ≡ unit_costs) (units : 64 ≤ m.capacity) where
  -- what is shown for an accepted solve
  pub tree-shown : (text : List ℕ) (v : Solved) (xs : List Node) → Ok v ≡ text_solved m text 64 → xs ≡ (sheet_left m text 64).nodes → tree_text xs v.steps ≡ answer_text text
  tree-shown text v xs said left = go (read_answer text) said left
    where
      at : (S : System) (o : Outcome Tree) → Ok v ≡ solve_answer o → xs ≡ (replaced m S o).nodes → tree_text xs v.steps ≡ shown_by S o
      at S (Ok u) s l =
          let same : v ≡ record { steps = u.1.steps; nodes = u.1.nodes } = cc in
          ap₂ tree_text l (ap (λ (k : Solved). k.steps) same)
      at S (Err e) s l = absurd (no-path cc)

      go : (r : Result Meant Refusal) → Ok v ≡ and_then r (λ l. solve_answer (solved_here m l.system l.fuel 64)) → xs ≡ (sheet_by m 64 r).nodes → tree_text xs v.steps ≡ answer_by r
      go (Ok l) s n =
          let full = never-full m l.system l.fuel 64 costs units in
          at l.system (solved l.system l.fuel 64) (s ∙ ap solve_answer full) (n ∙ ap (λ o. (replaced m l.system o).nodes) full)
      go (Err e) s n = absurd (no-path cc)

  -- and for a refused one
  pub refusal-shown : (text : List ℕ) (e : Refusal) → Err e ≡ text_solved m text 64 → refusal_text e ≡ answer_text text
  refusal-shown text e said = go (read_answer text) said
    where
      at : (S : System) (o : Outcome Tree) → Err e ≡ solve_answer o → refusal_text e ≡ shown_by S o
      at S (Ok u) s = absurd (no-path cc)
      at S (Err k) s = let same : e ≡ k.why = cc in ap refusal_text same

      go : (r : Result Meant Refusal) → Err e ≡ and_then r (λ l. solve_answer (solved_here m l.system l.fuel 64)) → refusal_text e ≡ answer_by r
      go (Ok l) s = at l.system (solved l.system l.fuel 64) (s ∙ ap solve_answer (never-full m l.system l.fuel 64 costs units))
      go (Err k) s = let same : e ≡ k = cc in ap refusal_text same
