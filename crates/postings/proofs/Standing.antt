-- A nest that is solved stands.
use Rattle.std.proofs.Common.{◌≡◌, ℕ, [], ◌∷◌, List, ℤ, Ok, Err, Result, OnOk, sym, refl, ap, ◌∙◌, subst}
use Rattle.base.specs.declared.refusal.Refusal.{Refusal}
use Rattle.source.specs.Systems.{System}
use Rattle.store.specs.Stores.{Meaning, fresh}
use Rattle.tree.specs.Trees.{Tree}
use Rattle.tree.specs.declared.node.Node.{Node}
use Rattle.solver.specs.Runs.{Outcome}
use Rattle.solver.specs.Solves.{solve_answer, solved, work_after}
use Rattle.solver.specs.declared.run.Solved.{Solved}
use Rattle.nest.specs.Loops.{Loops}
use Rattle.nest.specs.Tables.{system_of}
use Rattle.sheet.specs.Arrangements.{Gives}
use Rattle.sheet.specs.Events.{Solve, solve, standing}
use Rattle.sheet.specs.Sheets.{held, replaced, solved_here}
use Rattle.postings.specs.Laws.{Stands}

-- whether a tree fits goes by capacity and costs alone
same-here : (m : Meaning) (S : System) (o : Outcome Tree) → held (fresh m.capacity m.costs) S o ≡ held m S o
same-here m S (Ok w) = refl
same-here m S (Err r) = refl

module _ (m : Meaning) (L : Loops) (fuel : ℤ) (room : ℕ) (a : Result Solved Refusal) (work : List Node) where
  abbrev s : Solve
  s = record { system = system_of L; room = room; fuel = fuel; answer = a; work = work }

  alone : Gives m (solve s) → (o : Outcome Tree) → solved_here m (system_of L) fuel room ≡ o → OnOk (solve_answer o) (Stands L (replaced m (system_of L) o))
  alone g (Err r) e = tt
  alone g (Ok w) e =
      let start = fresh m.capacity m.costs in
      let same = same-here m (system_of L) (solved (system_of L) fuel room) in
      record {
        events = solve s ∷ [];
        leads = record { made = ((g.0 ∙ ap solve_answer (sym same), g.1 ∙ ap (work_after (system_of L) room) (sym same)), tt); now = ap (replaced start (system_of L)) (same ∙ e) };
        stands = ap (λ r. standing (solve (record { system = system_of L; room = room; fuel = fuel; answer = r; work = work }) ∷ [])) (g.0 ∙ ap solve_answer e);
      }

  pub solved-stands : (n : Meaning) → a ≡ solve_answer (solved_here m (system_of L) fuel room) → work ≡ work_after (system_of L) room (solved_here m (system_of L) fuel room) →
      n ≡ replaced m (system_of L) (solved_here m (system_of L) fuel room) → OnOk a (Stands L n)
  solved-stands n p q r =
      subst (λ x. OnOk x (Stands L n)) (sym p)
      (subst (λ y. OnOk (solve_answer (solved_here m (system_of L) fuel room)) (Stands L y)) (sym r) (alone (p, q) (solved_here m (system_of L) fuel room) refl))
