-- The work at a node, a turn at a time.
use Rattle.std.proofs.Common.{◌≡◌, ℕ, suc, ◌+◌, ◌<◌, ◌≤◌, List, [], ◌∷◌, ◌++◌, length, get_or, ℤ, IfOk, Some, None, Ok, Err, Result, sym, refl, ap, ◌∙◌, subst, add-one, arith, length-append}
use Rattle.base.specs.declared.refusal.Place.TheVariants.{Node}
use Rattle.tableau.specs.declared.table.Table.{Table}
use Rattle.tableau.specs.Columns.{pivot_place}
use Rattle.tableau.specs.Cuts.{cut_of, first_fraction}
use Rattle.tableau.specs.Tables.{in_use, no_row, rest, top}
use Rattle.tree.specs.Trees.{Tree}
use Rattle.solver.specs.declared.count.Count.{Count}
use Rattle.solver.specs.declared.count.Stopped.{Stopped}
use Rattle.solver.specs.declared.settle.End.{End}
use Rattle.solver.specs.declared.settle.End.TheVariants.{Leaf, None as NoPoint, Split}
use Rattle.solver.specs.declared.sign.Scan.{Scan as Found}
use Rattle.solver.specs.declared.sign.Scan.TheVariants.{Negative, Unsure, Clear}
use Rattle.solver.specs.declared.state.State.{State}
use Rattle.solver.specs.declared.context.Context.{Context}
use Rattle.solver.specs.Bounds.{SameContext, in_force}
use Rattle.solver.specs.Ends.{News, Noted, Settled, below_all, below_new, ended, new_nodes, worked}
use Rattle.solver.specs.Runs.{Limits, Outcome, Run, next, ◌>>=◌}
use Rattle.solver.specs.Rules.{Work, act, cut, finish, lift, scan, settle, sign_in, solving, turn}
use Rattle.tree.specs.declared.node.Node.{Node as TreeNode}
use Rattle.tree.specs.declared.node.Node.TheVariants.{New}
use Rattle.solver.proofs.Writing.{noted-from, wrote_none, wrote-trans}
use Rattle.solver.specs.Ties.{KnownAs, Wrote, limits, with_table, noted_in, after_cut, moved, scan_at, scanned_at, work_of}
use Rattle.solver.proofs.Testing.{frac-none, fraction-at, settle_is}
use Rattle.solver.proofs.Turning.{place_none, place-some}
use Rattle.tableau.proofs.Parts.{both_used}

-- the work after a cut
pub worked-new : (x y : State) (t : Table) (r : Result Count Stopped) → y.context.parameters ≡ x.context.parameters → y.cuts ≡ x.cuts → moved t (after_cut (work_of x) (in_force y.context) y.context.made) r ≡ worked (record { table = t; context = y.context; cuts = y.cuts + 1; left = y.left }) r
worked-new x y t (Ok c) e f = λ k. Ok (record { top = top t; rest = rest t; context = in_force y.context; parameters = sym e k; made = y.context.made; cuts = sym (add-one y.cuts ∙ ap suc f) k }, c)
worked-new x y t (Err q) e f = refl

-- the node of one new parameter was written
pub noted_one : (before after : List TreeNode) (from d f : Count) (D : ℤ) (T : List ℤ) (r : Result Count Stopped) → Ok f ≡ noted_in (length before) d → d.nodes ≡ from.nodes → Wrote before d.nodes (New D T ∷ []) after → IfOk r (λ c. c.nodes ≡ f.nodes) → Noted before from ((D, T) ∷ []) after r
noted_one before after from d f D T (Ok c) e n w m = λ h.
    let p = noted-from (length before) d f e in
    let q = ap (λ x. x.nodes) p.1 in
    (subst (λ k. Wrote before k (New D T ∷ []) after) n w, omega (arith, q, n, m), omega (arith, q, p.0, m))
noted_one before after from d f D T (Err x) e n w m = tt

-- nothing was written
pub noted-none : (before : List TreeNode) (from : Count) (r : Result Count Stopped) → IfOk r (λ c. c.nodes ≡ from.nodes) → Noted before from [] before r
noted-none before from (Ok c) m = λ h. (wrote_none before from.nodes, omega (arith, m), omega (arith, m))
noted-none before from (Err x) m = tt

pub noted-on : (before after : List TreeNode) (from c d : Count) (ns : News) → Noted before from ns after (Ok c) → d.nodes ≡ c.nodes → Noted before from ns after (Ok d)
noted-on before after from c d ns n e = λ h. let q = n h in (q.0, omega (arith, e, q.1), omega (arith, e, q.2))

pub nodes-join : (ns ms : News) → new_nodes (ns ++ ms) ≡ new_nodes ns ++ new_nodes ms
nodes-join [] ms = refl
nodes-join (n ∷ ns) ms = ap (λ xs. New n.0 n.1 ∷ xs) (nodes-join ns ms)

pub nodes-length : (ns : News) → length (new_nodes ns) ≡ length ns
nodes-length [] = refl
nodes-length (n ∷ ns) = ap suc (nodes-length ns)

-- nodes of new parameters, and then those of others
pub noted-join : (before mid after : List TreeNode) (from c d : Count) (ns ms : News) → length mid ≡ length before → Noted before from ns mid (Ok c) → Noted mid c ms after (Ok d) → Noted before from (ns ++ ms) after (Ok d)
noted-join before mid after from c d ns ms e n m = λ h.
    let q = n h in
    let v = m (omega (arith, e, q.2)) in
    let k = nodes-length ns in
    let at : c.nodes ≡ from.nodes + length (new_nodes ns) = omega (arith, k, q.1) in
    let long = length-append ns ms in
    (subst (λ xs. Wrote before from.nodes xs after) (sym (nodes-join ns ms)) (wrote-trans before from.nodes (new_nodes ns) mid (omega (arith, at, q.2)) q.0 (new_nodes ms) after (subst (λ a. Wrote mid a (new_nodes ms) after) at v.0)), omega (arith, long, q.1, v.1), omega (arith, e, v.2))

pub below-join : (ns ms : News) (o : Outcome Tree) → below_all ns (below_all ms o) ≡ below_all (ns ++ ms) o
below-join [] ms o = refl
below-join (n ∷ ns) ms o = ap (below_new n.0 n.1) (below-join ns ms o)

-- signs leave the work as it is
pub work-same : (x : State) (y : Context) → SameContext x.context y → work_of (record { table = x.table; context = y; cuts = x.cuts; left = x.left }) ≡ work_of x
work-same x y e = λ k. record { top = top x.table; rest = rest x.table; context = e.rows k; parameters = e.parameters k; made = e.made k; cuts = x.cuts }

pub work-turned : (x : State) (y : Context) (t : Table) → SameContext x.context y → work_of (record { table = t; context = y; cuts = x.cuts; left = x.left }) ≡ with_table t (work_of x)
work-turned x y t e = λ k. record { top = top t; rest = rest t; context = e.rows k; parameters = e.parameters k; made = e.made k; cuts = x.cuts }

pub work-known : (x : State) → KnownAs x.context (work_of x)
work-known x = record { context = refl; parameters = refl; made = refl }

module _ (splits : Work → List ℤ → Run Tree) (gas g : ℕ) (some : gas ≡ suc g) (x : State) (inside : x.table.unknowns ≤ x.table.count) (l : Limits) (c : Count) (r : Result (Found × Count) Stopped) (scans : scan (sign_in (work_of x)) (in_use x.table) l c ≡ scanned_at x.table.rows r) where
  t : Table
  t = x.table

  s : Work
  s = work_of x

  opened : settle (solving splits) gas s l c ≡ next (scanned_at t.rows r) (act (solving splits) (settle (solving splits) g) s) l
  unfolding t s
  opened =
      ap (λ n. settle (solving splits) n (work_of x) l c) some ∙ settle_is (solving splits) g (work_of x) l c
      ∙ ap (λ rs. next (scan (sign_in (work_of x)) rs l c) (act (solving splits) (settle (solving splits) g) (work_of x)) l) (both_used x.table inside)
      ∙ ap (λ o. next o (act (solving splits) (settle (solving splits) g) (work_of x)) l) scans

  pub node-broken : (e : Stopped) → r ≡ Err e → settle (solving splits) gas (work_of x) l c ≡ Err e
  unfolding t s
  node-broken e h = opened ∙ ap (λ r. next (scanned_at x.table.rows r) (act (solving splits) (settle (solving splits) g) (work_of x)) l) h

  acted : (f : Found) (d : Count) → r ≡ Ok (f, d) → settle (solving splits) gas (work_of x) l c ≡ act (solving splits) (settle (solving splits) g) (work_of x) (scan_at x.table.rows f) l d
  unfolding t s
  acted f d h = opened ∙ ap (λ r. next (scanned_at x.table.rows r) (act (solving splits) (settle (solving splits) g) (work_of x)) l) h

  pub node-none : (i : ℕ) (d : Count) → r ≡ Ok (Negative i, d) → None ≡ pivot_place x.table i → settle (solving splits) gas (work_of x) l c ≡ ended splits x.table NoPoint (work_of x) l d
  unfolding act lift
  node-none i d h p = acted (Negative i) d h ∙ ap (λ o. lift Node (settle (solving splits) g) (work_of x) (get_or x.table.rows i no_row) o l d) (place_none x.table i p)

  pub node-turn : (i : ℕ) (d : Count) → r ≡ Ok (Negative i, d) → (spot : ℕ × ℕ) → Some spot ≡ pivot_place x.table i → (o : Outcome Work) → turn Node (get_or x.table.rows spot.0 no_row) spot.1 (work_of x) l d ≡ o → settle (solving splits) gas (work_of x) l c ≡ next o (settle (solving splits) g) l
  unfolding act lift ◌>>=◌
  node-turn i d h spot p o m =
      let q = place-some x.table i spot p in
      acted (Negative i) d h ∙ ap (λ o. lift Node (settle (solving splits) g) (work_of x) (get_or x.table.rows i no_row) o l d) q.1
      ∙ ap (λ k. next (turn Node (get_or x.table.rows k no_row) spot.1 (work_of x) l d) (settle (solving splits) g) l) (sym q.0) ∙ ap (λ o. next o (settle (solving splits) g) l) m

  pub node-split : (h : ℕ) (d : Count) → r ≡ Ok (Unsure h, d) → settle (solving splits) gas (work_of x) l c ≡ ended splits x.table (Split h) (work_of x) l d
  unfolding act
  node-split h d e = acted (Unsure h) d e

  pub node-leaf : (d : Count) → r ≡ Ok (Clear, d) → None ≡ first_fraction 0 (top x.table) → settle (solving splits) gas (work_of x) l c ≡ ended splits x.table Leaf (work_of x) l d
  unfolding act finish
  node-leaf d h e = acted Clear d h ∙ ap (λ o. finish Node (settle (solving splits) g) (work_of x) o l d) (frac-none 0 (top x.table) (sym e))

  pub node-cut : (d : Count) → r ≡ Ok (Clear, d) → (h : ℕ) → h < x.table.unknowns → Some h ≡ first_fraction 0 (top x.table) → settle (solving splits) gas (work_of x) l c ≡ cut Node (settle (solving splits) g) (work_of x) (cut_of (get_or x.table.rows h no_row)) l d
  unfolding act finish
  node-cut d e h lt p = acted Clear d e ∙ ap (λ o. finish Node (settle (solving splits) g) (work_of x) o l d) (fraction-at x.table h lt (sym p))

-- ---- what the work at a node came to, from the state x₀ to a state x and the end
module _ (fuel : ℕ) (x₀ : State) (before after : List TreeNode) (from : Count) (news : News) where
  -- signs leave the work as it is, so the rules have left what the end says
  pub settled-end : (gas : ℕ) (x : State) (y : Context) (c d : Count) (end : End) → Noted before from news after (Ok c) → d.nodes ≡ c.nodes → SameContext x.context y → ((splits : Work → List ℤ → Run Tree) → settle (solving splits) 100_001 (work_of x₀) (limits fuel (length before)) from ≡ below_all news (settle (solving splits) gas (work_of x) (limits fuel (length before)) c)) → ((splits : Work → List ℤ → Run Tree) → settle (solving splits) gas (work_of x) (limits fuel (length before)) c ≡ ended splits x.table end (work_of x) (limits fuel (length before)) d) → Settled fuel x₀ before from (record { table = x.table; context = y; cuts = x.cuts; left = x.left }) after (Ok (end, d))
  settled-end gas x y c d end n e same left ends = (
    news,
    noted-on before after from c d news n e,
    λ splits. left splits ∙ ap (below_all news) (ends splits ∙ ap (λ s. ended splits x.table end s (limits fuel (length before)) d) (sym (work-same x y same))),
  )

  pub settled-refused : (z : State) (r : Result (End × Count) Stopped) (e : Stopped) → r ≡ Err e → ((splits : Work → List ℤ → Run Tree) → settle (solving splits) 100_001 (work_of x₀) (limits fuel (length before)) from ≡ below_all news (Err e)) → Settled fuel x₀ before from z after r
  settled-refused z r e is left = subst (Settled fuel x₀ before from z after) (sym is) (news, tt, left)
