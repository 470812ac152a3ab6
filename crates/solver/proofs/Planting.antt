-- Trees and the nodes that they are written in, from the ends of the work at a node up to the splits.
use Rattle.std.proofs.Common.{◌≡◌, ℕ, zero, suc, ◌+◌, ◌<◌, true, false, cond, ltb, List, [], ◌∷◌, ◌++◌, length, ℤ, Ok, Err, Result, sym, refl, ap, ◌∙◌, subst, arith, length-append}
use Rattle.base.specs.declared.refusal.Place.TheVariants.{Node}
use Rattle.base.specs.declared.refusal.Refusal.TheVariants.{Depth, FuelSpent, Range}
use Rattle.base.specs.Forms.{opposite}
use Rattle.base.specs.Numbers.{within}
use Rattle.tree.specs.declared.node.Node.{Node as TreeNode}
use Rattle.tree.specs.declared.node.Node.TheVariants.{New, Split}
use Rattle.tree.specs.Trees.{Tree, new, nodes, split}
use Rattle.solver.specs.declared.count.Count.{Count}
use Rattle.solver.specs.declared.count.Stopped.{Stopped}
use Rattle.solver.specs.declared.settle.End.{End}
use Rattle.solver.specs.declared.state.State.{State}
use Rattle.solver.specs.Ends.{News, Noted, Planted, Settled, below_all, below_new, ended, new_nodes, splitting}
use Rattle.solver.specs.Rules.{Work, branch, branches, node, ranged, settle, solving, where_form}
use Rattle.solver.specs.Runs.{Limits, Outcome, Run, next, refuse, return, write, ◌>>=◌, ◌>>◌, stopped_at}
use Rattle.solver.specs.Ties.{Wrote, WroteIf, limits, noted_in, ticked, work_of}
use Rattle.solver.proofs.Cutting.{bar-is, once_ticked, tick-then}
use Rattle.solver.proofs.Settling.{nodes-length}
use Rattle.solver.proofs.Writing.{noted-from, write-made, write-refused, wrote-trans}

pub node-is : (left : ℕ) (s : Work) (l : Limits) (c : Count) → node left s l c ≡ settle (solving (splitting left)) 100_001 s l c
unfolding node
node-is zero s l c = refl
node-is (suc left) s l c = refl

-- ---- below new parameters
tree_below : News → Tree → Tree
tree_below [] t = t
tree_below (n ∷ ns) t = new n.0 n.1 (tree_below ns t)

below-made : (ns : News) (t : Tree) (c : Count) → below_all ns (Ok (t, c)) ≡ Ok (tree_below ns t, c)
unfolding tree_below
below-made [] t c = refl
below-made (n ∷ ns) t c = ap (below_new n.0 n.1) (below-made ns t c)

pub below-refused : (ns : News) (e : Stopped) → below_all ns (Err e) ≡ Err e
below-refused [] e = refl
below-refused (n ∷ ns) e = ap (below_new n.0 n.1) (below-refused ns e)

nodes-below : (ns : News) (t : Tree) → nodes (tree_below ns t) ≡ new_nodes ns ++ nodes t
unfolding tree_below
nodes-below [] t = refl
nodes-below (n ∷ ns) t = ap (λ xs. New n.0 n.1 ∷ xs) (nodes-below ns t)

-- what was written so far, and then the tree
pub planted-below : (before mid after : List TreeNode) (from c : Count) (ns : News) (r : Result Count Stopped) (o : Outcome Tree) → length mid ≡ length before → Noted before from ns mid (Ok c) → Planted mid c after r o → Planted before from after r (below_all ns o)
planted-below before mid after from c ns (Ok d) o e n q = (
  tree_below ns q.0,
  ap (below_all ns) q.1 ∙ below-made ns q.0 d,
  λ h.
      let a = n h in
      let v = q.2 (omega (arith, e, a.2)) in
      let k = nodes-length ns in
      let at : c.nodes ≡ from.nodes + length (new_nodes ns) = omega (arith, k, a.1) in
      let b = nodes-below ns q.0 in
      let j : length (nodes (tree_below ns q.0)) ≡ length (new_nodes ns) + length (nodes q.0) = ap length b ∙ length-append (new_nodes ns) (nodes q.0) in (
        subst (λ xs. Wrote before from.nodes xs after) (sym b) (wrote-trans before from.nodes (new_nodes ns) mid (omega (arith, at, a.2)) a.0 (nodes q.0) after (subst (λ m. Wrote mid m (nodes q.0) after) at v.0)),
        omega (arith, j, at, v.1),
        omega (arith, e, v.2),
      ),
)
planted-below before mid after from c ns (Err x) o e n q = ap (below_all ns) q ∙ below-refused ns x

-- what the end of the work at a node plants, below the new parameters made before it
pub planted-node : (left fuel : ℕ) (x y : State) (before mid after : List TreeNode) (from c : Count) (end : End) (r : Result Count Stopped) → length mid ≡ length before → Settled fuel x before from y mid (Ok (end, c)) → Planted mid c after r (ended (splitting left) y.table end (work_of y) (limits fuel (length before)) c) → Planted before from after r (node left (work_of x) (limits fuel (length before)) from)
planted-node left fuel x y before mid after from c end r e q p =
    subst (Planted before from after r) (sym (node-is left (work_of x) (limits fuel (length before)) from ∙ q.2 (splitting left)))
    (planted-below before mid after from c q.0 r _ e q.1 p)

-- a tree of one node
pub planted-end : (before after : List TreeNode) (fuel : ℕ) (c : Count) (t : Tree) (v : TreeNode) (r : Result Count Stopped) → nodes t ≡ v ∷ [] → r ≡ noted_in (length before) c → WroteIf before c.nodes (v ∷ []) after r → Planted before c after r ((write Node >> return t) (limits fuel (length before)) c)
unfolding return
planted-end before after fuel c t v (Ok d) e n w =
    let p = noted-from (length before) c d n in
    let q = ap (λ x. x.nodes) p.1 in
    let k = ap length e in (
      t,
      write-made (return t) (limits fuel (length before)) c d n,
      λ h. (subst (λ xs. Wrote before c.nodes xs after) (sym e) w, omega (arith, q, k), omega (arith, q, p.0)),
    )
planted-end before after fuel c t v (Err x) e n w = write-refused (return t) (limits fuel (length before)) c x n

-- ---- splits
pub split-barred : (left : ℕ) (s : Work) (C : List ℤ) (fuel room : ℕ) (c : Count) → left ≡ 0 → splitting left s C (limits fuel room) c ≡ Err (cond (ltb c.steps fuel) (stopped_at Depth Node c) (stopped_at FuelSpent Node c))
split-barred left s C fuel room c e = ap (λ n. splitting n s C (limits fuel room) c) e ∙ bar-is Depth Node fuel room c

branch_in : (left : ℕ) (s : Work) (C : List ℤ) (fuel room : ℕ) (c : Count) → within C ≡ true → branch (node left) s C (limits fuel room) c ≡ node left (where_form s C) (limits fuel room) c
unfolding branch ranged return ◌>>◌
branch_in left s C fuel room c h = ap (λ b. next (cond b (return (tt {0})) (refuse Range Node) (limits fuel room) c) (λ _. node left (where_form s C)) (limits fuel room)) h

branch-out : (left : ℕ) (s : Work) (C : List ℤ) (fuel room : ℕ) (c : Count) → within C ≡ false → branch (node left) s C (limits fuel room) c ≡ Err (stopped_at Range Node c)
unfolding branch ranged refuse ◌>>◌
branch-out left s C fuel room c h = ap (λ b. next (cond b (return (tt {0})) (refuse Range Node) (limits fuel room) c) (λ _. node left (where_form s C)) (limits fuel room)) h

module _ (left : ℕ) (s : Work) (C : List ℤ) (fuel room : ℕ) (c : Count) where
  second : Tree → Run Tree
  second t = branch (node left) s (opposite C) >>= (λ u. return (split C t u))

  halves : Run Tree
  halves = branch (node left) s C >>= second

  opened : splitting (suc left) s C (limits fuel room) c ≡ once_ticked (ticked Node fuel c) ((write Node >> halves) (limits fuel room))
  unfolding branches halves second
  opened = tick-then Node (write Node >> (branch (node left) s C >>= (λ t. branch (node left) s (opposite C) >>= (λ u. return (split C t u))))) fuel room c

  pub split-spent : (e : Stopped) → ticked Node fuel c ≡ Err e → splitting (suc left) s C (limits fuel room) c ≡ Err e
  split-spent e h = opened ∙ ap (λ o. once_ticked o ((write Node >> halves) (limits fuel room))) h

  module _ (d : Count) (tick : ticked Node fuel c ≡ Ok d) where
    after-tick : splitting (suc left) s C (limits fuel room) c ≡ (write Node >> halves) (limits fuel room) d
    after-tick = opened ∙ ap (λ o. once_ticked o ((write Node >> halves) (limits fuel room))) tick

    pub split-full : (e : Stopped) → Err e ≡ noted_in room d → splitting (suc left) s C (limits fuel room) c ≡ Err e
    split-full e h = after-tick ∙ write-refused halves (limits fuel room) d e h

    module _ (f : Count) (wrote : Ok f ≡ noted_in room d) where
      after_write : splitting (suc left) s C (limits fuel room) c ≡ next (branch (node left) s C (limits fuel room) f) second (limits fuel room)
      unfolding halves ◌>>=◌
      after_write = after-tick ∙ write-made halves (limits fuel room) d f wrote

      pub split-out : within C ≡ false → splitting (suc left) s C (limits fuel room) c ≡ Err (stopped_at Range Node f)
      split-out h = after_write ∙ ap (λ o. next o second (limits fuel room)) (branch-out left s C fuel room f h)

      pub split-first : within C ≡ true → (e : Stopped) → node left (where_form s C) (limits fuel room) f ≡ Err e → splitting (suc left) s C (limits fuel room) c ≡ Err e
      split-first h e q = after_write ∙ ap (λ o. next o second (limits fuel room)) (branch_in left s C fuel room f h ∙ q)

      module _ (inside : within C ≡ true) (t : Tree) (k : Count) (first : node left (where_form s C) (limits fuel room) f ≡ Ok (t, k)) where
        after_first : splitting (suc left) s C (limits fuel room) c ≡ next (branch (node left) s (opposite C) (limits fuel room) k) (λ u. return (split C t u)) (limits fuel room)
        unfolding second ◌>>=◌
        after_first = after_write ∙ ap (λ o. next o second (limits fuel room)) (branch_in left s C fuel room f inside ∙ first)

        pub split-out-2 : within (opposite C) ≡ false → splitting (suc left) s C (limits fuel room) c ≡ Err (stopped_at Range Node k)
        split-out-2 h = after_first ∙ ap (λ o. next o (λ u. return (split C t u)) (limits fuel room)) (branch-out left s (opposite C) fuel room k h)

        pub split-second : within (opposite C) ≡ true → (e : Stopped) → node left (where_form s (opposite C)) (limits fuel room) k ≡ Err e → splitting (suc left) s C (limits fuel room) c ≡ Err e
        split-second h e q = after_first ∙ ap (λ o. next o (λ u. return (split C t u)) (limits fuel room)) (branch_in left s (opposite C) fuel room k h ∙ q)

        pub split-both : within (opposite C) ≡ true → (u : Tree) (m : Count) → node left (where_form s (opposite C)) (limits fuel room) k ≡ Ok (u, m) → splitting (suc left) s C (limits fuel room) c ≡ Ok (split C t u, m)
        unfolding return
        split-both h u m q = after_first ∙ ap (λ o. next o (λ u. return (split C t u)) (limits fuel room)) (branch_in left s (opposite C) fuel room k h ∙ q)

pub some_left : (n : ℕ) → 0 < n → (m : ℕ) × (n ≡ suc m)
some_left zero h = absurd (let no : ⊥ = omega arith in no)
some_left (suc n) h = (n, refl)

-- the node of the split, then the two trees
pub planted-split : (before w₁ w₂ after : List TreeNode) (left : ℕ) (s : Work) (C : List ℤ) (fuel : ℕ) (c d f k : Count) (r : Result Count Stopped) → length w₁ ≡ length before → length w₂ ≡ length before → ticked Node fuel c ≡ Ok d → d.nodes ≡ c.nodes → Ok f ≡ noted_in (length before) d → Wrote before d.nodes (Split C ∷ []) w₁ → within C ≡ true → Planted w₁ f w₂ (Ok k) (node left (where_form s C) (limits fuel (length before)) f) → within (opposite C) ≡ true → Planted w₂ k after r (node left (where_form s (opposite C)) (limits fuel (length before)) k) → Planted before c after r (splitting (suc left) s C (limits fuel (length before)) c)
planted-split before w₁ w₂ after left s C fuel c d f k (Ok m) long₁ long₂ tick same wr w inside p inside₂ q = (
  split C p.0 q.0,
  split-both left s C fuel (length before) c d tick f wr inside p.0 k p.1 inside₂ q.0 m q.1,
  λ h.
      let n = noted-from (length before) d f wr in
      let one : f.nodes ≡ suc d.nodes = ap (λ x. x.nodes) n.1 in
      let a = p.2 (omega (arith, one, n.0, long₁)) in
      let b = q.2 (omega (arith, a.2, long₁, long₂)) in
      let e₁ : f.nodes ≡ c.nodes + 1 = omega (arith, one, same) in
      let e₂ : k.nodes ≡ c.nodes + length (Split C ∷ nodes p.0) = omega (arith, e₁, a.1) in
      let t₁ : Wrote before c.nodes (Split C ∷ nodes p.0) w₂ = wrote-trans before c.nodes (Split C ∷ []) w₁ (omega (arith, n.0, same)) (subst (λ i. Wrote before i (Split C ∷ []) w₁) same w) (nodes p.0) w₂ (subst (λ i. Wrote w₁ i (nodes p.0) w₂) e₁ a.0) in
      let j = length-append (nodes p.0) (nodes q.0) in (
        wrote-trans before c.nodes (Split C ∷ nodes p.0) w₂ (omega (arith, e₂, a.2, long₁)) t₁ (nodes q.0) after (subst (λ i. Wrote w₂ i (nodes q.0) after) e₂ b.0),
        omega (arith, j, e₁, a.1, b.1),
        omega (arith, b.2, long₂),
      ),
)
planted-split before w₁ w₂ after left s C fuel c d f k (Err x) long₁ long₂ tick same wr w inside p inside₂ q =
    split-second left s C fuel (length before) c d tick f wr inside p.0 k p.1 inside₂ x q
