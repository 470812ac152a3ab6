-- A run from end to end: the context's own test, head and keeps, the tree.
use Rattle.std.proofs.Common.{◌≡◌, ℕ, suc, ◌+◌, ◌-◌, ◌≤◌, Bool, true, false, cond, ◌&&◌, List, [], ◌∷◌, ◌++◌, length, take, drop, replicate, ℤ, pos, nat_abs, ◌≤ℤ◌, ◌<ℤ◌, Ok, Err, Result, refl, ap, ◌∙◌, subst, arith, length-append}
use lib.Signed.{le_z}
use Rattle.std.proofs.lemmas.List.{drop-replicate}
use Rattle.std.proofs.lemmas.Int.{ints}
use Rattle.source.specs.Systems.{System}
use Rattle.base.specs.declared.refusal.Refusal.{Refusal}
use Rattle.base.specs.declared.refusal.Refusal.TheVariants.{Fuel, NoParameterPoint}
use Rattle.base.specs.declared.refusal.Place.TheVariants.{Node}
use Rattle.tree.specs.declared.node.Node.{Node as TreeNode}
use Rattle.tree.specs.Trees.{Tree, nodes}
use Rattle.solver.specs.declared.count.Count.{Count}
use Rattle.solver.specs.declared.count.Stopped.{Stopped}
use Rattle.solver.specs.Ends.{Planted, Rooted}
use Rattle.solver.specs.Rules.{Work, node, test}
use Rattle.solver.specs.Runs.{Limits, Outcome, fail, next, stopped, write, ◌>>=◌, ◌>>◌}
use Rattle.solver.specs.Solves.{begun, fuel_fits, keeps, nothing, run, run_if, solved, start, system_fits}
use Rattle.solver.specs.Ties.{Wrote, noted_in}
use Rattle.solver.proofs.Writing.{noted-from, write-made, write-refused, wrote-trans}

module _ (s : Work) (l : Limits) (c : Count) where
  opened : run s l c ≡ next (test s.parameters s.made s.context l c) (begun s) l
  unfolding run ◌>>=◌
  opened = refl

  pub run-broken : (e : Stopped) → test s.parameters s.made s.context l c ≡ Err e → run s l c ≡ Err e
  run-broken e h = opened ∙ ap (λ o. next o (begun s) l) h

  pub run-unmet : (d : Count) → test s.parameters s.made s.context l c ≡ Ok (false, d) → run s l c ≡ Err (stopped NoParameterPoint d)
  unfolding begun fail
  run-unmet d h = opened ∙ ap (λ o. next o (begun s) l) h

  module _ (d : Count) (met : test s.parameters s.made s.context l c ≡ Ok (true, d)) where
    begins : run s l c ≡ (write Node >> (keeps s.context >> node 12 s)) l d
    unfolding begun
    begins = opened ∙ ap (λ o. next o (begun s) l) met

    pub run-full : (e : Stopped) → Err e ≡ noted_in l.room d → run s l c ≡ Err e
    run-full e h = begins ∙ write-refused (keeps s.context >> node 12 s) l d e h

    module _ (f : Count) (wrote : Ok f ≡ noted_in l.room d) where
      headed : run s l c ≡ next (keeps s.context l f) (λ _. node 12 s) l
      unfolding ◌>>◌
      headed = begins ∙ write-made (keeps s.context >> node 12 s) l d f wrote

      pub run-keeps-full : (e : Stopped) → keeps s.context l f ≡ Err e → run s l c ≡ Err e
      run-keeps-full e h = headed ∙ ap (λ o. next o (λ _. node 12 s) l) h

      pub run-kept : (k : Count) → keeps s.context l f ≡ Ok (tt, k) → run s l c ≡ node 12 s l k
      run-kept k h = headed ∙ ap (λ o. next o (λ _. node 12 s) l) h

-- the head, the keeps, and the tree
pub rooted : (before w₁ w₂ after : List TreeNode) (head : TreeNode) (ks : List TreeNode) (d f k : Count) (r : Result Count Stopped) (o : Outcome Tree) → length w₁ ≡ length before → length w₂ ≡ length before → d.nodes ≡ 0 → Ok f ≡ noted_in (length before) d → Wrote before d.nodes (head ∷ []) w₁ → Wrote w₁ f.nodes ks w₂ → k.nodes ≡ f.nodes + length ks → k.nodes ≤ length before → Planted w₂ k after r o → Rooted before (head ∷ ks) after r o
rooted before w₁ w₂ after head ks d f k (Ok m) o long₁ long₂ z h a b n le q =
    let p = noted-from (length before) d f h in
    let one : f.nodes ≡ suc d.nodes = ap (λ x. x.nodes) p.1 in
    let e₁ : f.nodes ≡ 0 + 1 = omega (arith, one, z) in
    let e₂ : k.nodes ≡ 0 + length (head ∷ ks) = omega (arith, e₁, n) in
    let v = q.2 (omega (arith, le, long₂)) in
    let t : Wrote before 0 (head ∷ ks) w₂ = wrote-trans before 0 (head ∷ []) w₁ (omega (arith, p.0)) (subst (λ i. Wrote before i (head ∷ []) w₁) z a) ks w₂ (subst (λ i. Wrote w₁ i ks w₂) e₁ b) in
    let j = length-append (head ∷ ks) (nodes q.0) in (
      q.0,
      q.1,
      wrote-trans before 0 (head ∷ ks) w₂ (omega (arith, e₂, le)) t (nodes q.0) after (subst (λ i. Wrote w₂ i (nodes q.0) after) e₂ v.0),
      omega (arith, j, e₂, v.1, v.2, long₂),
    )
rooted before w₁ w₂ after head ks d f k (Err e) o long₁ long₂ z h a b n le q = q

-- ---- a solve
pub solved-unfit : (S : System) (fuel : ℤ) (room : ℕ) (e : Refusal) → system_fits S ≡ Err e → solved S fuel room ≡ Err (stopped e nothing)
unfolding solved
solved-unfit S fuel room e h = ap (λ a. run_if a (run_if (fuel_fits fuel) (run (start S) (record { fuel = nat_abs fuel; room = room }) nothing))) h

pub solved-spent : (S : System) (fuel : ℤ) (room : ℕ) → system_fits S ≡ Ok tt → fuel_fits fuel ≡ Err Fuel → solved S fuel room ≡ Err (stopped Fuel nothing)
unfolding solved
solved-spent S fuel room h f =
    ap (λ a. run_if a (run_if (fuel_fits fuel) (run (start S) (record { fuel = nat_abs fuel; room = room }) nothing))) h
    ∙ ap (λ a. run_if a (run (start S) (record { fuel = nat_abs fuel; room = room }) nothing)) f

pub solved-runs : (S : System) (fuel : ℤ) (room : ℕ) → system_fits S ≡ Ok tt → fuel_fits fuel ≡ Ok tt → solved S fuel room ≡ run (start S) (record { fuel = nat_abs fuel; room = room }) nothing
unfolding solved
solved-runs S fuel room h f =
    ap (λ a. run_if a (run_if (fuel_fits fuel) (run (start S) (record { fuel = nat_abs fuel; room = room }) nothing))) h
    ∙ ap (λ a. run_if a (run (start S) (record { fuel = nat_abs fuel; room = room }) nothing)) f

pub fuel-below : (fuel : ℤ) → fuel <ℤ pos 0 → fuel_fits fuel ≡ Err Fuel
fuel-below fuel h = ap (λ b. cond (b && le_z fuel (pos 100_000)) (Ok tt) (Err Fuel)) (let e : le_z (pos 0) fuel ≡ false = grind (arith, ints) in e)

pub fuel-above : (fuel : ℤ) → pos 100_000 <ℤ fuel → fuel_fits fuel ≡ Err Fuel
fuel-above fuel h =
    let e : le_z fuel (pos 100_000) ≡ false = grind (arith, ints) in
    ap (λ b. cond (le_z (pos 0) fuel && b) (Ok tt) (Err Fuel)) e ∙ go (le_z (pos 0) fuel)
  where
    go : (b : Bool) → cond (b && false) (Ok (tt {0})) (Err Fuel) ≡ Err Fuel
    go true = refl
    go false = refl

pub fuel-within : (fuel : ℤ) → pos 0 ≤ℤ fuel → fuel ≤ℤ pos 100_000 → fuel_fits fuel ≡ Ok tt
fuel-within fuel h k =
    let e : le_z (pos 0) fuel ≡ true = grind (arith, ints) in
    let f : le_z fuel (pos 100_000) ≡ true = grind (arith, ints) in
    ap (λ b. cond (b && le_z fuel (pos 100_000)) (Ok tt) (Err Fuel)) e ∙ ap (λ b. cond b (Ok tt) (Err Fuel)) f

-- the nodes of a run stand first in a table that was blank, with blank nodes after them
pub root-left : {A : Type 0} (a : A) (n : ℕ) (xs after : List A) → after ≡ take 0 (replicate n a) ++ (xs ++ drop (0 + length xs) (replicate n a)) → after ≡ xs ++ replicate (n - length xs) a
root-left a n xs after w = w ∙ ap (λ ys. xs ++ ys) (drop-replicate (0 + length xs) n a ∙ ap (λ k. replicate (n - k) a) (let e : 0 + length xs ≡ length xs = omega arith in e))
