use Rattle.std.proofs.Common.{◌≡◌, [], ◌∷◌, map, length, get_or, Ok, Err, sym, refl, ap, ◌∙◌, subst, arith, rules}
use Rattle.std.proofs.lemmas.Result.{err_from_is_err_and, IfOk-from_err}
use Rattle.base.specs.declared.refusal.Place.TheVariants.{Node}
use Rattle.base.specs.Forms.{opposite}
use Rattle.base.specs.Numbers.{within}
use Rattle.tableau.specs.Tables.{no_row, top}
use Rattle.tree.specs.declared.node.Node.TheVariants.{None as NoneNode, Split as SplitNode}
use Rattle.tree.specs.Trees.{leaf, none}
use Rattle.solver.specs.declared.settle.End.TheVariants.{Leaf, None as NoPoint, Split}
use Rattle.solver.specs.Ends.{Planted, Settled, below_all, finishing, splitting}
use Rattle.solver.specs.Rules.{node, where_form}
use Rattle.solver.specs.Runs.{return, write, ◌>>◌}
use Rattle.solver.specs.Ties.{Wrote, limits, solution_of, work_of}
use Rattle.solver.proofs.Cutting.{barred-is}
use Rattle.solver.proofs.Planting.{below-refused, node-is, planted-end, planted-node, planted-split, some_left, split-barred, split-first, split-full, split-out, split-out-2, split-spent}
use Rattle.solver.proofs.node.+node_split.Goals as goal

pub node-returns-in_err-end : goal.node-returns-in_err-end
node-returns-in_err-end t c =
    let x = c.args.state.now in
    let w = c.args.work.now in
    let l = limits c.args.fuel (length w) in
    let q = c.settle.ensures.value in
    let p = err_from_is_err_and c.from_residual.result c.from_residual.ensures.1 in
    let e = p.1 ∙ ap Err p.2 in
    record {
      value = subst (λ r. Planted w c.args.start c.settle.new.work r (node x.left (work_of x) l c.args.start)) (sym e)
          (node-is x.left (work_of x) l c.args.start ∙ q.2 (splitting x.left) ∙ ap (λ r. below_all q.0 (finishing (splitting x.left) c.settle.new.state l r)) c.in_err-end.was ∙ below-refused q.0 c.in_err-end.field-0.0);
      stepped = IfOk-from_err _ _ c.from_residual.ensures.0;
    }

pub node-returns-in-Leaf : goal.node-returns-in-Leaf
node-returns-in-Leaf t c =
    let x = c.args.state.now in
    let y = c.settle.new.state in
    let w = c.args.work.now in
    let v = c.settle.new.work in
    let k = c.in_ok-end.count in
    let q = subst (λ e. Settled c.args.fuel x w c.args.start y v (Ok (e, k))) c.in-Leaf.is c.in_ok-end.ensures.value in
    let long : length v ≡ length w = search rules in
    let tree = leaf (map solution_of (top y.table)) in
    record {
      value = planted-node x.left c.args.fuel x y w v c.write.new.work c.args.start k Leaf c.write.result long q
          (subst (λ n. Planted v k c.write.new.work c.write.result ((write Node >> return tree) (limits c.args.fuel n) k)) long
          (planted-end v c.write.new.work c.args.fuel k tree c.leaf_of.result c.write.result (ap (λ n. n ∷ []) (sym c.leaf_of.ensures.value)) c.write.ensures.value c.write.ensures.left));
      stepped = search rules;
    }

pub node-returns-in-None : goal.node-returns-in-None
node-returns-in-None t c =
    let x = c.args.state.now in
    let y = c.settle.new.state in
    let w = c.args.work.now in
    let v = c.settle.new.work in
    let k = c.in_ok-end.count in
    let q = subst (λ e. Settled c.args.fuel x w c.args.start y v (Ok (e, k))) c.in-None.is c.in_ok-end.ensures.value in
    let long : length v ≡ length w = search rules in
    record {
      value = planted-node x.left c.args.fuel x y w v c.write-in-None.new.work c.args.start k NoPoint c.write-in-None.result long q
          (subst (λ n. Planted v k c.write-in-None.new.work c.write-in-None.result ((write Node >> return none) (limits c.args.fuel n) k)) long
          (planted-end v c.write-in-None.new.work c.args.fuel k none NoneNode c.write-in-None.result refl c.write-in-None.ensures.value c.write-in-None.ensures.left));
      stepped = search rules;
    }

pub node-returns-in-Split : goal.node-returns-in-Split
node-returns-in-Split t c =
    let x = c.args.state.now in
    let y = c.settle.new.state in
    let w = c.args.work.now in
    let v = c.settle.new.work in
    let k = c.in_ok-end.count in
    let q = subst (λ e. Settled c.args.fuel x w c.args.start y v (Ok (e, k))) c.in-Split.is c.in_ok-end.ensures.value in
    let h = c.in-Split.h in
    let long : length v ≡ length w = search rules in
    record {
      value = planted-node x.left c.args.fuel x y w v c.split.new.work c.args.start k (Split h) c.split.result long q
          (subst (λ m. Planted v k c.split.new.work c.split.result (splitting m (work_of y) (get_or y.table.rows h no_row).form (limits c.args.fuel (length w)) k)) c.settle.ensures.left
          (subst (λ n. Planted v k c.split.new.work c.split.result (splitting y.left (work_of y) (get_or y.table.rows h no_row).form (limits c.args.fuel n) k)) long c.split.ensures.value));
      stepped = search rules;
    }

pub split-returns-then-state-eq0 : goal.split-returns-then-state-eq0
split-returns-then-state-eq0 t c =
    let x = c.args.state.now in
    let w = c.args.work.now in
    let C = (get_or x.table.rows c.args.h no_row).form in
    let l = limits c.args.fuel (length w) in
    record {
      value = split-barred x.left (work_of x) C c.args.fuel (length w) c.args.start (omega arith)
          ∙ ap Err (barred-is _ _ _ _ _ _ c.barred_by.ensures.value c.barred_by.ensures.count);
      stepped = tt;
    }

pub split-returns-in_err-count : goal.split-returns-in_err-count
split-returns-in_err-count t c =
    let x = c.args.state.now in
    let w = c.args.work.now in
    let C = (get_or x.table.rows c.args.h no_row).form in
    let l = limits c.args.fuel (length w) in
    let p = err_from_is_err_and c.from_residual.result c.from_residual.ensures.1 in
    let e = p.1 ∙ ap Err p.2 in
    let m = some_left x.left (omega arith) in
    record {
      value = subst (λ r. Planted w c.args.start w r (splitting x.left (work_of x) C l c.args.start)) (sym e)
          (ap (λ n. splitting n (work_of x) C l c.args.start) m.1 ∙ split-spent m.0 (work_of x) C c.args.fuel (length w) c.args.start c.in_err-count.field-0.0 (sym c.tick.ensures.value ∙ c.in_err-count.was));
      stepped = IfOk-from_err _ _ c.from_residual.ensures.0;
    }

pub split-returns-in_err-count-2 : goal.split-returns-in_err-count-2
split-returns-in_err-count-2 t c =
    let x = c.args.state.now in
    let w = c.args.work.now in
    let C = (get_or x.table.rows c.args.h no_row).form in
    let l = limits c.args.fuel (length w) in
    let p = err_from_is_err_and c.from_residual-in_err-count-2.result c.from_residual-in_err-count-2.ensures.1 in
    let e = p.1 ∙ ap Err p.2 in
    let m = some_left x.left (omega arith) in
    let d = c.in_ok-count.count in
    let ticks = sym c.in_ok-count.ensures.value in
    record {
      value = subst (λ r. Planted w c.args.start c.write.new.work r (splitting x.left (work_of x) C l c.args.start)) (sym e)
          (ap (λ n. splitting n (work_of x) C l c.args.start) m.1 ∙ split-full m.0 (work_of x) C c.args.fuel (length w) c.args.start d ticks c.in_err-count-2.field-0.0 c.in_err-count-2.ensures.value);
      stepped = IfOk-from_err _ _ c.from_residual-in_err-count-2.ensures.0;
    }

pub split-returns-then-not-branch : goal.split-returns-then-not-branch
split-returns-then-not-branch t c =
    let x = c.args.state.now in
    let w = c.args.work.now in
    let C = (get_or x.table.rows c.args.h no_row).form in
    let l = limits c.args.fuel (length w) in
    let d = c.in_ok-count.count in
    let ticks = sym c.in_ok-count.ensures.value in
    let f = c.in_ok-count-2.count in
    let wrote = c.in_ok-count-2.ensures.value in
    let b = c.if-not-branch.ensures in
    let m = c.branch-first.new.state.left in
    record {
      value = ap (λ n. splitting n (work_of x) C l c.args.start) b.once ∙ split-out m (work_of x) C c.args.fuel (length w) c.args.start d ticks f wrote (sym b.value) ∙ ap Err (sym c.out_of_range.ensures);
      stepped = tt;
    }

pub split-returns-in_err-count-3 : goal.split-returns-in_err-count-3
split-returns-in_err-count-3 t c =
    let x = c.args.state.now in
    let w = c.args.work.now in
    let C = (get_or x.table.rows c.args.h no_row).form in
    let l = limits c.args.fuel (length w) in
    let p = err_from_is_err_and c.from_residual-in_err-count-3.result c.from_residual-in_err-count-3.ensures.1 in
    let e = p.1 ∙ ap Err p.2 in
    let d = c.in_ok-count.count in
    let ticks = sym c.in_ok-count.ensures.value in
    let f = c.in_ok-count-2.count in
    let wrote = c.in_ok-count-2.ensures.value in
    let b = c.if-not-branch.ensures in
    let m = c.branch-first.new.state.left in
    let long : length c.write.new.work ≡ length w = search rules in
    let first = c.branch-first.new.state in
    let at = b.work refl in
    record {
      value = subst (λ r. Planted w c.args.start c.node.new.work r (splitting x.left (work_of x) C l c.args.start)) (sym e)
          (ap (λ n. splitting n (work_of x) C l c.args.start) b.once ∙ split-first m (work_of x) C c.args.fuel (length w) c.args.start d ticks f wrote (sym b.value) c.in_err-count-3.field-0.0
          (ap (λ s. node m s l f) (sym at) ∙ ap (λ n. node m (work_of first) (limits c.args.fuel n) f) (sym long) ∙ c.in_err-count-3.ensures.value));
      stepped = IfOk-from_err _ _ c.from_residual-in_err-count-3.ensures.0;
    }

pub split-returns-then-not-branch-2 : goal.split-returns-then-not-branch-2
split-returns-then-not-branch-2 t c =
    let x = c.args.state.now in
    let w = c.args.work.now in
    let C = (get_or x.table.rows c.args.h no_row).form in
    let l = limits c.args.fuel (length w) in
    let d = c.in_ok-count.count in
    let ticks = sym c.in_ok-count.ensures.value in
    let f = c.in_ok-count-2.count in
    let wrote = c.in_ok-count-2.ensures.value in
    let b = c.if-not-branch.ensures in
    let m = c.branch-first.new.state.left in
    let long : length c.write.new.work ≡ length w = search rules in
    let first = c.branch-first.new.state in
    let at = b.work refl in
    let k = c.in_ok-count-3.count in
    let w₁ = c.write.new.work in
    let w₂ = c.node.new.work in
    let P = subst (λ s. Planted w₁ f w₂ (Ok k) (node m s l f)) at (subst (λ n. Planted w₁ f w₂ (Ok k) (node m (work_of first) (limits c.args.fuel n) f)) long c.in_ok-count-3.ensures.value) in
    let b₂ = c.if-not-branch-2.ensures in
    let opp = c.opposite.ensures in
    record {
      value = ap (λ n. splitting n (work_of x) C l c.args.start) b.once
          ∙ split-out-2 m (work_of x) C c.args.fuel (length w) c.args.start d ticks f wrote (sym b.value) P.0 k P.1 (ap within (sym opp) ∙ sym b₂.value) ∙ ap Err (sym c.out_of_range-then-not-branch-2.ensures);
      stepped = tt;
    }

pub split-returns : goal.split-returns
split-returns t c =
    let x = c.args.state.now in
    let w = c.args.work.now in
    let C = (get_or x.table.rows c.args.h no_row).form in
    let l = limits c.args.fuel (length w) in
    let d = c.in_ok-count.count in
    let ticks = sym c.in_ok-count.ensures.value in
    let f = c.in_ok-count-2.count in
    let wrote = c.in_ok-count-2.ensures.value in
    let b = c.if-not-branch.ensures in
    let m = c.branch-first.new.state.left in
    let long : length c.write.new.work ≡ length w = search rules in
    let first = c.branch-first.new.state in
    let at = b.work refl in
    let k = c.in_ok-count-3.count in
    let w₁ = c.write.new.work in
    let w₂ = c.node.new.work in
    let P = subst (λ s. Planted w₁ f w₂ (Ok k) (node m s l f)) at (subst (λ n. Planted w₁ f w₂ (Ok k) (node m (work_of first) (limits c.args.fuel n) f)) long c.in_ok-count-3.ensures.value) in
    let b₂ = c.if-not-branch-2.ensures in
    let opp = c.opposite.ensures in
    let long₂ : length w₂ ≡ length w = search rules in
    let y = c.branch-second.new.state in
    let same : y.left ≡ m = omega (arith, b.once, b₂.once) in
    let r = c.node-2.result in
    let z = c.node-2.new.work in
    let Q = subst (λ i. Planted w₂ k z r (node i (where_form (work_of x) (opposite C)) l k)) same
    (subst (λ s. Planted w₂ k z r (node y.left s l k)) (b₂.work refl ∙ ap (where_form (work_of x)) opp)
    (subst (λ n. Planted w₂ k z r (node y.left (work_of y) (limits c.args.fuel n) k)) long₂ c.node-2.ensures.value)) in
    record {
      value = subst (λ n. Planted w c.args.start z r (splitting n (work_of x) C l c.args.start)) (sym b.once)
          (planted-split w w₁ w₂ z m (work_of x) C c.args.fuel c.args.start d f k r long long₂ ticks c.in_ok-count.ensures.nodes wrote (subst (λ F. Wrote w d.nodes (SplitNode F ∷ []) w₁) c.narrow.ensures.value c.in_ok-count-2.ensures.left) (sym b.value) P (ap within (sym opp) ∙ sym b₂.value) Q);
      stepped = search rules;
    }
