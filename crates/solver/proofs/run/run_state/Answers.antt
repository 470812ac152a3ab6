use Rattle.std.proofs.Common.{◌≡◌, ◌≤◌, ◌∷◌, map, length, Ok, Err, sym, ap, ◌∙◌, subst, arith, rules}
use Rattle.std.proofs.lemmas.Result.{err_from_is_err_and, IfOk-from_err}
use Rattle.tree.specs.declared.node.Node.TheVariants.{Head, Keep}
use Rattle.solver.specs.Bounds.{in_force}
use Rattle.solver.specs.Ends.{Planted, Rooted}
use Rattle.solver.specs.Rules.{node}
use Rattle.solver.specs.Solves.{keeps, nothing, run}
use Rattle.solver.specs.Ties.{counted, limits, work_of}
use Rattle.solver.proofs.Running.{rooted, run-broken, run-full, run-keeps-full, run-kept, run-unmet}
use Rattle.solver.proofs.Writing.{noted-from}
use Rattle.solver.proofs.run.run_state.Goals as goal

pub returns-in_err-met : goal.returns-in_err-met
returns-in_err-met c =
    let x = c.args.state.now in
    let w = c.args.work.now in
    let l = limits c.args.fuel (length w) in
    let zero = nothing in
    let p = err_from_is_err_and c.from_residual.result c.from_residual.ensures.1 in
    let e = p.1 ∙ ap Err p.2 in
    record {
      value = subst (λ r. Rooted w (Head x.table.unknowns x.context.parameters ∷ map Keep (in_force x.context)) w r (run (work_of x) l zero)) (sym e)
          (run-broken (work_of x) l zero c.in_err-met.field-0.0 (c.test.ensures.value (length w) ∙ c.in_err-met.was));
      stepped = IfOk-from_err _ _ c.from_residual.ensures.0;
    }

pub returns-then-not-met : goal.returns-then-not-met
returns-then-not-met c =
    let x = c.args.state.now in
    let w = c.args.work.now in
    let k = c.in_ok-met.count in
    record {
      value = run-unmet (work_of x) (limits c.args.fuel (length w)) nothing k (c.test.ensures.value (length w) ∙ c.in_ok-met.was ∙ ap (λ b. Ok (b, k)) c.if-not-met.true) ∙ ap Err (sym c.stop.ensures);
      stepped = tt;
    }

pub returns-in_err-count : goal.returns-in_err-count
returns-in_err-count c =
    let x = c.args.state.now in
    let w = c.args.work.now in
    let l = limits c.args.fuel (length w) in
    let zero = nothing in
    let d = c.in_ok-met.count in
    let met = c.test.ensures.value (length w) ∙ c.in_ok-met.was ∙ ap (λ b. Ok (b, d)) c.if-not-met.false in
    let p = err_from_is_err_and c.from_residual-in_err-count.result c.from_residual-in_err-count.ensures.1 in
    let e = p.1 ∙ ap Err p.2 in
    record {
      value = subst (λ r. Rooted w (Head x.table.unknowns x.context.parameters ∷ map Keep (in_force x.context)) c.write.new.work r (run (work_of x) l zero)) (sym e)
          (run-full (work_of x) l zero d met c.in_err-count.field-0.0 c.in_err-count.ensures.value);
      stepped = IfOk-from_err _ _ c.from_residual-in_err-count.ensures.0;
    }

pub returns-in_err-count-2 : goal.returns-in_err-count-2
returns-in_err-count-2 c =
    let x = c.args.state.now in
    let w = c.args.work.now in
    let l = limits c.args.fuel (length w) in
    let zero = nothing in
    let d = c.in_ok-met.count in
    let met = c.test.ensures.value (length w) ∙ c.in_ok-met.was ∙ ap (λ b. Ok (b, d)) c.if-not-met.false in
    let f = c.in_ok-count.count in
    let long : length c.write.new.work ≡ length w = search rules in
    let p = err_from_is_err_and c.from_residual-in_err-count-2.result c.from_residual-in_err-count-2.ensures.1 in
    let e = p.1 ∙ ap Err p.2 in
    record {
      value = subst (λ r. Rooted w (Head x.table.unknowns x.context.parameters ∷ map Keep (in_force x.context)) c.write_keeps.new.work r (run (work_of x) l zero)) (sym e)
          (run-keeps-full (work_of x) l zero d met f c.in_ok-count.ensures.value c.in_err-count-2.field-0.0
          (ap (λ n. keeps (in_force x.context) (limits c.args.fuel n) f) (sym long) ∙ c.write_keeps.ensures.value c.args.fuel ∙ ap counted c.in_err-count-2.was));
      stepped = IfOk-from_err _ _ c.from_residual-in_err-count-2.ensures.0;
    }

pub returns : goal.returns
returns c =
    let x = c.args.state.now in
    let w = c.args.work.now in
    let l = limits c.args.fuel (length w) in
    let zero = nothing in
    let d = c.in_ok-met.count in
    let met = c.test.ensures.value (length w) ∙ c.in_ok-met.was ∙ ap (λ b. Ok (b, d)) c.if-not-met.false in
    let f = c.in_ok-count.count in
    let a = c.in_ok-count.ensures in
    let k = c.in_ok-count-2.count in
    let b = c.in_ok-count-2.ensures in
    let w₁ = c.write.new.work in
    let w₂ = c.write_keeps.new.work in
    let z = c.node.new.work in
    let r = c.node.result in
    let long₁ : length w₁ ≡ length w = search rules in
    let long₂ : length w₂ ≡ length w = search rules in
    let P = subst (λ n. Planted w₂ k z r (node n (work_of x) l k)) c.requires.left (subst (λ n. Planted w₂ k z r (node x.left (work_of x) (limits c.args.fuel n) k)) long₂ c.node.ensures.value) in
    let runs = run-kept (work_of x) l zero d met f a.value k (ap (λ n. keeps (in_force x.context) (limits c.args.fuel n) f) (sym long₁) ∙ b.value c.args.fuel) in
    record {
      value = subst (Rooted w (Head x.table.unknowns x.context.parameters ∷ map Keep (in_force x.context)) z r) (sym runs)
          (rooted w w₁ w₂ z (Head x.table.unknowns x.context.parameters) (map Keep (in_force x.context)) d f k r _ long₁ long₂ c.in_ok-met.ensures.nodes a.value a.left b.left b.nodes (subst (λ n. k.nodes ≤ n) long₁ (b.room (let p = noted-from (length w) d f a.value in let one = ap (λ y. y.nodes) p.1 in omega (arith, one, p.0, long₁)))) P);
      stepped = search rules;
    }
