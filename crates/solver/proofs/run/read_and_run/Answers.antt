use Rattle.std.proofs.Common.{◌≡◌, ◌∷◌, map, length, nat_abs, Err, sym, ap, ◌∙◌, subst, arith, w64}
use Rattle.std.proofs.lemmas.Int.{ints, to_z-of_z}
use Rattle.base.specs.declared.refusal.Refusal.TheVariants.{Fuel}
use Rattle.tree.specs.declared.node.Node.TheVariants.{Head, Keep}
use Rattle.solver.specs.Bounds.{in_force}
use Rattle.solver.specs.Ends.{Rooted}
use Rattle.solver.specs.Solves.{context_of, fuel_fits, nothing, run, start}
use Rattle.solver.specs.Ties.{limits, work_of}
use Rattle.solver.proofs.Running.{fuel-above, fuel-below, fuel-within, solved-runs, solved-spent, solved-unfit}
use Rattle.solver.proofs.run.read_and_run.Goals as goal
use Rattle.solver.proofs.run.read_and_run.Goals.{then-fuel-lt0-via-then-fuel-lt0, then-fuel-lt0-via-else-fuel-lt0+then-fuel-gt-FUEL}

pub returns-in-Err : goal.returns-in-Err
returns-in-Err g c =
    let S = g.S.Source.meaning c.args.source.now in
    record { value = solved-unfit S c.args.fuel (length c.args.work.now) c.in-Err.why c.in-Err.ensures.answer ∙ ap Err (sym c.unbegun.ensures) }

pub returns-then-fuel-lt0 : goal.returns-then-fuel-lt0
returns-then-fuel-lt0 g c =
    let S = g.S.Source.meaning c.args.source.now in
    let st = c.in-Ok.ensures.answer in
    let fit = to_z-of_z w64 c.args.fuel c.ranges.fuel in
    let bad : fuel_fits c.args.fuel ≡ Err Fuel =
    elim c.then-fuel-lt0.branch [
      | then-fuel-lt0-via-then-fuel-lt0 w ↦ fuel-below c.args.fuel (omega (arith, ints, fit, w.if-fuel-lt0.true))
      | then-fuel-lt0-via-else-fuel-lt0+then-fuel-gt-FUEL w ↦ fuel-above c.args.fuel (omega (arith, ints, fit, w.if-fuel-gt-FUEL.true))
    ] in
    record { value = solved-spent S c.args.fuel (length c.args.work.now) st.0 bad ∙ ap Err (sym c.unbegun-then-fuel-lt0.ensures) }

pub returns : goal.returns
returns g c =
    let S = g.S.Source.meaning c.args.source.now in
    let x = c.in-Ok.state in
    let st = c.in-Ok.ensures.answer in
    let w = c.args.work.now in
    let z = c.run_state.new.work in
    let r = c.run_state.result in
    let fit = to_z-of_z w64 c.args.fuel c.ranges.fuel in
    let zero = nothing in
    let head : Head x.table.unknowns x.context.parameters ∷ map Keep (in_force x.context) ≡ Head S.n S.p ∷ map Keep (context_of S) =
    λ k. Head (st.3 k) (ap (λ s. s.parameters) st.1 k) ∷ map Keep (ap (λ s. s.context) st.1 k) in
    let fits = fuel-within c.args.fuel (omega (arith, ints, fit, c.if-fuel-lt0.false)) (omega (arith, ints, fit, c.if-fuel-gt-FUEL.false)) in
    record {
      value = subst (Rooted w (Head S.n S.p ∷ map Keep (context_of S)) z r) (sym (solved-runs S c.args.fuel (length w) st.0 fits))
          (subst (λ ns. Rooted w ns z r (run (start S) (limits (nat_abs c.args.fuel) (length w)) zero)) head
          (subst (λ s. Rooted w (Head x.table.unknowns x.context.parameters ∷ map Keep (in_force x.context)) z r (run s (limits (nat_abs c.args.fuel) (length w)) zero)) st.1
          (subst (λ f. Rooted w (Head x.table.unknowns x.context.parameters ∷ map Keep (in_force x.context)) z r (run (work_of x) (limits (nat_abs f) (length w)) zero)) fit c.run_state.ensures.value)));
    }
