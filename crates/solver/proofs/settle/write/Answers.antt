use Rattle.std.proofs.Common.{length, Ok, Err, ap, ◌∙◌, add-one, rules}
use Rattle.std.proofs.lemmas.Bool.{cond_below}
use Rattle.base.specs.declared.refusal.Place.TheVariants.{Node}
use Rattle.base.specs.declared.refusal.Refusal.TheVariants.{WorkFull}
use Rattle.solver.specs.Runs.{noted, stopped_at}
use Rattle.solver.proofs.Writing.{wrote_one}
use Rattle.solver.proofs.settle.write.Goals as goal

pub returns : goal.returns
returns c =
    let at = c.args.count.nodes in
    record {
      value = ap (λ n. Ok (record { steps = c.args.count.steps; nodes = n })) (add-one at) ∙ cond_below at (length c.args.work.now) (Ok (noted c.args.count)) (Err (stopped_at WorkFull Node c.args.count)) (search rules);
      left = wrote_one c.args.work.now at c.args.node (search rules);
      steps = search rules;
    }
