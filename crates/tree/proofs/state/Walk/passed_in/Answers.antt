use Rattle.std.proofs.Common.{drop, ◌∙◌}
use Rattle.std.proofs.lemmas.List.{at_drop_more}
use Rattle.tree.specs.Finds.{walk}
use Rattle.tree.proofs.state.Walk.passed_in.Goals as goal

pub returns-in-None-clause-passes : goal.returns-in-None-clause-passes
returns-in-None-clause-passes c = λ n made ρ.
    let rest = c.loop-rest.rest.now in
    c.loop-rest.invariant.3 n made ρ ∙ at_drop_more (walk n c.loop-rest.left made ρ) rest 0 _ c.in-len1-up.len_at_least ∙ c.in-None.ensures.passes n made ρ (drop 1 rest)
