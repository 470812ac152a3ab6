use Rattle.std.proofs.Common.{◌^◌, map, sym, ap, ◌∙◌, subst, w64, SFits, rules}
use Rattle.std.proofs.lemmas.Int.{to_z-of_z}
use Rattle.base.specs.Numbers.{AllWithin, quot_by}
use Rattle.solver.proofs.Keeping.{quots-within}
use Rattle.solver.proofs.node.solution.Goals as goal

pub narrow-requires : goal.narrow-requires
narrow-requires c = subst (AllWithin (2 ^ 30)) (sym c.divide.ensures) (quots-within (2 ^ 30) _ c.args.row.now.form c.requires.form_small)

pub returns : goal.returns
returns c =
    let row = c.args.row.now in
    let f : SFits w64 row.div = search rules in
    record { value = c.narrow.ensures.value ∙ c.divide.ensures ∙ ap (λ d. map (quot_by d) row.form) (to_z-of_z w64 row.div f) }
