use Rattle.std.proofs.Common.{ap, ◌∙◌}
use Rattle.std.specs.List.{flat_map}
use Rattle.page.proofs.Written.{numbers-joined}
use Rattle.page.proofs.write.put_form.Goals as goal

pub returns-clause-left : goal.returns-clause-left
returns-clause-left c = c.copy_from_slice.ensures.after ∙ c.as_flattened.ensures.value ∙ ap (flat_map (λ x. x)) c.form_bytes.ensures.value ∙ numbers-joined c.args.form.now
