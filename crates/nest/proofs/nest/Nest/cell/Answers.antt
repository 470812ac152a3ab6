use Rattle.std.proofs.Common.{◌≡◌, ◌+◌, ◌<◌, cond, length, is_ok, Ok, Result, refl, ap, ◌∙◌, subst}
use Rattle.base.specs.declared.refusal.Refusal.{Refusal}
use Rattle.base.specs.Refusals.{reported}
use Rattle.source.specs.RowSources.{meaning_of}
use Rattle.nest.specs.Acts.{cell_answer, nest_of}
use Rattle.nest.proofs.Shapes.{cell-entered, cell-joined, plus_cell}
use Rattle.nest.proofs.nest.Nest.cell.Goals as goal

pub returns : goal.returns
returns c =
    let s = c.args.self.now in
    let numbers = c.args.numbers.now in
    let g = c.in_ok-check_given.ensures in
    let f = g.fits in
    let e : length numbers ≡ s.kept.n + s.kept.p + 1 = f.0 ∙ rw (c.unknowns.ensures.value, c.parameters.ensures.value) refl in
    let l : length (nest_of s).cells < 3 = subst (λ m. m < 3) c.rows.ensures.value f.1 in
    let a : Ok tt ≡ cell_answer (nest_of s) numbers = g.answer ∙ rw (c.unknowns.ensures.value, c.parameters.ensures.value, c.rows.ensures.value) refl in
    let taken = cell-entered (meaning_of s.kept) numbers e l f.2 in
    record {
      answer = c.enter.ensures.answer ∙ taken ∙ a;
      report = ap reported (c.enter.ensures.answer ∙ taken) ∙ g.report ∙ rw (c.unknowns.ensures.value, c.parameters.ensures.value, c.rows.ensures.value) refl;
      left =
          cell-joined (meaning_of s.kept) (meaning_of c.enter.new.self) s.bounds numbers e l f.2 c.enter.ensures.left
          ∙ ap (λ (r : Result (Unit {0}) Refusal). cond (is_ok r) (plus_cell (nest_of s) numbers) (nest_of s)) a;
    }
