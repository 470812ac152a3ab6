use Rattle.std.proofs.Common.{◌≡◌, ◌+◌, ◌^◌, ◌<◌, true, cond, List, [], ◌∷◌, ◌++◌, map, length, get_or, take, drop, ℤ, sym, ap, ◌∙◌, arith}
use Rattle.std.proofs.lemmas.List.{map_more}
use Rattle.std.proofs.lemmas.Result.{IfOk-at_ok}
use Rattle.base.specs.Numbers.{AllWithin}
use Rattle.source.specs.Limits.{numbers_answer}
use Rattle.solver.specs.Bounds.{in_force}
use Rattle.solver.specs.Solves.{fitted, form_of, numbers_fit}
use Rattle.base.proofs.Ranges.{small-within}
use Rattle.solver.proofs.Reading.{fit-more, then_ok}
use Rattle.solver.proofs.read.read_context.Goals as goal

pub loop-i-preserved : goal.loop-i-preserved
loop-i-preserved g c =
    let rows = (g.S.Source.meaning c.args.source.now).context in
    let m = c.args.c.m in
    let p = c.args.c.p in
    let k = c.loop-i.i in
    let i = c.loop-i.invariant in
    let h : k < length rows = omega (arith, c.requires) in
    let row = fitted (p + 1) (get_or rows k []) in
    let x = c.in_ok-form.form in
    let f : List ℤ → List ℤ = λ r. form_of p (fitted (p + 1) r) in
    let v = then_ok (numbers_answer (m + k) row) (form_of p row) x (sym c.in_ok-form.was ∙ c.read_form.ensures.answer) in
    let s = IfOk-at_ok (AllWithin (2 ^ 30)) c.in_ok-form.was c.read_form.ensures.small in
    let q = c.join.ensures in
    let t : c.join.result ≡ true = q.answer ∙ small-within x s in
    let old = c.loop-i.ctx in
    let z : m + k + 1 ≡ m + (k + 1) = omega arith in (
      q.counts.0 ∙ ap (λ b. cond b (old.count + 1) old.count) t ∙ ap (λ n. n + 1) i.0,
      q.counts.2 ∙ i.1,
      q.counts.1 ∙ i.2,
      q.rows ∙ ap (λ b. cond b (in_force old ++ x ∷ []) (in_force old)) t ∙ ap (λ l. l ++ x ∷ []) i.3 ∙ ap (λ y. map f (take k rows) ++ y ∷ []) v.1 ∙ sym (map_more f rows k [] h),
      ap (λ n. numbers_fit n (map (fitted (p + 1)) (drop (k + 1) rows))) (sym z) ∙ sym (fit-more (fitted (p + 1)) (m + k) k rows h v.0) ∙ i.4,
    )
