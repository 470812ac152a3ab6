use Rattle.std.proofs.Common.{◌≡◌, ℕ, ◌+◌, cond, List, length, take, set, ℤ, is_ok, Ok, Result, sym, refl, ap, ◌∙◌, subst}
use Rattle.base.specs.declared.refusal.Refusal.{Refusal}
use Rattle.nest.specs.Loops.{Shaped, loops_of}
use Rattle.nest.specs.Acts.{bound_answer, nest_of}
use Rattle.nest.specs.declared.nest.Nest.{Nest}
use Rattle.nest.proofs.Shapes.{bounds-set, parts, shaped-bound, shaped_of, with_bound}
use Rattle.nest.proofs.nest.Nest.bound.Goals as goal

-- the array with the new bound means the nest with it
written : (s : Nest) (i : ℕ) (places numbers : List ℤ) → length numbers ≡ s.kept.p + 1 → take (length numbers) places ≡ numbers → loops_of s.kept (set s.bounds i places) ≡ with_bound (nest_of s) i numbers
written s i places numbers e f =
    let L = nest_of s in
    ap (λ (bs : List (List ℤ)). record { n = L.n; p = L.p; bounds = bs; cells = L.cells; context = L.context })
    (bounds-set (s.kept.p + 1) s.kept.n s.bounds i places numbers (ap (λ (w : ℕ). take w places) (sym e) ∙ f))

pub invariant_of-self : goal.invariant_of-self
invariant_of-self c =
    let s = c.args.self.now in
    let i = c.args.i in
    let numbers = c.args.numbers.now in
    let f = c.in_ok-check_given.ensures.fits in
    let e : length numbers ≡ s.kept.p + 1 = f.0 ∙ ap (λ p. p + 1) c.parameters.ensures.value in
    let w = written s i c.copy_front.new.places numbers e c.copy_front.ensures.value in
    parts _ (subst Shaped (sym w) (shaped-bound (nest_of s) i numbers e f.2 (shaped_of s)))

pub returns : goal.returns
returns c =
    let s = c.args.self.now in
    let i = c.args.i in
    let numbers = c.args.numbers.now in
    let g = c.in_ok-check_given.ensures in
    let e : length numbers ≡ s.kept.p + 1 = g.fits.0 ∙ ap (λ p. p + 1) c.parameters.ensures.value in
    let a : Ok tt ≡ bound_answer (nest_of s) i numbers = g.answer ∙ rw (c.parameters.ensures.value, c.unknowns.ensures.value) refl in
    record {
      answer = a;
      report = g.report ∙ rw (c.parameters.ensures.value, c.unknowns.ensures.value) refl;
      left =
          written s i c.copy_front.new.places numbers e c.copy_front.ensures.value
          ∙ ap (λ (r : Result (Unit {0}) Refusal). cond (is_ok r) (with_bound (nest_of s) i numbers) (nest_of s)) a;
    }
