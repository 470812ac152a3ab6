use Rattle.std.proofs.Common.{◌≡◌, [], inl, inr, ⊎_elim, length, length-append, get_or, pos, ◌+ℤ◌, ◌*ℤ◌, sym, ap, ◌∙◌, arith, w64, SFits, rules}
use Rattle.std.proofs.lemmas.Int.{ints, to_z-of_z}
use Rattle.base.specs.Numbers.{at}
use Rattle.base.specs.Forms.{dot}
use Rattle.base.proofs.Products.{fits-within, mul-within}
use Rattle.base.proofs.Values.{constant-first, dot-end, first-within}
use Rattle.nest.specs.Acts.{nest_of}
use Rattle.nest.proofs.nest.back.Postings.bound.Goals as goal

pub loop-c-preserved : goal.loop-c-preserved
loop-c-preserved c =
    let i = c.loop-c.invariant in
    let x = first-within 300 c.in-Some.c.now c.next.new.self.a.rest.now c.loop-c.c-iterator.a.rest.now c.in-Some.ensures.steps.0 i.bound in
    let y = first-within 1000000 c.in-Some.x.now c.next.new.self.b.rest.now c.loop-c.c-iterator.b.rest.now c.in-Some.ensures.steps.1 i.point in
    let fx : SFits w64 c.in-Some.c.now = fits-within c.in-Some.c.now (omega (arith, x.0)) in
    let fy : SFits w64 c.in-Some.x.now = fits-within c.in-Some.x.now (omega (arith, y.0)) in
    let v : c.plus_product-sum.result.value ≡ c.loop-c.sum.value +ℤ (c.in-Some.c.now *ℤ c.in-Some.x.now) = simp to_z-of_z at c.plus_product-sum.ensures in
    let m = mul-within c.in-Some.c.now c.in-Some.x.now 300 1000000 x.0 y.0 in
    let d : dot c.loop-c.c-iterator.a.rest.now c.loop-c.c-iterator.b.rest.now ≡ (c.in-Some.c.now *ℤ c.in-Some.x.now) +ℤ dot c.next.new.self.a.rest.now c.next.new.self.b.rest.now = simp (c.in-Some.ensures.steps.0, c.in-Some.ensures.steps.1) in
    record {
      size = simp length-append (omega (arith, ints, v, m, i.size));
      few = simp length-append (omega (arith, i.few, ap length c.in-Some.ensures.steps.1));
      bound = x.1;
      point = y.1;
      value = omega (arith, ints, v, d, i.value);
    }

pub returns-clause-value : goal.returns-clause-value
returns-clause-value c =
    let i = c.loop-c.invariant in
    let s = c.args.self.now.nest.now in
    let R = c.args.self.now.point.now in
    let U = get_or (nest_of s).bounds c.args.i [] in
    let z : dot c.loop-c.c-iterator.a.rest.now c.loop-c.c-iterator.b.rest.now ≡ pos 0 = dot-end _ _ (⊎_elim (λ p. inl p.1.0) (λ p. inr p.1.0) c.in-None.ensures.steps) in
    let t = c.loop-c.sum.value in
    let f : SFits w64 t = search rules in
    let e : t ≡ at U (length R) +ℤ dot U R = omega (arith, ints, z, i.value) in
    let lU = s.bounds_long c.args.i (omega (arith, s.each_bounded, c.requires)) in
    to_z-of_z w64 t f ∙ e ∙ sym (constant-first U R (omega (arith, lU, c.args.self.now.counted)))
