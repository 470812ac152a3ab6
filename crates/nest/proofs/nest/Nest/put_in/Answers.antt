use Rattle.std.proofs.Common.{◌≡◌, ◌+◌, ◌≤◌, List, [], get_or, drop, take, ℤ, ◌+ℤ◌, ◌*ℤ◌, nat_abs, sym, ap, ◌∙◌, subst, arith, w64, SFits, rules}
use Rattle.std.proofs.lemmas.List.{get_or-take}
use Rattle.std.proofs.lemmas.Int.{to_z-of_z}
use Rattle.base.specs.Numbers.{at}
use Rattle.base.specs.Forms.{dot}
use Rattle.base.proofs.Products.{mul-within}
use Rattle.base.proofs.Values.{dot-more, dot-past}
use Rattle.source.specs.Systems.{entry}
use Rattle.source.proofs.Tables.{entry-inside}
use Rattle.algebra.specs.Lists.{column}
use Rattle.nest.specs.Acts.{nest_of}
use Rattle.nest.proofs.Rows.{at-column, length-column, sum_done, sum_more, sum-small}
use Rattle.nest.proofs.nest.Nest.put_in.Goals as goal

pub plus_product-sum-requires-clause-small_y : goal.plus_product-sum-requires-clause-small_y
plus_product-sum-requires-clause-small_y c =
    let s = c.args.self.now in
    let i = c.loop-i.i in
    let k = c.args.k in
    let y = at (get_or (take c.unknowns-n.result s.bounds) i []) k in
    let r : get_or (take c.unknowns-n.result s.bounds) i [] ≡ get_or s.bounds i [] = get_or-take c.unknowns-n.result s.bounds i [] (omega arith) in
    let fy : SFits w64 y = search rules in
    let b : entry (nest_of s).bounds i k ≡ y = entry-inside (s.kept.p + 1) s.kept.n s.bounds i k (omega (arith, c.unknowns-n.ensures.value)) (omega arith) ∙ ap (λ (row : List ℤ). at row k) (sym r) in
    let hy : nat_abs y ≤ 300 = subst (λ z. nat_abs z ≤ 300) b (s.bounds_small i k) in
    simp to_z-of_z (omega (arith, hy))

pub loop-i-preserved : goal.loop-i-preserved
loop-i-preserved c =
    let s = c.args.self.now in
    let i = c.loop-i.i in
    let k = c.args.k in
    let C = get_or (nest_of s).cells c.args.cell [] in
    let U = column (nest_of s).bounds k in
    let x = c.number-in-loop-i.result in
    let y = at (get_or (take c.unknowns-n.result s.bounds) i []) k in
    let r : get_or (take c.unknowns-n.result s.bounds) i [] ≡ get_or s.bounds i [] = get_or-take c.unknowns-n.result s.bounds i [] (omega arith) in
    let t = c.loop-i.sum.value in
    let fx : SFits w64 x = search rules in
    let fy : SFits w64 y = search rules in
    let b : at U i ≡ y = at-column (nest_of s).bounds k i ∙ (entry-inside (s.kept.p + 1) s.kept.n s.bounds i k (omega (arith, c.unknowns-n.ensures.value)) (omega arith) ∙ ap (λ (row : List ℤ). at row k) (sym r)) in
    let v : c.plus_product-sum.result.value ≡ t +ℤ (x *ℤ y) = simp to_z-of_z at c.plus_product-sum.ensures in
    let u : x *ℤ y ≡ at C i *ℤ at U i = rw (c.number-in-loop-i.ensures.value, b) in
    let hy : nat_abs (at U i) ≤ 300 = subst (λ z. nat_abs z ≤ 300) (sym (at-column (nest_of s).bounds k i)) (s.bounds_small i k) in
    let m = mul-within (at C i) (at U i) 300 300 (s.cells_small c.args.cell i) hy in
    let lC = s.cells_long c.args.cell c.requires.known in
    let lU = length-column (nest_of s).bounds k in
    let d = dot-more C U i (omega (arith, lC)) (omega (arith, lU, s.each_bounded)) in
    let w = v ∙ ap (λ z. t +ℤ z) u in
    let D = dot (drop i C) (drop i U) in
    let D' = dot (drop (i + 1) C) (drop (i + 1) U) in
    let E = entry (nest_of s).cells c.args.cell (s.kept.n + k) +ℤ dot C U in (
      sum-small t c.plus_product-sum.result.value (at C i *ℤ at U i) i 300 90000 w c.loop-i.invariant.0 m,
      sum_more t c.plus_product-sum.result.value (at C i *ℤ at U i) D D' E w d c.loop-i.invariant.1,
    )

pub returns : goal.returns
returns c =
    let s = c.args.self.now in
    let i = c.loop-i.i in
    let k = c.args.k in
    let C = get_or (nest_of s).cells c.args.cell [] in
    let U = column (nest_of s).bounds k in
    let lU = length-column (nest_of s).bounds k in
    let z = dot-past (drop i C) U i (omega (arith, lU, s.each_bounded)) in
    let t = c.loop-i.sum.value in
    let f : SFits w64 t = search rules in
    let E = entry (nest_of s).cells c.args.cell (s.kept.n + k) +ℤ dot C U in
    record { value = to_z-of_z w64 t f ∙ sum_done t (dot (drop i C) (drop i U)) E z c.loop-i.invariant.1 }
