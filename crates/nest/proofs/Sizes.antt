-- How large the numbers of a nest's rows are, and that none of them is out of limits.
use Rattle.std.proofs.Common.{◌≡◌, ℕ, suc, ◌+◌, ◌-◌, ◌*◌, ◌<◌, ◌≤◌, List, [], ◌∷◌, length, get_or, ℤ, pos, ◌-ℤ◌, ◌*ℤ◌, neg_ℤ, nat_abs, sym, ap, ◌∙◌, subst, ⊎_elim, arith, w64, SFits, to_z, of_z}
use Rattle.std.proofs.lemmas.Int.{ints, to_z-of_z}
use Rattle.std.proofs.lemmas.Bool.{cases_lt}
use Rattle.base.specs.Numbers.{AllWithin, at}
use Rattle.base.specs.Forms.{dot}
use Rattle.base.proofs.Products.{add-within, mul-within, nat_abs-neg}
use Rattle.algebra.specs.Lists.{column}
use Rattle.nest.specs.Loops.{Loops, Shaped}
use Rattle.nest.specs.Tables.{in_unknowns}
use Rattle.nest.proofs.Rows.{at-column, length-column, parameter-at, unknown-at}

pub dot-within : (xs ys : List ℤ) (a b : ℕ) → AllWithin a xs → AllWithin b ys → nat_abs (dot xs ys) ≤ length ys * (a * b)
dot-within [] ys a b p q = omega arith
dot-within (x ∷ xs) [] a b p q = omega arith
dot-within (x ∷ xs) (y ∷ ys) a b p q =
    let m = mul-within x y a b (p 0) (q 0) in
    let r = dot-within xs ys a b (λ k. p (suc k)) (λ k. q (suc k)) in
    let s = add-within (x *ℤ y) (dot xs ys) (a * b) (length ys * (a * b)) m r in
    omega (arith, s)

-- a condition in the unknowns has numbers of at most 300 + 6 × 300 × 300
pub row_small : (L : Loops) (C : List ℤ) (j : ℕ) → Shaped L → length C ≡ L.n + L.p + 1 → AllWithin 300 C → nat_abs (at (in_unknowns L.n L.bounds C) j) ≤ 540300
row_small L C j s long small = ⊎_elim below above (cases_lt j L.n)
  where
    below : j < L.n → nat_abs (at (in_unknowns L.n L.bounds C) j) ≤ 540300
    below l =
        let e : nat_abs (at (in_unknowns L.n L.bounds C) j) ≡ nat_abs (at C j) = ap nat_abs (unknown-at L.n L.bounds C j (omega (arith, long)) l) ∙ nat_abs-neg (at C j) in
        omega (arith, e, small j)

    above : L.n ≤ j → nat_abs (at (in_unknowns L.n L.bounds C) j) ≤ 540300
    above l =
        let k = j - L.n in
        let U = column L.bounds k in
        let few : length U ≤ 6 = omega (arith, length-column L.bounds k, s.each_bounded, s.few_loops) in
        let d = dot-within C U 300 300 small (λ i. subst (λ z. nat_abs z ≤ 300) (sym (at-column L.bounds k i)) (s.bounds_small i k)) in
        let t = add-within (at C (L.n + k)) (dot C U) 300 (length U * (300 * 300)) (small (L.n + k)) d in
        let e = ap nat_abs (parameter-at L.n (L.p + 1) L.bounds C j (omega (arith, long)) s.bounds_long l) in
        omega (arith, e, t, few)

pub condition-small : (L : Loops) (q j : ℕ) → Shaped L → q < length L.cells → nat_abs (at (in_unknowns L.n L.bounds (get_or L.cells q [])) j) ≤ 540300
condition-small L q j s h = row_small L (get_or L.cells q []) j s (s.cells_long q h) (s.cells_small q)

-- ---- such a number taken from 0
pub minus_is : (z : ℤ) → pos 0 -ℤ z ≡ neg_ℤ z
minus_is z = omega (arith, ints)

pub minus-fits : (z : ℤ) → SFits w64 z → nat_abs z ≤ 540300 → SFits w64 (pos 0 -ℤ to_z w64 (of_z w64 z))
minus-fits z f h = simp to_z-of_z (omega (arith, ints))

pub minus-read : (z : ℤ) → SFits w64 z → nat_abs z ≤ 540300 → to_z w64 (of_z w64 (pos 0 -ℤ to_z w64 (of_z w64 z))) ≡ neg_ℤ z
minus-read z f h = to_z-of_z w64 (pos 0 -ℤ to_z w64 (of_z w64 z)) (minus-fits z f h) ∙ ap (λ x. pos 0 -ℤ x) (to_z-of_z w64 z f) ∙ minus_is z
