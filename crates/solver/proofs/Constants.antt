-- In a test no form names a parameter, and pivots and cuts keep it so.
use Rattle.std.proofs.Common.{◌≡◌, ℕ, zero, suc, ◌<◌, true, ◌≢◌, List, [], ◌∷◌, ◌++◌, map, get_or, take, set, ℤ, pos, negsuc, ◌*ℤ◌, neg_ℤ, nat_abs, None, refl, ap, ◌∙◌, arith}
use native.Mathlib.Nat.{zero-div, zero-mod}
use lib.IntN.{*ℤ-zero}
use Rattle.std.proofs.lemmas.List.{get_or-set_other}
use Rattle.std.proofs.lemmas.Int.{ints}
use Rattle.base.specs.Numbers.{at, mod_by, quot_by, zeros}
use Rattle.base.proofs.Zeros.{all_zero-take, at-zeros}
use Rattle.tableau.specs.declared.table.Row.{Row}
use Rattle.tableau.specs.Rows.{combined, gcd_of, pivoted, turned}
use Rattle.tableau.specs.Cuts.{cut_of, cut_row, is_constant}
use Rattle.tableau.specs.declared.table.Table.{Table}
use Rattle.tableau.specs.Tables.{in_use, no_row, unit_rows}
use Rattle.solver.specs.Bounds.{AllConst, ConstForm}
use Rattle.solver.specs.Tests.{test_row}

-- what keeps 0 keeps it at each place, past the end too
pub map-zero : (f : ℤ → ℤ) → f (pos 0) ≡ pos 0 → (xs : List ℤ) (k : ℕ) → at xs k ≡ pos 0 → at (map f xs) k ≡ pos 0
map-zero f z [] k e = refl
map-zero f z (x ∷ xs) zero e = ap f e ∙ z
map-zero f z (x ∷ xs) (suc k) e = map-zero f z xs k e

quot-zero : (d : ℤ) → quot_by d (pos 0) ≡ pos 0
quot-zero (pos b) = ap pos (zero-div b)
quot-zero (negsuc b) = ap (λ n. neg_ℤ (pos n)) (zero-div (suc b))

mod-zero : (d : ℤ) → mod_by d (pos 0) ≡ pos 0
mod-zero d = ap pos (zero-mod (nat_abs d))

combined-zero-at : (a b : ℤ) (xs ys : List ℤ) (k : ℕ) → at xs k ≡ pos 0 → at ys k ≡ pos 0 → at (combined a b xs ys) k ≡ pos 0
combined-zero-at a b [] ys k p q = refl
combined-zero-at a b (x ∷ xs) [] k p q = refl
combined-zero-at a b (x ∷ xs) (y ∷ ys) zero p q = let u = ap (λ z. a *ℤ z) p ∙ *ℤ-zero a in let v = ap (λ z. b *ℤ z) q ∙ *ℤ-zero b in omega (arith, ints, u, v)
combined-zero-at a b (x ∷ xs) (y ∷ ys) (suc k) p q = combined-zero-at a b xs ys k p q

pub const-pivoted : (i : Row) (j : ℕ) (h : Row) → ConstForm i → ConstForm h → ConstForm (pivoted i j h)
const-pivoted i j h p q k lt = map-zero (quot_by (pos (gcd_of (turned i j h)))) (quot-zero (pos (gcd_of (turned i j h)))) (turned i j h).form k (combined-zero-at (at i.coefs j) (at h.coefs j) h.form i.form k (q k lt) (p k lt))

pub const-map : (f : Row → Row) → ((r : Row) → ConstForm r → ConstForm (f r)) → (rs : List Row) → AllConst rs → AllConst (map f rs)
const-map f h [] a = tt
const-map f h (r ∷ rs) a = (h r a.0, const-map f h rs a.1)

pub const-push : (rs : List Row) (r : Row) → AllConst rs → ConstForm r → AllConst (rs ++ r ∷ [])
const-push [] r a c = (c, tt)
const-push (x ∷ rs) r a c = (a.0, const-push rs r a.1 c)

pub const-join : (rs qs : List Row) → AllConst rs → AllConst qs → AllConst (rs ++ qs)
const-join [] qs a b = b
const-join (x ∷ rs) qs a b = (a.0, const-join rs qs a.1 b)

-- at a place within the rows in use
pub const-at : (n : ℕ) (rs : List Row) (k : ℕ) → AllConst (take n rs) → k < n → ConstForm (get_or rs k no_row)
const-at zero rs k a lt = absurd (let no : ⊥ = omega arith in no)
const-at (suc n) [] k a lt = λ m h. refl
const-at (suc n) (r ∷ rs) zero a lt = a.0
const-at (suc n) (r ∷ rs) (suc k) a lt = const-at n rs k a.1 (omega arith)

pub const-turned : (t : Table) (i j : ℕ) → i < t.count → AllConst (in_use t) → AllConst (map (pivoted (get_or t.rows i no_row) j) (in_use t))
const-turned t i j lt a = const-map (pivoted (get_or t.rows i no_row) j) (λ r h. const-pivoted (get_or t.rows i no_row) j r (const-at t.count t.rows i a lt) h) (in_use t) a

-- a cut in a test names no parameter, and neither does its row
cut-zero : (r : Row) → ConstForm r → (k : ℕ) → k < 9 → at (cut_of r).form k ≡ pos 0
cut-zero r c k lt = map-zero (mod_by r.div) (mod-zero r.div) (map neg_ℤ r.form) k (map-zero neg_ℤ refl r.form k (c k lt))

pub const-cut : (r : Row) → ConstForm r → is_constant (cut_of r) ≡ true
const-cut r c = all_zero-take 9 (cut_of r).form (cut-zero r c)

pub const-cut-row : (r : Row) → ConstForm r → ConstForm (cut_row (cut_of r) None)
const-cut-row r c k lt =
    let g = pos (gcd_of (record { coefs = (cut_of r).coefs; form = map neg_ℤ (cut_of r).form; div = r.div })) in
    map-zero (quot_by g) (quot-zero g) (map neg_ℤ (cut_of r).form) k (map-zero neg_ℤ refl (cut_of r).form k (cut-zero r c k lt))

-- a test starts with such rows
pub const-units : (h k : ℕ) → AllConst (unit_rows h k)
const-units h zero = tt
const-units h (suc k) = (λ m lt. at-zeros 10 m, const-units (suc h) k)

last-only : (v : ℤ) (k : ℕ) → k < 9 → at (set (zeros 10) 9 v) k ≡ pos 0
last-only v k h = let ne : k ≢ 9 = omega arith in get_or-set_other (zeros 10) 9 k v (pos 0) ne ∙ at-zeros 10 k

pub const-tests : (p made : ℕ) (forms : List (List ℤ)) → AllConst (map (test_row p made) forms)
const-tests p made [] = tt
const-tests p made (C ∷ Cs) = (last-only (at C 9), const-tests p made Cs)
