-- Rows in lowest terms.
use Rattle.std.proofs.Common.{◌≡◌, ℕ, ◌*◌, ◌/◌, ◌^◌, ◌<◌, ◌≤◌, true, ◌&&◌, List, map, ℤ, pos, negsuc, nat_abs, ◌≤ℤ◌, ◌<ℤ◌, sym, ap, ◌∙◌, subst, mul-one, arith}
use Prim.Native.Nat.{◌∣◌}
use native.Mathlib.Nat.{dvd_trans, dvd_of_mul-dvd-mul_left, eq-one_of_dvd-one, mul-div_cancel'}
use Rattle.std.proofs.lemmas.Nat.{le-div}
use Rattle.std.proofs.lemmas.Int.{ints}
use Rattle.std.proofs.lemmas.Bool.{and_parts, leb-true}
use Rattle.base.specs.Numbers.{gcds, in_range, quot_by, within}
use Rattle.base.proofs.Divisors.{all-times-cancel, all-times-divided, divides-all-less, divides-by-size, quot-divides, quot-one, quot-times, quots-divide, quots-one, quots-times, size-divided, times-cancel, times-divided, times-quot, times-quots}
use Rattle.base.proofs.Gcds.{gcds-bounds, gcds-divides, gcds-divides-all, gcds-greatest}
use Rattle.base.proofs.Ranges.{all-within}
use Rattle.tableau.specs.declared.table.Row.{Row}
use Rattle.tableau.specs.Rows.{DividesRow, LowestTerms, Sound, divided_by, fits, gcd_of, lowest, times}

-- ---- the greatest common divisor of a row
pub gcd_of-bounds : (r : Row) → pos 0 <ℤ r.div → (0 < gcd_of r) × (gcd_of r ≤ nat_abs r.div)
gcd_of-bounds r h =
    let p = gcds-bounds (nat_abs r.div) r.coefs (omega (arith, ints)) in
    let q = gcds-bounds (gcds (nat_abs r.div) r.coefs) r.form p.0 in
    (q.0, omega (arith, p.1, q.1))

pub gcd_of-divides : (r : Row) → DividesRow (gcd_of r) r
gcd_of-divides r =
    let inner = gcds (nat_abs r.div) r.coefs in
    let d = gcds-divides inner r.form in (
      divides-all-less (gcd_of r) inner r.coefs d (gcds-divides-all (nat_abs r.div) r.coefs),
      gcds-divides-all inner r.form,
      divides-by-size (gcd_of r) r.div (dvd_trans (gcd_of r) {b = inner} {c = nat_abs r.div} d (gcds-divides (nat_abs r.div) r.coefs)),
    )

pub gcd_of-greatest : (k : ℕ) (r : Row) → DividesRow k r → k ∣ gcd_of r
gcd_of-greatest k r d = gcds-greatest k (gcds (nat_abs r.div) r.coefs) r.form (gcds-greatest k (nat_abs r.div) r.coefs (size-divided k r.div d.2) d.0) d.1

-- ---- division by it
pub lowest-times : (r : Row) → times (pos (gcd_of r)) (lowest r) ≡ r
lowest-times r =
    let d = gcd_of-divides r in
    rw (quots-times (gcd_of r) r.coefs d.0, quots-times (gcd_of r) r.form d.1, quot-times (gcd_of r) r.div d.2)

cancel-one : (g k : ℕ) → 0 < g → g * k ∣ g → k ≡ 1
cancel-one g k h d = eq-one_of_dvd-one {n = k} (dvd_of_mul-dvd-mul_left {k = g} k {n = 1} h (subst (λ n. g * k ∣ n) (sym (mul-one g)) d))

pub lowest-alone : (r : Row) → pos 0 <ℤ r.div → (k : ℕ) → DividesRow k (lowest r) → k ≡ 1
lowest-alone r h k e =
    let g = gcd_of r in
    let d = gcd_of-divides r in
    cancel-one g k (gcd_of-bounds r h).0 (gcd_of-greatest (g * k) r (quots-divide g k r.coefs d.0 e.0, quots-divide g k r.form d.1 e.1, quot-divides g k r.div d.2 e.2))

pub lowest-terms : (r : Row) → pos 0 <ℤ r.div → LowestTerms r (lowest r)
lowest-terms r h = record { factor = gcd_of r; above = (gcd_of-bounds r h).0; common = lowest-times r; alone = lowest-alone r h }

pub gcd_of-lowest : (r : Row) → pos 0 <ℤ r.div → gcd_of (lowest r) ≡ 1
gcd_of-lowest r h = lowest-alone r h (gcd_of (lowest r)) (gcd_of-divides (lowest r))

-- a row that has no common divisor is in lowest terms
pub lowest-same : (r : Row) → gcd_of r ≡ 1 → lowest r ≡ r
lowest-same r e = ap (λ g. divided_by (pos g) r) e ∙ rw (quots-one r.coefs, quots-one r.form, quot-one r.div)

pub gcd_of-alone : (r : Row) → gcd_of r ≡ 1 → (k : ℕ) → DividesRow k r → k ≡ 1
gcd_of-alone r e k d = eq-one_of_dvd-one {n = k} (subst (λ n. k ∣ n) e (gcd_of-greatest k r d))

-- divided part by part
pub lowest-parts : (raw : Row) (g : ℤ) (coefs form : List ℤ) (div : ℤ) → g ≡ pos (gcd_of raw) → coefs ≡ map (quot_by g) raw.coefs → form ≡ map (quot_by g) raw.form → div ≡ quot_by g raw.div → ◌≡◌ {A = Row} (record { coefs = coefs; form = form; div = div }) (lowest raw)
lowest-parts raw g coefs form div e p q r = rw (p, q, r) (ap (λ g. divided_by g raw) e)

-- ---- there is only one row in lowest terms
gcd_of-times : (f : ℕ) (r : Row) → 0 < f → ((k : ℕ) → DividesRow k r → k ≡ 1) → gcd_of (times (pos f) r) ≡ f
gcd_of-times f r h alone =
    let raw = times (pos f) r in
    let d = gcd_of-greatest f raw (all-times-divided f r.coefs, all-times-divided f r.form, times-divided f r.div) in
    let m = gcd_of raw / f in
    let e : f * m ≡ gcd_of raw = mul-div_cancel' f {m = gcd_of raw} d in
    let a : DividesRow (f * m) raw = subst (λ k. DividesRow k raw) (sym e) (gcd_of-divides raw) in
    let one = alone m (all-times-cancel f m r.coefs h a.0, all-times-cancel f m r.form h a.1, times-cancel f m r.div h a.2) in
    sym e ∙ ap (λ k. f * k) one ∙ mul-one f

pub lowest-only : (raw low : Row) → LowestTerms raw low → low ≡ lowest raw
lowest-only raw low t =
    let f = t.factor in
    let again : divided_by (pos f) (times (pos f) low) ≡ low = rw (times-quots f low.coefs t.above, times-quots f low.form t.above, times-quot f low.div t.above) in
    sym (ap lowest (sym t.common) ∙ ap (λ g. divided_by (pos g) (times (pos f) low)) (gcd_of-times f low t.above t.alone) ∙ again)

-- ---- a row that is in range after division is sound
quot_above : (x g : ℤ) → pos 0 <ℤ g → g ≤ℤ x → pos 1 ≤ℤ quot_by g x
quot_above (pos x) (pos g) h k = let l = le-div 1 x g (omega (arith, ints)) (omega (arith, ints)) in omega (arith, ints)
quot_above (pos x) (negsuc g) h k = absurd (let no : ⊥ = omega (arith, ints) in no)
quot_above (negsuc x) g h k = absurd (let no : ⊥ = omega (arith, ints) in no)

pub lowest-above : (r : Row) → pos 0 <ℤ r.div → pos 1 ≤ℤ (lowest r).div
lowest-above r h = let b = gcd_of-bounds r h in quot_above r.div (pos (gcd_of r)) (omega (arith, ints, b.0)) (omega (arith, ints, b.1))

pub lowest-sound : (r : Row) → pos 0 <ℤ r.div → fits (lowest r) ≡ true → Sound (lowest r)
lowest-sound r h f =
    let low = lowest r in
    let p = and_parts (within low.coefs) (within low.form && in_range low.div) f in
    let q = and_parts (within low.form) (in_range low.div) p.1 in
    let d = leb-true (nat_abs low.div) (2 ^ 30) q.1 in
    let a = lowest-above r h in
    record {
      coefs_small = all-within low.coefs p.0;
      form_small = all-within low.form q.0;
      above = a;
      below = omega (arith, ints, d);
      alone = gcd_of-lowest r h;
    }
