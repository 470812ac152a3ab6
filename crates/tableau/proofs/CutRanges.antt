-- The numbers of a cut, and of what is made of it, are in range.
use Rattle.std.proofs.Common.{◌≡◌, ℕ, zero, suc, ◌/◌, ◌%◌, ◌^◌, ◌<◌, ◌≤◌, List, [], ◌∷◌, map, set, ℤ, pos, negsuc, ◌+ℤ◌, ◌-ℤ◌, neg_ℤ, nat_abs, ◌≤ℤ◌, ◌<ℤ◌, Some, None, Option, ap, ◌∙◌, mod-lt, div-le_self, arith}
use Rattle.std.proofs.lemmas.Int.{ints}
use Rattle.base.specs.Numbers.{AllWithin, at, mod_by, quot_by}
use Rattle.base.proofs.Products.{nat_abs-neg}
use Rattle.tableau.specs.declared.table.Row.{Row}
use Rattle.tableau.specs.declared.cut_numbers.Cut.{Cut}
use Rattle.tableau.specs.Rows.{Sound, gcd_of, lowest}
use Rattle.tableau.specs.Cuts.{CutNumbers, CutSound, cut_form, cut_of, cut_row, lower, numbers, upper}
use Rattle.tableau.proofs.Lowest.{gcd_of-lowest, lowest-above}

-- ---- lists: past the end there is 0
map-all : (P : ℤ → Type 0) (f : ℤ → ℤ) (xs : List ℤ) → P (pos 0) → ((k : ℕ) → P (f (at xs k))) → (k : ℕ) → P (at (map f xs) k)
map-all P f [] z h k = z
map-all P f (x ∷ xs) z h zero = h 0
map-all P f (x ∷ xs) z h (suc k) = map-all P f xs z (λ k. h (suc k)) k

set_all : (P : ℤ → Type 0) (xs : List ℤ) (q : ℕ) (v : ℤ) → P (pos 0) → P v → ((k : ℕ) → P (at xs k)) → (k : ℕ) → P (at (set xs q v) k)
set_all P [] q v z p h k = z
set_all P (x ∷ xs) zero v z p h zero = p
set_all P (x ∷ xs) zero v z p h (suc k) = h (suc k)
set_all P (x ∷ xs) (suc q) v z p h zero = h 0
set_all P (x ∷ xs) (suc q) v z p h (suc k) = set_all P xs q v z p (λ k. h (suc k)) k

-- ---- remainders
mod_low : (d a : ℤ) → pos 0 ≤ℤ mod_by d a
mod_low d (pos a) = omega (arith, ints)
mod_low d (negsuc a) = omega (arith, ints)

mod-high : (d a : ℤ) → pos 1 ≤ℤ d → mod_by d a <ℤ d
mod-high (pos n) (pos a) h = let above : 0 < n = omega (arith, ints) in let m : a % n < n = mod-lt a above in omega (arith, ints)
mod-high (pos n) (negsuc a) h = let above : 0 < n = omega (arith, ints) in let m : a % n < n = mod-lt a above in omega (arith, ints)
mod-high (negsuc n) a h = absurd (let no : ⊥ = omega (arith, ints) in no)

pub cut-sound : (r : Row) → pos 1 ≤ℤ r.div → r.div ≤ℤ pos (2 ^ 30) → CutSound (cut_of r)
cut-sound r h k =
    let d = r.div in
    let z : pos 0 ≤ℤ pos 0 = omega (arith, ints) in
    let y : pos 0 <ℤ d = omega (arith, ints) in
    record {
      coefs_low = map-all (λ x. pos 0 ≤ℤ x) (mod_by d) r.coefs z (λ k. mod_low d (at r.coefs k));
      coefs_high = map-all (λ x. x <ℤ d) (mod_by d) r.coefs y (λ k. mod-high d (at r.coefs k) h);
      form_low = map-all (λ x. pos 0 ≤ℤ x) (mod_by d) (map neg_ℤ r.form) z (λ k. mod_low d (at (map neg_ℤ r.form) k));
      form_high = map-all (λ x. x <ℤ d) (mod_by d) (map neg_ℤ r.form) y (λ k. mod-high d (at (map neg_ℤ r.form) k) h);
      below = k;
    }

-- the cut, where its parts were made one by one
pub cut-is : (r : Row) (coefs form : List ℤ) (d : ℤ) → d ≡ r.div → coefs ≡ map (mod_by d) r.coefs → form ≡ map (mod_by d) (map neg_ℤ r.form) → ◌≡◌ {A = CutNumbers} (record { coefs = coefs; form = form; div = d }) (cut_of r)
cut-is r coefs form d e p q =
    let p' = p ∙ ap (λ z. map (mod_by z) r.coefs) e in
    let q' = q ∙ ap (λ z. map (mod_by z) (map neg_ℤ r.form)) e in
    λ k. record { coefs = p' k; form = q' k; div = e k }

-- ---- a row in range is sound in lowest terms
quot-small : (g : ℕ) (x : ℤ) → nat_abs (quot_by (pos g) x) ≤ nat_abs x
quot-small g (pos x) = div-le_self x g
quot-small g (negsuc x) = rw (nat_abs-neg (pos (suc x / g))) (div-le_self (suc x) g)

pub small-lowest : (r : Row) → pos 1 ≤ℤ r.div → AllWithin (2 ^ 30) r.coefs → AllWithin (2 ^ 30) r.form → r.div ≤ℤ pos (2 ^ 30) → Sound (lowest r)
small-lowest r h coefs form d =
    let g = gcd_of r in
    let low = (lowest r).div in
    let above : pos 0 <ℤ r.div = omega (arith, ints) in
    let a = lowest-above r above in
    let quots : (xs : List ℤ) → AllWithin (2 ^ 30) xs → AllWithin (2 ^ 30) (map (quot_by (pos g)) xs) =
    λ xs p. map-all (λ x. nat_abs x ≤ 2 ^ 30) (quot_by (pos g)) xs (omega arith) (λ k. omega (arith, p k, quot-small g (at xs k))) in
    record {
      coefs_small = quots r.coefs coefs;
      form_small = quots r.form form;
      above = a;
      below = omega (arith, ints, a, d, quot-small g r.div);
      alone = gcd_of-lowest r above;
    }

-- r and T of every cut lie from 0 to d - 1
pub sound : (c : Cut) → CutSound (numbers c)
sound c = record { coefs_low = c.coefs_low; coefs_high = c.coefs_high; form_low = c.form_low; form_high = c.form_high; below = c.below }

-- ---- what is made of a cut
module _ (c : CutNumbers) (s : CutSound c) where
  pub cut-above : pos 1 ≤ℤ c.div
  cut-above = omega (arith, ints, s.form_low 0, s.form_high 0)

  small-neg-form : AllWithin (2 ^ 30) (map neg_ℤ c.form)
  small-neg-form = map-all (λ x. nat_abs x ≤ 2 ^ 30) neg_ℤ c.form (omega arith) (λ k. omega (arith, ints, s.form_low k, s.form_high k, s.below))

  pub cut-coefs-small : AllWithin (2 ^ 30) c.coefs
  cut-coefs-small k = omega (arith, ints, s.coefs_low k, s.coefs_high k, s.below)

  pub cut-form-small : (new : Option ℕ) → AllWithin (2 ^ 30) (cut_form c new)
  cut-form-small None = small-neg-form
  cut-form-small (Some q) = set_all (λ x. nat_abs x ≤ 2 ^ 30) (map neg_ℤ c.form) q c.div (omega arith) (omega (arith, ints, cut-above, s.below)) small-neg-form

  pub lower-small : (q : ℕ) → AllWithin (2 ^ 30) (lower c q)
  lower-small q = set_all (λ x. nat_abs x ≤ 2 ^ 30) c.form q (neg_ℤ c.div) (omega arith) (omega (arith, ints, cut-above, s.below)) (λ k. omega (arith, ints, s.form_low k, s.form_high k, s.below))

  pub upper-small : (q : ℕ) → AllWithin (2 ^ 30) (upper c q)
  upper-small q = set_all (λ x. nat_abs x ≤ 2 ^ 30) (set (map neg_ℤ c.form) q c.div) 9 (neg_ℤ (at c.form 9) +ℤ (c.div -ℤ pos 1)) (omega arith) (omega (arith, ints, s.form_low 9, s.form_high 9, s.below)) (cut-form-small (Some q))

  pub cut-row-sound : (new : Option ℕ) → Sound (cut_row c new)
  cut-row-sound new = small-lowest (record { coefs = c.coefs; form = cut_form c new; div = c.div }) cut-above cut-coefs-small (cut-form-small new) s.below
