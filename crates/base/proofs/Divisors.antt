-- What divides whole numbers and lists of them, by what divides their sizes.
use Rattle.std.proofs.Common.{◌≡◌, ℕ, zero, suc, ◌*◌, ◌/◌, ◌<◌, List, [], ◌∷◌, map, ℤ, pos, negsuc, ◌*ℤ◌, neg_ℤ, nat_abs, sym, refl, ap, ◌∙◌, subst, div-one, arith}
use Prim.Native.Nat.{◌∣◌}
use native.Mathlib.Nat.{dvd_trans, dvd-mul_right, dvd_of_mul-dvd-mul_left, mul-dvd-mul_left, mul-div_cancel', mul-div_cancel_left, zero-div}
use Rattle.base.specs.Numbers.{Divides, DividesAll, quot_by}
use Rattle.base.proofs.Products.{nat_abs_mul}

pub size-divided : (g : ℕ) (x : ℤ) → Divides g x → g ∣ nat_abs x
size-divided g x d = subst (λ n. g ∣ n) (sym (ap nat_abs d.1 ∙ nat_abs_mul (pos g) d.0)) (dvd-mul_right g (nat_abs d.0))

times-negative : (g q n : ℕ) → g * q ≡ suc n → pos g *ℤ neg_ℤ (pos q) ≡ negsuc n
times-negative g zero n e = absurd (let no : ⊥ = omega (arith, e) in no)
times-negative g (suc q) n e = ap (λ m. neg_ℤ (pos m)) e

size-times : (g : ℕ) (x : ℤ) → g ∣ nat_abs x → pos g *ℤ quot_by (pos g) x ≡ x
size-times g (pos n) d = ap pos (mul-div_cancel' g {m = n} d)
size-times g (negsuc n) d = times-negative g (suc n / g) n (mul-div_cancel' g {m = suc n} d)

pub divides-by-size : (g : ℕ) (x : ℤ) → g ∣ nat_abs x → Divides g x
divides-by-size g x d = (quot_by (pos g) x, sym (size-times g x d))

-- ---- quotients by a divisor
pub quot-times : (g : ℕ) (x : ℤ) → Divides g x → pos g *ℤ quot_by (pos g) x ≡ x
quot-times g x d = size-times g x (size-divided g x d)

pub quots-times : (g : ℕ) (xs : List ℤ) → DividesAll g xs → map (λ x. pos g *ℤ x) (map (quot_by (pos g)) xs) ≡ xs
quots-times g [] d = refl
quots-times g (x ∷ xs) d = rw (quot-times g x d.0, quots-times g xs d.1)

-- what divides the quotients by g, times g, divides the numbers
pub quot-divides : (g k : ℕ) (x : ℤ) → Divides g x → Divides k (quot_by (pos g) x) → Divides (g * k) x
quot-divides g k x d e =
    let q = quot_by (pos g) x in
    let s : nat_abs x ≡ g * nat_abs q = ap nat_abs (sym (quot-times g x d)) ∙ nat_abs_mul (pos g) q in
    divides-by-size (g * k) x (subst (λ n. g * k ∣ n) (sym s) (mul-dvd-mul_left k {c = nat_abs q} g (size-divided k q e)))

pub quots-divide : (g k : ℕ) (xs : List ℤ) → DividesAll g xs → DividesAll k (map (quot_by (pos g)) xs) → DividesAll (g * k) xs
quots-divide g k [] d e = tt
quots-divide g k (x ∷ xs) d e = (quot-divides g k x d.0 e.0, quots-divide g k xs d.1 e.1)

pub quot-one : (x : ℤ) → quot_by (pos 1) x ≡ x
quot-one (pos n) = ap pos (div-one n)
quot-one (negsuc n) = ap (λ m. neg_ℤ (pos m)) (div-one (suc n))

pub quots-one : (xs : List ℤ) → map (quot_by (pos 1)) xs ≡ xs
quots-one [] = refl
quots-one (x ∷ xs) = rw (quot-one x, quots-one xs)

-- ---- products by a number above 0
quot-negative : (g m : ℕ) → quot_by (pos g) (neg_ℤ (pos m)) ≡ neg_ℤ (pos (m / g))
quot-negative g zero = rw zero-div
quot-negative g (suc m) = refl

pub times-quot : (g : ℕ) (x : ℤ) → 0 < g → quot_by (pos g) (pos g *ℤ x) ≡ x
times-quot g (pos n) h = ap pos (mul-div_cancel_left n {n = g} h)
times-quot g (negsuc n) h = quot-negative g (g * suc n) ∙ ap (λ m. neg_ℤ (pos m)) (mul-div_cancel_left (suc n) {n = g} h)

pub times-quots : (g : ℕ) (xs : List ℤ) → 0 < g → map (quot_by (pos g)) (map (λ x. pos g *ℤ x) xs) ≡ xs
times-quots g [] h = refl
times-quots g (x ∷ xs) h = rw (times-quot g x h, times-quots g xs h)

pub times-divided : (g : ℕ) (x : ℤ) → Divides g (pos g *ℤ x)
times-divided g x = (x, refl)

pub all-times-divided : (g : ℕ) (xs : List ℤ) → DividesAll g (map (λ x. pos g *ℤ x) xs)
all-times-divided g [] = tt
all-times-divided g (x ∷ xs) = (times-divided g x, all-times-divided g xs)

-- a divisor g × k of g × x is g times a divisor of x
pub times-cancel : (g k : ℕ) (x : ℤ) → 0 < g → Divides (g * k) (pos g *ℤ x) → Divides k x
times-cancel g k x h d =
    let s : g * k ∣ g * nat_abs x = subst (λ n. g * k ∣ n) (nat_abs_mul (pos g) x) (size-divided (g * k) (pos g *ℤ x) d) in
    divides-by-size k x (dvd_of_mul-dvd-mul_left {k = g} k {n = nat_abs x} h s)

pub all-times-cancel : (g k : ℕ) (xs : List ℤ) → 0 < g → DividesAll (g * k) (map (λ x. pos g *ℤ x) xs) → DividesAll k xs
all-times-cancel g k [] h d = tt
all-times-cancel g k (x ∷ xs) h d = (times-cancel g k x h d.0, all-times-cancel g k xs h d.1)

-- ---- smaller divisors
pub divides-less : (k g : ℕ) (x : ℤ) → k ∣ g → Divides g x → Divides k x
divides-less k g x d e = divides-by-size k x (dvd_trans k {b = g} {c = nat_abs x} d (size-divided g x e))

pub divides-all-less : (k g : ℕ) (xs : List ℤ) → k ∣ g → DividesAll g xs → DividesAll k xs
divides-all-less k g [] d e = tt
divides-all-less k g (x ∷ xs) d e = (divides-less k g x d e.0, divides-all-less k g xs d e.1)
