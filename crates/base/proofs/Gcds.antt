-- Greatest common divisors: they divide, and whatever divides all divides them.
use Rattle.std.proofs.Common.{◌≡◌, ℕ, zero, suc, ◌%◌, ◌<◌, ◌≤◌, List, [], ◌∷◌, ℤ, nat_abs, refl, ⊎_elim, mod-eq_of_lt, arith}
use Prim.Native.Nat.{◌∣◌}
use native.Mathlib.Nat.{mod-le, dvd_refl, dvd-zero, dvd_trans, dvd-mod_iff}
use Rattle.std.proofs.lemmas.Bool.{cases_lt}
use Rattle.base.specs.Numbers.{DividesAll, gcd, gcd_in, gcds}
use Rattle.base.proofs.Divisors.{divides-by-size, size-divided}

-- any count of steps above b gives the same
pub gcd_in-same : (n m a b : ℕ) → b < n → b < m → gcd_in n a b ≡ gcd_in m a b
gcd_in-same zero m a b h k = omega arith
gcd_in-same (suc n) zero a b h k = omega arith
gcd_in-same (suc n) (suc m) a zero h k = refl
gcd_in-same (suc n) (suc m) a (suc b) h k =
    let r : a % suc b < suc b = omega arith in gcd_in-same n m (suc b) (a % suc b) (omega arith) (omega arith)

pub gcd-step : (x y : ℕ) → 0 < y → gcd y (x % y) ≡ gcd x y
gcd-step x zero h = omega arith
gcd-step x (suc y) h =
    let r : x % suc y < suc y = omega arith in gcd_in-same (suc (x % suc y)) (suc y) (suc y) (x % suc y) (omega arith) (omega arith)

-- a divisor of a, which is above 0, is above 0 and at most a
gcd_in-bounds : (n a b : ℕ) → 0 < a → b < n → (0 < gcd_in n a b) × (gcd_in n a b ≤ a) × (0 < b → gcd_in n a b ≤ b)
gcd_in-bounds zero a b h k = absurd (let no : ⊥ = omega arith in no)
gcd_in-bounds (suc n) a zero h k = (h, omega arith, λ z. absurd (let no : ⊥ = omega arith in no))
gcd_in-bounds (suc n) a (suc b) h k =
    let m : a % suc b < suc b = omega arith in
    let l : a % suc b ≤ a = mod-le a (suc b) in
    let r = gcd_in-bounds n (suc b) (a % suc b) (omega arith) (omega arith) in (
      r.0,
      ⊎_elim (λ (lt : a < suc b). let e : a % suc b ≡ a = mod-eq_of_lt lt in let q = r.2 (omega (arith, e)) in omega (arith, q, e)) (λ (ge : suc b ≤ a). omega (arith, r.1)) (cases_lt a (suc b)),
      λ z. r.1,
    )

pub gcd-bounds : (a b : ℕ) → 0 < a → (0 < gcd a b) × (gcd a b ≤ a)
gcd-bounds a b h = let r = gcd_in-bounds (suc b) a b h (omega arith) in (r.0, r.1)

pub gcds-bounds : (g : ℕ) (xs : List ℤ) → 0 < g → (0 < gcds g xs) × (gcds g xs ≤ g)
gcds-bounds g [] h = (h, omega arith)
gcds-bounds g (x ∷ xs) h =
    let p = gcd-bounds g (nat_abs x) h in
    let q = gcds-bounds (gcd g (nat_abs x)) xs p.0 in
    (q.0, omega (arith, p.1, q.1))

pub gcds-one : (xs : List ℤ) → gcds 1 xs ≡ 1
gcds-one xs = let b = gcds-bounds 1 xs (omega arith) in omega (arith, b.0, b.1)

-- ---- they divide, and whatever divides all divides them
gcd_in-divides : (n a b : ℕ) → b < n → (gcd_in n a b ∣ a) × (gcd_in n a b ∣ b)
gcd_in-divides zero a b h = absurd (let no : ⊥ = omega arith in no)
gcd_in-divides (suc n) a zero h = (dvd_refl a, dvd-zero a)
gcd_in-divides (suc n) a (suc b) h =
    let m : a % suc b < suc b = omega arith in
    let d = gcd_in-divides n (suc b) (a % suc b) (omega arith) in
    ((dvd-mod_iff (gcd_in n (suc b) (a % suc b)) {m = a} {n = suc b} d.0).0 d.1, d.0)

pub gcd-divides : (a b : ℕ) → (gcd a b ∣ a) × (gcd a b ∣ b)
gcd-divides a b = gcd_in-divides (suc b) a b (omega arith)

gcd_in-greatest : (k n a b : ℕ) → k ∣ a → k ∣ b → k ∣ gcd_in n a b
gcd_in-greatest k zero a b d e = d
gcd_in-greatest k (suc n) a zero d e = d
gcd_in-greatest k (suc n) a (suc b) d e = gcd_in-greatest k n (suc b) (a % suc b) e ((dvd-mod_iff k {m = a} {n = suc b} e).1 d)

pub gcd-greatest : (k a b : ℕ) → k ∣ a → k ∣ b → k ∣ gcd a b
gcd-greatest k a b d e = gcd_in-greatest k (suc b) a b d e

pub gcds-divides : (g : ℕ) (xs : List ℤ) → gcds g xs ∣ g
gcds-divides g [] = dvd_refl g
gcds-divides g (x ∷ xs) =
    let h = gcd g (nat_abs x) in
    dvd_trans (gcds h xs) {b = h} {c = g} (gcds-divides h xs) (gcd-divides g (nat_abs x)).0

pub gcds-divides-all : (g : ℕ) (xs : List ℤ) → DividesAll (gcds g xs) xs
gcds-divides-all g [] = tt
gcds-divides-all g (x ∷ xs) =
    let h = gcd g (nat_abs x) in
    (divides-by-size (gcds h xs) x (dvd_trans (gcds h xs) {b = h} {c = nat_abs x} (gcds-divides h xs) (gcd-divides g (nat_abs x)).1), gcds-divides-all h xs)

pub gcds-greatest : (k g : ℕ) (xs : List ℤ) → k ∣ g → DividesAll k xs → k ∣ gcds g xs
gcds-greatest k g [] d e = d
gcds-greatest k g (x ∷ xs) d e = gcds-greatest k (gcd g (nat_abs x)) xs (gcd-greatest k g (nat_abs x) d (size-divided k x e.0)) e.1
