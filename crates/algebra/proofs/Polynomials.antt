-- Polynomials over ℤ in a normal form, so that equal ones are the same.
use Rattle.std.proofs.Common.{◌≡◌, ℕ, Bool, true, false, cond, eqb, ltb, List, ℤ, pos, ◌+ℤ◌, ◌*ℤ◌, sym, refl, ◌∙◌, eqb-true}
use Prim.Native.Nat.{compare, Ordering}
use lib.IntN.{zero-*ℤ, *ℤ-zero, +ℤ_idl, +ℤ_assoc}
use Rattle.base.specs.Numbers.{at}
use Rattle.base.specs.Numbers.{is_zero}
use Rattle.base.proofs.Zeros.{is_zero-is}
use Rattle.algebra.proofs.Integers.{*ℤ-assoc, dist-r, one-l, ring-sort}

infixr 8 ◌·◌
-- a monomial is a sorted list of variables, a polynomial a sorted list of them with factors
pub data Mono : Type 0 where
  unit : Mono
  ◌·◌ : ℕ → Mono → Mono

pub data Poly : Type 0 where
  nil : Poly
  term : ℤ → Mono → Poly → Poly

abbrev pub eval_m : List ℤ → Mono → ℤ
eval_m ρ unit = pos 1
eval_m ρ (x · m) = at ρ x *ℤ eval_m ρ m

abbrev pub eval_p : List ℤ → Poly → ℤ
eval_p ρ nil = pos 0
eval_p ρ (term c m p) = c *ℤ eval_m ρ m +ℤ eval_p ρ p

-- the tests: of `eq_m` it matters that it is right, the order `lt_m` only sorts
abbrev pub less : Ordering → Bool → Bool
less Ordering.lt e = true
less Ordering.eq e = e
less Ordering.gt e = false

abbrev pub lt_m : Mono → Mono → Bool
lt_m unit unit = false
lt_m unit (y · n) = true
lt_m (x · m) unit = false
lt_m (x · m) (y · n) = less (compare x y) (lt_m m n)

abbrev pub eq_m : Mono → Mono → Bool
eq_m unit unit = true
eq_m unit (y · n) = false
eq_m (x · m) unit = false
eq_m (x · m) (y · n) = cond (eqb x y) (eq_m m n) false

cond-true : (t u : Bool) → cond t u false ≡ true → (t ≡ true) × (u ≡ true)
cond-true true u e = (refl, e)
cond-true false u e = (cc, cc)

eq_m-is : (m n : Mono) → eq_m m n ≡ true → m ≡ n
eq_m-is unit unit e = refl
eq_m-is unit (y · n) e = cc
eq_m-is (x · m) unit e = cc
eq_m-is (x · m) (y · n) e =
    let q = cond-true (eqb x y) (eq_m m n) e in
    let p : x ≡ y = eqb-true x y q.0 in
    let s : m ≡ n = eq_m-is m n q.1 in cc

-- either of two, both of which have the property
both : {A : Type 0} (P : A → Type 0) (t : Bool) (x y : A) → P x → P y → P (cond t x y)
both P true x y p q = p
both P false x y p q = q

abbrev pub ins_m : ℕ → Mono → Mono
ins_m x unit = x · unit
ins_m x (y · m) = cond (ltb x y) (x · (y · m)) (y · ins_m x m)

ins_m-is : (ρ : List ℤ) (x : ℕ) (m : Mono) → eval_m ρ (ins_m x m) ≡ at ρ x *ℤ eval_m ρ m
ins_m-is ρ x unit = refl
ins_m-is ρ x (y · m) = both (λ r. eval_m ρ r ≡ at ρ x *ℤ eval_m ρ (y · m)) (ltb x y) (x · (y · m)) (y · ins_m x m)
    refl
    (rw (ins_m-is ρ x m) (simp ring-sort))

abbrev pub mul_m : Mono → Mono → Mono
mul_m unit n = n
mul_m (x · m) n = ins_m x (mul_m m n)

mul_m-is : (ρ : List ℤ) (m n : Mono) → eval_m ρ (mul_m m n) ≡ eval_m ρ m *ℤ eval_m ρ n
mul_m-is ρ unit n = sym (one-l (eval_m ρ n))
mul_m-is ρ (x · m) n = ins_m-is ρ x (mul_m m n) ∙ rw (mul_m-is ρ m n) (sym (*ℤ-assoc (at ρ x) (eval_m ρ m) (eval_m ρ n)))

-- a term in front, unless its factor is 0
abbrev pub front : ℤ → Mono → Poly → Poly
front c m p = cond (is_zero c) p (term c m p)

pub front-is : (ρ : List ℤ) (c : ℤ) (m : Mono) (p : Poly) → eval_p ρ (front c m p) ≡ c *ℤ eval_m ρ m +ℤ eval_p ρ p
front-is ρ c m p = go (is_zero c) refl
  where
    go : (t : Bool) → is_zero c ≡ t → eval_p ρ (cond t p (term c m p)) ≡ c *ℤ eval_m ρ m +ℤ eval_p ρ p
    go true e = rw (is_zero-is c e, zero-*ℤ (eval_m ρ m)) (sym (+ℤ_idl (eval_p ρ p)))
    go false e = refl

abbrev pub add_t : ℤ → Mono → Poly → Poly
add_t c m nil = front c m nil
add_t c m (term d n q) = cond (eq_m m n) (front (c +ℤ d) m q) (cond (lt_m m n) (front c m (term d n q)) (term d n (add_t c m q)))

add_t-is : (ρ : List ℤ) (c : ℤ) (m : Mono) (p : Poly) → eval_p ρ (add_t c m p) ≡ c *ℤ eval_m ρ m +ℤ eval_p ρ p
add_t-is ρ c m nil = front-is ρ c m nil
add_t-is ρ c m (term d n q) = go (add_t-is ρ c m q) (eq_m m n) refl
  where
    go : eval_p ρ (add_t c m q) ≡ c *ℤ eval_m ρ m +ℤ eval_p ρ q → (t : Bool) → eq_m m n ≡ t →
        eval_p ρ (cond t (front (c +ℤ d) m q) (cond (lt_m m n) (front c m (term d n q)) (term d n (add_t c m q)))) ≡ c *ℤ eval_m ρ m +ℤ (d *ℤ eval_m ρ n +ℤ eval_p ρ q)
    go ih true e = front-is ρ (c +ℤ d) m q ∙ rw (← eq_m-is m n e) (simp ring-sort)
    go ih false e = both (λ r. eval_p ρ r ≡ c *ℤ eval_m ρ m +ℤ (d *ℤ eval_m ρ n +ℤ eval_p ρ q)) (lt_m m n) (front c m (term d n q)) (term d n (add_t c m q))
        (front-is ρ c m (term d n q))
        (rw ih (simp ring-sort))

abbrev pub add_p : Poly → Poly → Poly
add_p nil q = q
add_p (term c m p) q = add_t c m (add_p p q)

pub add_p-is : (ρ : List ℤ) (p q : Poly) → eval_p ρ (add_p p q) ≡ eval_p ρ p +ℤ eval_p ρ q
add_p-is ρ nil q = sym (+ℤ_idl (eval_p ρ q))
add_p-is ρ (term c m p) q = add_t-is ρ c m (add_p p q) ∙ rw (add_p-is ρ p q) (sym (+ℤ_assoc (c *ℤ eval_m ρ m) (eval_p ρ p) (eval_p ρ q)))

abbrev pub scale : ℤ → Mono → Poly → Poly
scale c m nil = nil
scale c m (term d n q) = add_t (c *ℤ d) (mul_m m n) (scale c m q)

scale-law : (c d m n q : ℤ) → (c *ℤ d) *ℤ (m *ℤ n) +ℤ (c *ℤ m) *ℤ q ≡ (c *ℤ m) *ℤ (d *ℤ n +ℤ q)
scale-law c d m n q = simp ring-sort

pub scale-is : (ρ : List ℤ) (c : ℤ) (m : Mono) (q : Poly) → eval_p ρ (scale c m q) ≡ (c *ℤ eval_m ρ m) *ℤ eval_p ρ q
scale-is ρ c m nil = sym (*ℤ-zero (c *ℤ eval_m ρ m))
scale-is ρ c m (term d n q) = add_t-is ρ (c *ℤ d) (mul_m m n) (scale c m q) ∙ rw (scale-is ρ c m q, mul_m-is ρ m n) (scale-law c d (eval_m ρ m) (eval_m ρ n) (eval_p ρ q))

abbrev pub mul_p : Poly → Poly → Poly
mul_p nil q = nil
mul_p (term c m p) q = add_p (scale c m q) (mul_p p q)

pub mul_p-is : (ρ : List ℤ) (p q : Poly) → eval_p ρ (mul_p p q) ≡ eval_p ρ p *ℤ eval_p ρ q
mul_p-is ρ nil q = sym (zero-*ℤ (eval_p ρ q))
mul_p-is ρ (term c m p) q = add_p-is ρ (scale c m q) (mul_p p q) ∙ rw (scale-is ρ c m q, mul_p-is ρ p q) (sym (dist-r (c *ℤ eval_m ρ m) (eval_p ρ p) (eval_p ρ q)))
