-- Division that rounds down, of numbers and of lists.
use Rattle.std.proofs.Common.{◌≡◌, ℕ, zero, suc, ◌<◌, List, [], ◌∷◌, map, ℤ, pos, negsuc, ◌+ℤ◌, ◌-ℤ◌, ◌*ℤ◌, neg_ℤ, ◌≤ℤ◌, ◌<ℤ◌, sym, refl, ap, arith}
use borrow.Author.Differences.{ints}
use Rattle.base.specs.Numbers.{floor_by, floor_div, mod_by, modulo}
use Rattle.base.specs.Forms.{dot}
use Rattle.algebra.specs.Lists.{NonNeg}
use Rattle.algebra.specs.Laws.{OneRemainder}
use Rattle.algebra.proofs.Ring.{◌⊕◌, ◌⊖◌, ◌⊗◌, num, ring}
use Rattle.algebra.proofs.Claims.{given, goal, ring-from}

-- z is d times q, and r more
pub record Divided (z d q r : ℤ) : Type 0 where
  pub is : z ≡ d *ℤ q +ℤ r
  pub low : pos 0 ≤ℤ r
  pub high : r <ℤ d

pub divided : (z d : ℤ) → pos 0 <ℤ d → Divided z d (floor_div z d) (modulo z d)
divided z (negsuc n) h = absurd (let no : ⊥ = omega (arith, ints) in no)
divided (pos a) (pos n) h = let p : 0 < n = omega (arith, ints) in record { is = ap pos (omega arith); low = omega (arith, ints); high = omega (arith, ints) }
divided (negsuc a) (pos n) h = let p : 0 < n = omega (arith, ints) in record { is = omega (arith, ints); low = omega (arith, ints); high = omega (arith, ints) }

-- ---- multiples of d
-- above -d: d times a natural number
pub natural-multiple : (d k w : ℤ) → pos 0 <ℤ d → w ≡ d *ℤ k → neg_ℤ d <ℤ w → (n : ℕ) × (d *ℤ pos n ≡ w)
natural-multiple d (pos n) w h e l = (n, sym e)
natural-multiple (pos m) (negsuc n) w h e l = absurd (let no : ⊥ = omega (arith, ints) in no)
natural-multiple (negsuc m) (negsuc n) w h e l = absurd (let no : ⊥ = omega (arith, ints) in no)

-- between -d and d: 0
pub zero-multiple : (d k w : ℤ) → pos 0 <ℤ d → w ≡ d *ℤ k → neg_ℤ d <ℤ w → w <ℤ d → w ≡ pos 0
zero-multiple (negsuc m) k w h e l u = absurd (let no : ⊥ = omega (arith, ints) in no)
zero-multiple (pos m) (pos zero) w h e l u = omega (arith, ints)
zero-multiple (pos m) (pos (suc n)) w h e l u = absurd (let no : ⊥ = omega (arith, ints) in no)
zero-multiple (pos m) (negsuc n) w h e l u = absurd (let no : ⊥ = omega (arith, ints) in no)

-- there is only one remainder
modulo-unique : (z d q r : ℤ) → pos 0 <ℤ d → Divided z d q r → modulo z d ≡ r
modulo-unique z d q r h u =
    let v = divided z d h in
    same (modulo z d) r (zero-multiple d (q -ℤ floor_div z d) (modulo z d -ℤ r) h (law z d q r (floor_div z d) (modulo z d) u.is v.is) (above (modulo z d) r d v.low u.high) (below (modulo z d) r d v.high u.low))
  where
    same : (a b : ℤ) → a -ℤ b ≡ pos 0 → a ≡ b
    same a b e = omega (arith, ints)

    above : (a b d : ℤ) → pos 0 ≤ℤ a → b <ℤ d → neg_ℤ d <ℤ (a -ℤ b)
    above a b d h k = omega (arith, ints)

    below : (a b d : ℤ) → a <ℤ d → pos 0 ≤ℤ b → (a -ℤ b) <ℤ d
    below a b d h k = omega (arith, ints)

    law : (z d q r p s : ℤ) → z ≡ d *ℤ q +ℤ r → z ≡ d *ℤ p +ℤ s → s -ℤ r ≡ d *ℤ (q -ℤ p)
    law = ring-from 6 (λ z d q r p s. given (num (pos 1)) z (d ⊗ q ⊕ r) (given (num (negsuc 0)) z (d ⊗ p ⊕ s) (goal (s ⊖ r) (d ⊗ (q ⊖ p))))) refl

pub one-remainder : OneRemainder
one-remainder a d h =
    let v = divided a d h in
    ((v.is, (v.low, v.high)), λ q r is low high. sym (modulo-unique a d q r h (record { is = is; low = low; high = high })))

-- the quotient of a natural number is natural
pub floor-nonneg : (z d : ℤ) → pos 0 ≤ℤ z → pos 0 ≤ℤ floor_div z d
floor-nonneg (pos a) d h = omega (arith, ints)
floor-nonneg (negsuc a) d h = absurd (let no : ⊥ = omega (arith, ints) in no)

-- ---- lists
pub mods-nonneg : (d : ℤ) (xs : List ℤ) → pos 0 <ℤ d → NonNeg (map (mod_by d) xs)
mods-nonneg d [] h = tt
mods-nonneg d (x ∷ xs) h = ((divided x d h).low, mods-nonneg d xs h)

-- a product, by the quotients and the remainders
pub dot-divided : (d : ℤ) (xs ys : List ℤ) → pos 0 <ℤ d → dot xs ys ≡ d *ℤ dot (map (floor_by d) xs) ys +ℤ dot (map (mod_by d) xs) ys
dot-divided d [] ys h = ring 1 (λ d. (num (pos 0), d ⊗ num (pos 0) ⊕ num (pos 0))) refl d
dot-divided d (x ∷ xs) [] h = ring 1 (λ d. (num (pos 0), d ⊗ num (pos 0) ⊕ num (pos 0))) refl d
dot-divided d (x ∷ xs) (y ∷ ys) h =
    step x (dot xs ys) d (floor_div x d) (modulo x d) y (dot (map (floor_by d) xs) ys) (dot (map (mod_by d) xs) ys) (divided x d h).is (dot-divided d xs ys h)
  where
    step : (x D d q r y Q R : ℤ) → x ≡ d *ℤ q +ℤ r → D ≡ d *ℤ Q +ℤ R → x *ℤ y +ℤ D ≡ d *ℤ (q *ℤ y +ℤ Q) +ℤ (r *ℤ y +ℤ R)
    step = ring-from 8 (λ x D d q r y Q R. given y x (d ⊗ q ⊕ r) (given (num (pos 1)) D (d ⊗ Q ⊕ R) (goal (x ⊗ y ⊕ D) (d ⊗ (q ⊗ y ⊕ Q) ⊕ (r ⊗ y ⊕ R))))) refl
