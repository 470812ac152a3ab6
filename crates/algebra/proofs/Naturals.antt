-- Natural points, and the sign of a product with one.
use Rattle.std.proofs.Common.{◌≡◌, ℕ, zero, suc, ◌<◌, List, [], ◌∷◌, ◌++◌, map, length, set, ℤ, pos, negsuc, ◌+ℤ◌, ◌*ℤ◌, nat_abs, ◌≤ℤ◌, refl, ap, arith}
use borrow.Author.Differences.{ints}
use Rattle.base.specs.Numbers.{at, zeros}
use Rattle.base.specs.Forms.{dot}
use Rattle.algebra.specs.Lists.{NonNeg, NonPos}
use Rattle.algebra.proofs.Integers.{le-mul, nonneg-mul}
use Rattle.algebra.proofs.Ring.{◌⊕◌, ◌⊗◌, num}
use Rattle.algebra.proofs.Orders.{given_le, goal_le, order_from}

pub dot-nonneg : (xs ys : List ℤ) → NonNeg xs → NonNeg ys → pos 0 ≤ℤ dot xs ys
dot-nonneg [] ys p q = omega (arith, ints)
dot-nonneg (x ∷ xs) [] p q = omega (arith, ints)
dot-nonneg (x ∷ xs) (y ∷ ys) p q = sum (x *ℤ y) (dot xs ys) (nonneg-mul x y p.0 q.0) (dot-nonneg xs ys p.1 q.1)
  where
    sum : (a b : ℤ) → pos 0 ≤ℤ a → pos 0 ≤ℤ b → pos 0 ≤ℤ (a +ℤ b)
    sum a b h k = omega (arith, ints)

pub dot-nonpos : (xs ys : List ℤ) → NonPos xs → NonNeg ys → dot xs ys ≤ℤ pos 0
dot-nonpos [] ys p q = omega (arith, ints)
dot-nonpos (x ∷ xs) [] p q = omega (arith, ints)
dot-nonpos (x ∷ xs) (y ∷ ys) p q = add x y (dot xs ys) p.0 q.0 (dot-nonpos xs ys p.1 q.1)
  where
    add : (x y D : ℤ) → x ≤ℤ pos 0 → pos 0 ≤ℤ y → D ≤ℤ pos 0 → (x *ℤ y +ℤ D) ≤ℤ pos 0
    add x y D p q r =
        let m : (y *ℤ x) ≤ℤ (y *ℤ pos 0) = le-mul y x (pos 0) q p in
        order_from 3 0 (λ x y D. given_le 1 (y ⊗ x) (y ⊗ num (pos 0)) (given_le 1 D (num (pos 0)) (goal_le (x ⊗ y ⊕ D) (num (pos 0))))) refl x y D m r

pub nonneg-at : (xs : List ℤ) → ((k : ℕ) → k < length xs → pos 0 ≤ℤ at xs k) → NonNeg xs
nonneg-at [] h = tt
nonneg-at (x ∷ xs) h = (h 0 (omega arith), nonneg-at xs (λ k lt. h (suc k) (omega arith)))

pub nonpos-at : (xs : List ℤ) → ((k : ℕ) → k < length xs → at xs k ≤ℤ pos 0) → NonPos xs
nonpos-at [] h = tt
nonpos-at (x ∷ xs) h = (h 0 (omega arith), nonpos-at xs (λ k lt. h (suc k) (omega arith)))

pub nonneg-set : (xs : List ℤ) (j : ℕ) (v : ℤ) → NonNeg xs → pos 0 ≤ℤ v → NonNeg (set xs j v)
nonneg-set [] j v n h = tt
nonneg-set (x ∷ xs) zero v n h = (h, n.1)
nonneg-set (x ∷ xs) (suc j) v n h = (n.0, nonneg-set xs j v n.1 h)

pub nonneg-append : (xs ys : List ℤ) → NonNeg xs → NonNeg ys → NonNeg (xs ++ ys)
nonneg-append [] ys h k = k
nonneg-append (x ∷ xs) ys h k = (h.0, nonneg-append xs ys h.1 k)

pub nonneg-zeros : (n : ℕ) → NonNeg (zeros n)
nonneg-zeros zero = tt
nonneg-zeros (suc n) = (omega (arith, ints), nonneg-zeros n)

-- ---- a natural point is a list of natural numbers
pub nonneg_pos : (xs : List ℕ) → NonNeg (map pos xs)
nonneg_pos [] = tt
nonneg_pos (x ∷ xs) = (omega (arith, ints), nonneg_pos xs)

pub pos-sizes : (xs : List ℤ) → NonNeg xs → map pos (map nat_abs xs) ≡ xs
pos-sizes [] n = refl
pos-sizes (pos x ∷ xs) n = ap (λ (t : List ℤ). pos x ∷ t) (pos-sizes xs n.1)
pos-sizes (negsuc x ∷ xs) n = absurd (let no : ⊥ = omega (arith, ints, n.0) in no)
