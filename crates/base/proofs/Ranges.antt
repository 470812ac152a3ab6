-- Lists whose numbers are in range, as a test and as a fact.
use Rattle.std.proofs.Common.{◌≡◌, ℕ, zero, suc, ◌^◌, ◌≤◌, true, ◌&&◌, List, [], ◌∷◌, ◌++◌, set, ℤ, nat_abs, refl, ap, ◌∙◌, arith}
use Rattle.std.proofs.lemmas.Bool.{and_parts, le-leb, leb-true}
use Rattle.base.specs.Numbers.{AllWithin, in_range, within}

pub all-within : (xs : List ℤ) → within xs ≡ true → AllWithin (2 ^ 30) xs
all-within [] e k = omega arith
all-within (x ∷ xs) e zero = leb-true (nat_abs x) (2 ^ 30) (and_parts (in_range x) (within xs) e).0
all-within (x ∷ xs) e (suc k) = all-within xs (and_parts (in_range x) (within xs) e).1 k

pub small-within : (xs : List ℤ) → AllWithin (2 ^ 30) xs → within xs ≡ true
small-within [] a = refl
small-within (x ∷ xs) a = ap (λ b. b && within xs) (le-leb (nat_abs x) (2 ^ 30) (a 0)) ∙ small-within xs (λ k. a (suc k))

-- lists made of others
pub within-append : (m : ℕ) (xs ys : List ℤ) → AllWithin m xs → AllWithin m ys → AllWithin m (xs ++ ys)
within-append m [] ys a b k = b k
within-append m (x ∷ xs) ys a b zero = a 0
within-append m (x ∷ xs) ys a b (suc k) = within-append m xs ys (λ j. a (suc j)) b k

pub within-set : (m : ℕ) (xs : List ℤ) (i : ℕ) (v : ℤ) → nat_abs v ≤ m → AllWithin m xs → AllWithin m (set xs i v)
within-set m [] i v h w k = w k
within-set m (x ∷ xs) zero v h w zero = h
within-set m (x ∷ xs) zero v h w (suc k) = w (suc k)
within-set m (x ∷ xs) (suc i) v h w zero = w 0
within-set m (x ∷ xs) (suc i) v h w (suc k) = within-set m xs i v h (λ j. w (suc j)) k
