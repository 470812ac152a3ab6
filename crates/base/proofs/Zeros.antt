-- Numbers that are 0.
use Rattle.std.proofs.Common.{◌≡◌, ℕ, zero, suc, ◌<◌, true, ◌&&◌, List, [], ◌∷◌, take, ℤ, pos, negsuc, refl, ap, ◌∙◌, arith}
use Rattle.base.specs.Numbers.{all_zero, at, is_zero, zeros}

pub is_zero-is : (x : ℤ) → is_zero x ≡ true → x ≡ pos 0
is_zero-is (pos zero) e = refl
is_zero-is (pos (suc n)) e = cc
is_zero-is (negsuc n) e = cc

-- a list whose first n numbers are 0
pub all_zero-take : (n : ℕ) (xs : List ℤ) → ((k : ℕ) → k < n → at xs k ≡ pos 0) → all_zero (take n xs) ≡ true
all_zero-take zero xs h = refl
all_zero-take (suc n) [] h = refl
all_zero-take (suc n) (x ∷ xs) h = ap (λ z. is_zero z && all_zero (take n xs)) (h 0 (omega arith)) ∙ all_zero-take n xs (λ k lt. h (suc k) (omega arith))

pub at-zeros : (n k : ℕ) → at (zeros n) k ≡ pos 0
at-zeros zero k = refl
at-zeros (suc n) zero = refl
at-zeros (suc n) (suc k) = at-zeros n k
