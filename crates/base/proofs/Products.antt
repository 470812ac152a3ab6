-- How large a product, a sum or a difference can be.
use Rattle.std.proofs.Common.{◌≡◌, ℕ, zero, suc, ◌+◌, ◌*◌, ◌^◌, ◌≤◌, ℤ, pos, negsuc, ◌+ℤ◌, ◌-ℤ◌, ◌*ℤ◌, neg_ℤ, nat_abs, ◌<ℤ◌, refl, arith, w64, SFits}
use Rattle.std.proofs.lemmas.Nat.{mul-le}
use Rattle.std.proofs.lemmas.Int.{ints}

pub nat_abs-neg : (z : ℤ) → nat_abs (neg_ℤ z) ≡ nat_abs z
nat_abs-neg (pos zero) = refl
nat_abs-neg (pos (suc n)) = refl
nat_abs-neg (negsuc n) = refl

pub nat_abs_mul : (a b : ℤ) → nat_abs (a *ℤ b) ≡ nat_abs a * nat_abs b
nat_abs_mul (pos a) (pos b) = refl
nat_abs_mul (pos a) (negsuc b) = nat_abs-neg (pos (a * suc b))
nat_abs_mul (negsuc a) (pos b) = nat_abs-neg (pos (suc a * b))
nat_abs_mul (negsuc a) (negsuc b) = refl

pub mul-within : (a b : ℤ) (m n : ℕ) → nat_abs a ≤ m → nat_abs b ≤ n → nat_abs (a *ℤ b) ≤ m * n
mul-within a b m n h k = rw nat_abs_mul (mul-le (nat_abs a) (nat_abs b) m n h k)

pub fits-within : (z : ℤ) → nat_abs z ≤ 2 ^ 62 → SFits w64 z
fits-within z h = omega (arith, ints)

pub add-within : (a b : ℤ) (m n : ℕ) → nat_abs a ≤ m → nat_abs b ≤ n → nat_abs (a +ℤ b) ≤ m + n
add-within a b m n h k = omega (arith, ints)

pub sub_within : (a b : ℤ) (m n : ℕ) → nat_abs a ≤ m → nat_abs b ≤ n → nat_abs (a -ℤ b) ≤ m + n
sub_within a b m n h k = omega (arith, ints)

pub mul-above : (a b : ℤ) → pos 0 <ℤ a → pos 0 <ℤ b → pos 0 <ℤ (a *ℤ b)
mul-above (pos a) (pos b) h k = let l = mul-le 1 1 a b (omega (arith, ints)) (omega (arith, ints)) in omega (arith, ints)
mul-above (pos a) (negsuc b) h k = absurd (let no : ⊥ = omega (arith, ints) in no)
mul-above (negsuc a) b h k = absurd (let no : ⊥ = omega (arith, ints) in no)
