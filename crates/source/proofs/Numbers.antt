-- Numbers within the limits of a system.
use Rattle.std.proofs.Common.{◌≡◌, ℕ, zero, suc, ◌+◌, Bool, true, false, not, cond, List, [], ◌∷◌, ℤ, nat_abs, Some, None, refl, arith}
use Rattle.std.proofs.lemmas.Bool.{leb-true}
use Rattle.base.specs.Numbers.{AllWithin}
use Rattle.source.specs.Limits.{first_outside, in_limits}

-- where no number is out of limits, each is within them
pub none-outside : (j : ℕ) (xs : List ℤ) → first_outside j xs ≡ None → AllWithin 1000000 xs
none-outside j [] e k = omega arith
none-outside j (x ∷ xs) e k = go (λ h. none-outside (j + 1) xs h) (in_limits x) refl e k
  where
    go : (first_outside (j + 1) xs ≡ None → AllWithin 1000000 xs) → (b : Bool) → in_limits x ≡ b → cond (not b) (Some j) (first_outside (j + 1) xs) ≡ None → AllWithin 1000000 (x ∷ xs)
    go rest true t e zero = leb-true (nat_abs x) 1000000 t
    go rest true t e (suc k) = rest e k
    go rest false t e k = let no : ◌≡◌ {A = ℕ} 0 1 = cc in absurd (let z : ⊥ = omega arith in z)
