-- Arrays made number by number.
use Rattle.std.proofs.Common.{◌≡◌, ℕ, suc, ◌≤◌, ◌^◌, List, [], ◌∷◌, ℤ, Some, nat_abs, subst, arith, w32, w64, to_z, of_z}
use Rattle.std.proofs.lemmas.Int.{ints}
use Rattle.std.specs.Array.{list_steps}
use Rattle.std.specs.Iterator.{Yields}
use Rattle.base.specs.Numbers.{AllWithin}

within-left : (m : ℕ) (s xs t : List ℤ) → Yields list_steps s xs t → AllWithin m s → AllWithin m t
within-left m s [] t y h = subst (AllWithin m) y h
within-left m s (x ∷ xs) t y h = within-left m y.0 xs t y.2 (λ k. subst (AllWithin m) y.1 h (suc k))

-- the next item of a list of small numbers is small
pub within-next : (m : ℕ) (s xs t u : List ℤ) (x : ℤ) → Yields list_steps s xs t → list_steps t (Some x) u → AllWithin m s → nat_abs x ≤ m
within-next m s xs t u x y z h = subst (AllWithin m) z (within-left m s xs t y h) 0

-- a small number fits 32 bits
pub narrowed : (x : ℤ) → nat_abs x ≤ 2 ^ 30 → to_z w32 (of_z w32 (to_z w64 (of_z w64 x))) ≡ x
narrowed x h = omega (arith, ints)
