-- The limits of a record's numbers, as tests.
use Rattle.std.specs.Prelude.{ℕ, zero, suc, ◌+◌, ◌^◌, Bool, true, cond, not, ◌&&◌, ◌||◌, List, [], ◌∷◌, take, ℤ, pos, int_le, nat_lt}
use Rattle.base.specs.Numbers.{all_zero, in_range, is_zero}
use Rattle.tree.specs.Finds.{all_below}

-- place k of a form may be other than 0: the first p of four parameters, the new ones made so far of five, the constant
abbrev pub usable : ℕ → ℕ → ℕ → Bool
usable p made k = cond (nat_lt k 4) (nat_lt k p) (cond (nat_lt k 9) (nat_lt k (4 + made)) true)

-- a number from -2^30 to 2^30, and 0 where the place is not in use
abbrev pub number_fits : ℕ → ℕ → ℕ → ℤ → Bool
number_fits p made k x = in_range x && (usable p made k || is_zero x)

abbrev pub fits_from : ℕ → ℕ → ℕ → List ℤ → Bool
fits_from p made k [] = true
fits_from p made k (x ∷ xs) = number_fits p made k x && fits_from p made (suc k) xs

unfoldable pub form_fits : ℕ → ℕ → List ℤ → Bool
form_fits p made C = fits_from p made 0 C

-- a new parameter floor(T / d): d is 2 or more, T's numbers are from 0 to d - 1, some coefficient is not 0
unfoldable pub new_fits : ℕ → ℕ → ℤ → List ℤ → Bool
new_fits p made d T = (int_le (pos 2) d && int_le d (pos (2 ^ 30))) && (form_fits p made T && (all_below d T && not (all_zero (take 9 T))))

-- the forms of a leaf of n unknowns: those past the nth are 0
unfoldable pub leaf_fits : ℕ → ℕ → ℕ → List (List ℤ) → Bool
leaf_fits n p made [] = true
leaf_fits zero p made (C ∷ Cs) = all_zero C && leaf_fits zero p made Cs
leaf_fits (suc n) p made (C ∷ Cs) = form_fits p made C && leaf_fits n p made Cs
