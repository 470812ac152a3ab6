-- The tests of numbers, place by place.
use Rattle.std.proofs.Common.{◌≡◌, ℕ, zero, suc, ◌+◌, ◌-◌, ◌&&◌, cond, ltb, List, [], ◌∷◌, ℤ, refl, ap, ◌∙◌, ap₂, add-one, arith}
use Rattle.std.specs.List.{enumerate_from, list_all}
use Rattle.std.proofs.lemmas.Bool.{cond-false, cond-true, le-ltb, lt-ltb}
use Rattle.page.specs.Fits.{fits_from, form_fits, leaf_fits, number_fits}
use Rattle.base.specs.Numbers.{all_zero}

fits-is : (p made k : ℕ) (C : List ℤ) → list_all (λ q. number_fits p made q.0 q.1) (enumerate_from k C) ≡ fits_from p made k C
fits-is p made k [] = refl
fits-is p made k (x ∷ xs) = ap (λ b. number_fits p made k x && b) (ap (λ j. list_all (λ q. number_fits p made q.0 q.1) (enumerate_from j xs)) (add-one k) ∙ fits-is p made (suc k) xs)

-- each number with its place
pub form-is : (p made : ℕ) (C : List ℤ) → list_all (λ q. number_fits p made q.0 q.1) (enumerate_from 0 C) ≡ form_fits p made C
unfolding form_fits
form-is p made C = fits-is p made 0 C

-- ---- the forms of a leaf

leaf-from : (n p made k m : ℕ) (Cs : List (List ℤ)) → m ≡ n - k → list_all (λ q. cond (ltb q.0 n) (form_fits p made q.1) (all_zero q.1)) (enumerate_from k Cs) ≡ leaf_fits m p made Cs
unfolding leaf_fits
leaf-from n p made k m [] e = refl
leaf-from n p made k zero (C ∷ Cs) e = ap₂ ◌&&◌ (cond-false (ltb k n) _ _ (le-ltb k n (omega (arith, e)))) (leaf-from n p made (k + 1) zero Cs (omega (arith, e)))
leaf-from n p made k (suc m) (C ∷ Cs) e = ap₂ ◌&&◌ (cond-true (ltb k n) _ _ (lt-ltb k n (omega (arith, e)))) (leaf-from n p made (k + 1) m Cs (omega (arith, e)))

-- each form with its place
pub leaf-is : (n p made : ℕ) (Cs : List (List ℤ)) → list_all (λ q. cond (ltb q.0 n) (form_fits p made q.1) (all_zero q.1)) (enumerate_from 0 Cs) ≡ leaf_fits n p made Cs
leaf-is n p made Cs = leaf-from n p made 0 n Cs (omega arith)
