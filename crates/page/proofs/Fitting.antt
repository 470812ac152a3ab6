-- The tests of a record's numbers say what the limits say.
use Rattle.std.proofs.Common.{◌≡◌, ℕ, zero, suc, ◌+◌, ◌^◌, ◌<◌, ◌≤◌, Bool, true, false, not, ◌&&◌, ◌||◌, T, ltb, ◌≢◌, ◌⊎◌, List, [], ◌∷◌, ◌++◌, length, take, drop, replicate, ℤ, pos, negsuc, nat_abs, ◌≤ℤ◌, ◌<ℤ◌, sym, refl, ap, ◌∙◌, subst, ap₂, inl, inr, ⊎_elim, arith, w32, SFits}
use lib.Signed.{le_z, lt_z}
use Rattle.std.proofs.lemmas.List.{get_or_past, get_or-take, length-take-le}
use Rattle.std.proofs.lemmas.Int.{ints}
use Rattle.std.proofs.lemmas.Bool.{and_cases, and_from, and_parts, cond-false, cond-true, not-true, cases_Bool, cases_lt, false≢true, le-leb, le-ltb, leb-true, lt-ltb, or_cases, or_left, or_right}
use Rattle.base.specs.Numbers.{all_zero, at, in_range, is_zero}
use Rattle.base.proofs.Zeros.{is_zero-is}
use Rattle.tree.specs.Finds.{all_below}
use Rattle.tree.specs.Limits.{AllFormsFit, FormFits, NewFits}
use Rattle.tree.proofs.Walking.{below_all, is_true}
use Rattle.page.specs.Fits.{fits_from, form_fits, leaf_fits, new_fits, number_fits, usable}
use Rattle.page.specs.Words.{Fit32, forms}
use Rattle.page.proofs.Words.{AllTen, Ten, length-words}

-- ---- one number

-- a place is in use, or one of the two reasons why not holds
in_use : (p made k : ℕ) (Z : Type 0) → (p ≤ k → k < 4 → Z) → (4 + made ≤ k → k < 9 → Z) → (usable p made k ≡ true) ⊎ Z
in_use p made k Z a b =
    ⊎_elim
    (λ (lt : k < 4). ⊎_elim (λ (q : k < p). inl (cond-true (ltb k 4) _ _ (lt-ltb k 4 lt) ∙ lt-ltb k p q)) (λ (q : p ≤ k). inr (a q lt)) (cases_lt k p))
    (λ (ge : 4 ≤ k).
    ⊎_elim
    (λ (lt : k < 9). ⊎_elim (λ (q : k < 4 + made). inl (cond-false (ltb k 4) _ _ (le-ltb k 4 ge) ∙ cond-true (ltb k 9) _ _ (lt-ltb k 9 lt) ∙ lt-ltb k (4 + made) q)) (λ (q : 4 + made ≤ k). inr (b q lt)) (cases_lt k (4 + made)))
    (λ (nine : 9 ≤ k). inl (cond-false (ltb k 4) _ _ (le-ltb k 4 ge) ∙ cond-false (ltb k 9) _ _ (le-ltb k 9 nine)))
    (cases_lt k 9))
    (cases_lt k 4)

number_in : (p made k : ℕ) (x : ℤ) → nat_abs x ≤ 2 ^ 30 → (p ≤ k → k < 4 → x ≡ pos 0) → (4 + made ≤ k → k < 9 → x ≡ pos 0) → number_fits p made k x ≡ true
number_in p made k x small par new =
    and_from (in_range x) (usable p made k || is_zero x) (le-leb (nat_abs x) (2 ^ 30) small)
    (⊎_elim (λ (u : usable p made k ≡ true). or_left (usable p made k) (is_zero x) u) (λ (z : x ≡ pos 0). or_right (usable p made k) (is_zero x) (ap is_zero z)) (in_use p made k (x ≡ pos 0) par new))

number-out : (p made k : ℕ) (x : ℤ) → number_fits p made k x ≡ true → (nat_abs x ≤ 2 ^ 30) × ((p ≤ k → k < 4 → x ≡ pos 0) × (4 + made ≤ k → k < 9 → x ≡ pos 0))
number-out p made k x e =
    let t = and_parts (in_range x) (usable p made k || is_zero x) e in
    let Z : Type 0 = x ≡ pos 0 in
    let unused : usable p made k ≡ false → Z = λ u. ⊎_elim (λ (v : usable p made k ≡ true). absurd (false≢true (sym u ∙ v))) (λ (z : is_zero x ≡ true). is_zero-is x z) (or_cases (usable p made k) (is_zero x) t.1) in (
      leb-true (nat_abs x) (2 ^ 30) t.0,
      (
        λ q lt. unused (cond-true (ltb k 4) _ _ (lt-ltb k 4 lt) ∙ le-ltb k p q),
        λ q lt. unused (cond-false (ltb k 4) _ _ (le-ltb k 4 (omega arith)) ∙ cond-true (ltb k 9) _ _ (lt-ltb k 9 lt) ∙ le-ltb k (4 + made) q),
      ),
    )

-- ---- a form

fits_in : (p made k : ℕ) (C : List ℤ) → ((l j : ℕ) → j ≡ k + l → number_fits p made j (at C l) ≡ true) → fits_from p made k C ≡ true
fits_in p made k [] h = refl
fits_in p made k (x ∷ xs) h = and_from (number_fits p made k x) (fits_from p made (suc k) xs) (h 0 k (omega arith)) (fits_in p made (suc k) xs (λ l j e. h (suc l) j (omega (arith, e))))

fits_out : (p made k : ℕ) (C : List ℤ) → fits_from p made k C ≡ true → (l j : ℕ) → j ≡ k + l → l < length C → number_fits p made j (at C l) ≡ true
fits_out p made k [] h l j e lt = absurd (let no : ⊥ = omega arith in no)
fits_out p made k (x ∷ xs) h zero j e lt =
    let q : j ≡ k = omega (arith, e) in
    subst (λ i. number_fits p made i x ≡ true) (sym q) (and_parts (number_fits p made k x) (fits_from p made (suc k) xs) h).0
fits_out p made k (x ∷ xs) h (suc l) j e lt = fits_out p made (suc k) xs (and_parts (number_fits p made k x) (fits_from p made (suc k) xs) h).1 l j (omega (arith, e)) (omega arith)

pub form_in : (p made : ℕ) (C : List ℤ) → FormFits p made C → form_fits p made C ≡ true
unfolding form_fits
form_in p made C f =
    fits_in p made 0 C (λ l j e. let q : j ≡ l = omega (arith, e) in subst (λ i. number_fits p made i (at C l) ≡ true) (sym q) (number_in p made l (at C l) (f.small l) (f.parameters l) (f.news l)))

pub form-out : (p made : ℕ) (C : List ℤ) → length C ≡ 10 → form_fits p made C ≡ true → FormFits p made C
unfolding form_fits
form-out p made C ten e =
    let h : (l : ℕ) → l < length C → number_fits p made l (at C l) ≡ true = λ l lt. fits_out p made 0 C e l l (omega arith) lt in
    record {
      ten = ten;
      small = λ k.
          ⊎_elim
          (λ (lt : k < length C). (number-out p made k (at C k) (h k lt)).0)
          (λ (ge : length C ≤ k). subst (λ x. nat_abs x ≤ 2 ^ 30) (sym (get_or_past C k (pos 0) ge)) (omega arith))
          (cases_lt k (length C));
      parameters = λ l a lt. (number-out p made l (at C l) (h l (omega (arith, ten)))).1.0 a lt;
      news = λ l a lt. (number-out p made l (at C l) (h l (omega (arith, ten)))).1.1 a lt;
    }

small-fits : (z : ℤ) → nat_abs z ≤ 2 ^ 30 → SFits w32 z
small-fits (pos n) h = record { sfits = omega arith }
small-fits (negsuc n) h = record { sfits = omega arith }

from-fit32 : (p made k : ℕ) (C : List ℤ) → fits_from p made k C ≡ true → Fit32 C
from-fit32 p made k [] e = tt
from-fit32 p made k (x ∷ xs) e =
    let t = and_parts (number_fits p made k x) (fits_from p made (suc k) xs) e in
    (small-fits x (number-out p made k x t.0).0, from-fit32 p made (suc k) xs t.1)

pub form-ten : (p made : ℕ) (C : List ℤ) → FormFits p made C → Ten C
unfolding form_fits
form-ten p made C f = (f.ten, from-fit32 p made 0 C (form_in p made C f))

-- ---- a new parameter

all-zero-at : (xs : List ℤ) → all_zero xs ≡ true → (k : ℕ) → at xs k ≡ pos 0
all-zero-at [] e k = refl
all-zero-at (x ∷ xs) e zero = is_zero-is x (and_parts (is_zero x) (all_zero xs) e).0
all-zero-at (x ∷ xs) e (suc k) = all-zero-at xs (and_parts (is_zero x) (all_zero xs) e).1 k

nonzero-at : (xs : List ℤ) → all_zero xs ≡ false → (k : ℕ) × ((k < length xs) × (at xs k ≢ pos 0))
nonzero-at [] e = absurd (false≢true (sym e))
nonzero-at (x ∷ xs) e =
    ⊎_elim
    (λ (z : is_zero x ≡ false). (0, (omega arith, λ q. absurd (false≢true (sym z ∙ ap is_zero q)))))
    (λ (z : all_zero xs ≡ false). let r = nonzero-at xs z in (suc r.0, (omega (arith, r.1.0), r.1.1)))
    (and_cases (is_zero x) (all_zero xs) e)

holds : (b : Bool) → b ≡ true → T b
holds b e = subst T (sym e) tt

below_at : (d : ℤ) (xs : List ℤ) → le_z (pos 2) d ≡ true → all_below d xs ≡ true → (l : ℕ) → (pos 0 ≤ℤ at xs l) × (at xs l <ℤ d)
below_at d [] two e l = let h : pos 2 ≤ℤ d = record { le = holds (le_z (pos 2) d) two } in (omega (arith, ints), omega (arith, ints, h))
below_at d (x ∷ xs) two e zero =
    let t = and_parts (le_z (pos 0) x) (lt_z x d) (and_parts (le_z (pos 0) x && lt_z x d) (all_below d xs) e).0 in
    (record { le = holds (le_z (pos 0) x) t.0 }, record { lt = holds (lt_z x d) t.1 })
below_at d (x ∷ xs) two e (suc l) = below_at d xs two (and_parts (le_z (pos 0) x && lt_z x d) (all_below d xs) e).1 l

pub new_in : (p made : ℕ) (d : ℤ) (T : List ℤ) → NewFits p made d T → new_fits p made d T ≡ true
unfolding new_fits
new_in p made d T f =
    let some : not (all_zero (take 9 T)) ≡ true =
    ⊎_elim
    (λ (z : all_zero (take 9 T) ≡ true). absurd (f.named (sym (get_or-take 9 T f.place (pos 0) f.coefficient) ∙ all-zero-at (take 9 T) z f.place)))
    (λ (z : all_zero (take 9 T) ≡ false). ap not z)
    (cases_Bool (all_zero (take 9 T))) in
    and_from (le_z (pos 2) d && le_z d (pos (2 ^ 30))) _ (and_from (le_z (pos 2) d) (le_z d (pos (2 ^ 30))) (is_true _ f.least.le) (is_true _ f.most.le))
    (and_from (form_fits p made T) _ (form_in p made T f.form) (and_from (all_below d T) (not (all_zero (take 9 T))) (below_all d T f.low f.high) some))

pub new-out : (p made : ℕ) (d : ℤ) (form : List ℤ) → length form ≡ 10 → new_fits p made d form ≡ true → NewFits p made d form
unfolding new_fits
new-out p made d form ten e =
    let a = and_parts (le_z (pos 2) d && le_z d (pos (2 ^ 30))) (form_fits p made form && (all_below d form && not (all_zero (take 9 form)))) e in
    let b = and_parts (le_z (pos 2) d) (le_z d (pos (2 ^ 30))) a.0 in
    let c = and_parts (form_fits p made form) (all_below d form && not (all_zero (take 9 form))) a.1 in
    let g = and_parts (all_below d form) (not (all_zero (take 9 form))) c.1 in
    let n = nonzero-at (take 9 form) (not-true (all_zero (take 9 form)) g.1) in
    let few : n.0 < 9 = omega (arith, n.1.0, length-take-le 9 form (omega (arith, ten))) in
    record {
      form = form-out p made form ten c.0;
      least = record { le = holds (le_z (pos 2) d) b.0 };
      most = record { le = holds (le_z d (pos (2 ^ 30))) b.1 };
      low = λ l. (below_at d form b.0 g.0 l).0;
      high = λ l. (below_at d form b.0 g.0 l).1;
      place = n.0;
      coefficient = few;
      named = λ q. n.1.1 (get_or-take 9 form n.0 (pos 0) few ∙ q);
    }

pub new-d : (p made : ℕ) (d : ℤ) (T : List ℤ) → NewFits p made d T → SFits w32 d
new-d p made (pos d) T f = record { sfits = omega (arith, ints, f.most) }
new-d p made (negsuc d) T f = absurd (let no : ⊥ = omega (arith, ints, f.least) in no)

-- ---- a leaf

abbrev pub zero_form : List ℤ
zero_form = replicate 10 (pos 0)

-- each has ten numbers
abbrev pub Tens : List (List ℤ) → Type 0
Tens [] = Unit {0}
Tens (C ∷ Cs) = (length C ≡ 10) × Tens Cs

zeros-are : (m : ℕ) (C : List ℤ) → length C ≡ m → all_zero C ≡ true → C ≡ replicate m (pos 0)
zeros-are zero [] l e = refl
zeros-are zero (x ∷ xs) l e = absurd (let no : ⊥ = omega (arith, l) in no)
zeros-are (suc m) [] l e = absurd (let no : ⊥ = omega (arith, l) in no)
zeros-are (suc m) (x ∷ xs) l e =
    let t = and_parts (is_zero x) (all_zero xs) e in
    ap₂ ◌∷◌ (is_zero-is x t.0) (zeros-are m xs (omega (arith, l)) t.1)

pub leaf-out : (n p made : ℕ) (Cs : List (List ℤ)) (m : ℕ) → Tens Cs → length Cs ≡ n + m → leaf_fits n p made Cs ≡ true → AllFormsFit p made (take n Cs) × (Cs ≡ take n Cs ++ replicate m zero_form)
unfolding leaf_fits
leaf-out zero p made [] zero h l e = (tt, refl)
leaf-out zero p made [] (suc m) h l e = absurd (let no : ⊥ = omega (arith, l) in no)
leaf-out zero p made (C ∷ Cs) zero h l e = absurd (let no : ⊥ = omega (arith, l) in no)
leaf-out zero p made (C ∷ Cs) (suc m) h l e =
    let t = and_parts (all_zero C) (leaf_fits zero p made Cs) e in
    (tt, ap₂ ◌∷◌ (zeros-are 10 C h.0 t.0) (leaf-out zero p made Cs m h.1 (omega (arith, l)) t.1).1)
leaf-out (suc n) p made [] m h l e = absurd (let no : ⊥ = omega (arith, l) in no)
leaf-out (suc n) p made (C ∷ Cs) m h l e =
    let t = and_parts (form_fits p made C) (leaf_fits n p made Cs) e in
    let r = leaf-out n p made Cs m h.1 (omega (arith, l)) t.1 in
    ((form-out p made C h.0 t.0, r.0), ap (λ l. C ∷ l) r.1)

zeros-in : (p made m : ℕ) → leaf_fits 0 p made (replicate m zero_form) ≡ true
unfolding leaf_fits
zeros-in p made zero = refl
zeros-in p made (suc m) = zeros-in p made m

pub leaf-in : (p made : ℕ) (Cs : List (List ℤ)) (m : ℕ) → AllFormsFit p made Cs → leaf_fits (length Cs) p made (Cs ++ replicate m zero_form) ≡ true
unfolding leaf_fits
leaf-in p made [] m f = zeros-in p made m
leaf-in p made (C ∷ Cs) m f = and_from (form_fits p made C) _ (form_in p made C f.0) (leaf-in p made Cs m f.1)

zero-tens : (m : ℕ) → AllTen (replicate m zero_form)
zero-tens zero = tt
zero-tens (suc m) = let z : SFits w32 (pos 0) = small-fits (pos 0) (omega arith) in ((refl, (z, (z, (z, (z, (z, (z, (z, (z, (z, (z, tt))))))))))), zero-tens m)

pub six-tens : (p made : ℕ) (Cs : List (List ℤ)) (m : ℕ) → AllFormsFit p made Cs → AllTen (Cs ++ replicate m zero_form)
six-tens p made [] m f = zero-tens m
six-tens p made (C ∷ Cs) m f = (form-ten p made C f.0, six-tens p made Cs m f.1)

pub forms-tens : (c : ℕ) (b : List ℕ) → Tens (forms c b)
unfolding forms
forms-tens zero b = tt
forms-tens (suc c) b = (length-words 10 b, forms-tens c (drop 40 b))
