-- A setting parted into the places in use and the others: the value of a form there is that of its row in a test.
use Rattle.std.proofs.Common.{◌≡◌, ℕ, zero, suc, ◌+◌, ◌-◌, ◌<◌, ◌≤◌, List, [], ◌∷◌, ◌++◌, length, take, drop, ℤ, pos, ◌+ℤ◌, sym, refl, ap, ◌∙◌, inl, inr, arith}
use Rattle.std.proofs.lemmas.List.{append_assoc, drop-drop, get_or-drop, length-take-le}
use Rattle.base.specs.Numbers.{at, zeros}
use Rattle.base.specs.Forms.{dot, value_at}
use Rattle.algebra.proofs.Ring.{◌⊕◌, ◌⊖◌, ◌⊗◌, num, ring}
use Rattle.algebra.proofs.Dots.{dot-append, dot-comm, dot-padded, dot-split, dot-zeros}
use Rattle.tableau_laws.proofs.Settings.{value-constant}
use Rattle.solver.specs.Tests.{test_row}
use Rattle.solver_laws.specs.Places.{Uses}

-- numbers that are all 0 add nothing
pub dot-none : (xs ys : List ℤ) → ((k : ℕ) → at xs k ≡ pos 0) → dot xs ys ≡ pos 0
dot-none [] ys h = refl
dot-none (x ∷ xs) [] h = refl
dot-none (x ∷ xs) (y ∷ ys) h = rw (h 0, dot-none xs ys (λ k. h (suc k))) (ring 1 (λ y. (num (pos 0) ⊗ y ⊕ num (pos 0), num (pos 0))) refl y)

-- the numbers of a part that are all 0
at_part : (n : ℕ) (xs : List ℤ) → ((k : ℕ) → k < n → at xs k ≡ pos 0) → (k : ℕ) → at (take n xs) k ≡ pos 0
at_part zero xs h k = refl
at_part (suc n) [] h k = refl
at_part (suc n) (x ∷ xs) h zero = h 0 (omega arith)
at_part (suc n) (x ∷ xs) h (suc k) = at_part n xs (λ l lt. h (suc l) (omega arith)) k

pub dot-one : (xs : List ℤ) → dot xs (pos 1 ∷ []) ≡ at xs 0
dot-one [] = refl
dot-one (x ∷ []) = ring 1 (λ x. (x ⊗ num (pos 1) ⊕ num (pos 0), x)) refl x
dot-one (x ∷ (y ∷ xs)) = ring 1 (λ x. (x ⊗ num (pos 1) ⊕ num (pos 0), x)) refl x

-- a product with a list in two parts, the first of n numbers
pub dot_at : (n : ℕ) (C us vs : List ℤ) → length us ≡ n → dot C (us ++ vs) ≡ dot (take n C) us +ℤ dot (drop n C) vs
dot_at n C us vs e = dot-split C us vs ∙ ap (λ k. dot (take k C) us +ℤ dot (drop k C) vs) e

module _ (p made : ℕ) (few : p ≤ 4) (new : made ≤ 5) (C : List ℤ) (u : Uses p made C) (a b c d : List ℤ) (la : length a ≡ p) (lb : length b ≡ 4 - p) (lc : length c ≡ made) (ld : length d ≡ 5 - made) where
  first-free : (k : ℕ) → at (take (4 - p) (drop p C)) k ≡ pos 0
  first-free = at_part (4 - p) (drop p C) (λ k lt. get_or-drop p C k (pos 0) ∙ u.free (p + k) (inl (omega arith, omega arith)))

  second-free : (k : ℕ) → at (take (5 - made) (drop (4 + made) C)) k ≡ pos 0
  second-free = at_part (5 - made) (drop (4 + made) C) (λ k lt. get_or-drop (4 + made) C k (pos 0) ∙ u.free (4 + made + k) (inr (omega arith, omega arith)))

  -- the value of the form at the whole setting
  whole-value : value_at C (a ++ (b ++ (c ++ d))) ≡ dot (take p C) a +ℤ (dot (take made (drop 4 C)) c +ℤ at C 9)
  whole-value =
      let one : List ℤ = pos 1 ∷ [] in
      let e1 : (a ++ (b ++ (c ++ d))) ++ one ≡ a ++ (b ++ (c ++ (d ++ one))) = append_assoc a (b ++ (c ++ d)) one ∙ ap (λ (t : List ℤ). a ++ t) (append_assoc b (c ++ d) one ∙ ap (λ (t : List ℤ). b ++ t) (append_assoc c d one)) in
      let e2 = dot_at p C a (b ++ (c ++ (d ++ one))) la in
      let e3 = dot_at (4 - p) (drop p C) b (c ++ (d ++ one)) lb in
      let n4 : p + (4 - p) ≡ 4 = omega arith in
      let d4 : drop (4 - p) (drop p C) ≡ drop 4 C = drop-drop (4 - p) p C ∙ ap (λ k. drop k C) n4 in
      let e4 = dot_at made (drop 4 C) c (d ++ one) lc in
      let dm : drop made (drop 4 C) ≡ drop (4 + made) C = drop-drop made 4 C in
      let e5 = dot_at (5 - made) (drop (4 + made) C) d one ld in
      let n9 : 4 + made + (5 - made) ≡ 9 = omega arith in
      let d9 : drop (5 - made) (drop (4 + made) C) ≡ drop 9 C = drop-drop (5 - made) (4 + made) C ∙ ap (λ k. drop k C) n9 in
      let last : dot (drop 9 C) one ≡ at C 9 = dot-one (drop 9 C) ∙ get_or-drop 9 C 0 (pos 0) in
      ap (dot C) e1 ∙ e2 ∙ ap (λ v. dot (take p C) a +ℤ v)
      (e3 ∙ rw (dot-none (take (4 - p) (drop p C)) b first-free, d4) (zero_left _ ∙ e4 ∙ ap (λ v. dot (take made (drop 4 C)) c +ℤ v) (rw dm (e5 ∙ rw (dot-none (take (5 - made) (drop (4 + made) C)) d second-free, d9) (zero_left _ ∙ last)))))
    where
      zero_left : (v : ℤ) → pos 0 +ℤ v ≡ v
      zero_left = ring 1 (λ v. (num (pos 0) ⊕ v, v)) refl

  -- and that of its row at the places in use
  row-value : dot (test_row p made C).coefs (a ++ c) ≡ dot (take p C) a +ℤ dot (take made (drop 4 C)) c
  row-value =
      let l : length (take p C) ≡ length a = length-take-le p C (omega (arith, u.ten)) ∙ sym la in
      let k = 9 - (p + made) in
      dot-append (take p C) (take made (drop 4 C) ++ zeros k) a c l ∙ ap (λ v. dot (take p C) a +ℤ v) (dot-comm (take made (drop 4 C) ++ zeros k) c ∙ dot-padded c (take made (drop 4 C)) k ∙ dot-comm c (take made (drop 4 C)))

  constant-value : value_at (test_row p made C).form (zeros 9) ≡ at C 9
  constant-value =
      value-constant (zeros 10) (zeros 9) (at C 9) refl (omega arith)
      ∙ rw (dot-comm (zeros 10) (zeros 9 ++ (pos 1 ∷ [])) ∙ dot-zeros 10 (zeros 9 ++ (pos 1 ∷ []))) (ring 1 (λ c. (num (pos 0) ⊕ (c ⊖ num (pos 0)), c)) refl (at C 9))

  pub gathered : dot (test_row p made C).coefs (a ++ c) +ℤ value_at (test_row p made C).form (zeros 9) ≡ value_at C (a ++ (b ++ (c ++ d)))
  gathered = rw (row-value, constant-value, whole-value) (ring 3 (λ x y z. ((x ⊕ y) ⊕ z, x ⊕ (y ⊕ z))) refl (dot (take p C) a) (dot (take made (drop 4 C)) c) (at C 9))
