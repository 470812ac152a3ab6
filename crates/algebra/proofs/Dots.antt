-- Products of lists: linear in each, and what a change at one place does.
use Rattle.std.proofs.Common.{◌≡◌, ℕ, zero, suc, ◌<◌, List, [], ◌∷◌, ◌++◌, map, length, take, drop, set, ℤ, pos, ◌+ℤ◌, ◌-ℤ◌, ◌*ℤ◌, neg_ℤ, sym, refl, ap, ◌∙◌, arith}
use Rattle.base.specs.Numbers.{at, zeros}
use Rattle.base.specs.Forms.{dot}
use Rattle.base.proofs.Values.{dot-nil}
use Rattle.algebra.specs.Lists.{plus, scaled}
use Rattle.algebra.specs.Laws.{DotLinear}
use Rattle.algebra.proofs.Ring.{◌⊕◌, ◌⊖◌, ◌⊗◌, num, ring, ⊝◌}

pub dot-comm : (xs ys : List ℤ) → dot xs ys ≡ dot ys xs
dot-comm [] ys = sym (dot-nil ys)
dot-comm (x ∷ xs) [] = refl
dot-comm (x ∷ xs) (y ∷ ys) = rw (dot-comm xs ys) (ring 3 (λ x y r. (x ⊗ y ⊕ r, y ⊗ x ⊕ r)) refl x y (dot ys xs))

-- ---- multiples
pub dot-scaled : (g : ℤ) (xs ys : List ℤ) → dot xs (scaled g ys) ≡ g *ℤ dot xs ys
dot-scaled g [] ys = ring 1 (λ g. (num (pos 0), g ⊗ num (pos 0))) refl g
dot-scaled g (x ∷ xs) [] = ring 1 (λ g. (num (pos 0), g ⊗ num (pos 0))) refl g
dot-scaled g (x ∷ xs) (y ∷ ys) = rw (dot-scaled g xs ys) (ring 4 (λ g x y r. (x ⊗ (g ⊗ y) ⊕ g ⊗ r, g ⊗ (x ⊗ y ⊕ r))) refl g x y (dot xs ys))

pub scaled-dot : (g : ℤ) (xs ys : List ℤ) → dot (scaled g xs) ys ≡ g *ℤ dot xs ys
scaled-dot g xs ys = dot-comm (scaled g xs) ys ∙ dot-scaled g ys xs ∙ ap (λ d. g *ℤ d) (dot-comm ys xs)

pub length-scaled : (g : ℤ) (xs : List ℤ) → length (scaled g xs) ≡ length xs
length-scaled g [] = refl
length-scaled g (x ∷ xs) = ap suc (length-scaled g xs)

pub at_scaled : (g : ℤ) (xs : List ℤ) (j : ℕ) → at (scaled g xs) j ≡ g *ℤ at xs j
at_scaled g [] j = ring 1 (λ g. (num (pos 0), g ⊗ num (pos 0))) refl g
at_scaled g (x ∷ xs) zero = refl
at_scaled g (x ∷ xs) (suc j) = at_scaled g xs j

pub scaled-map : (g : ℤ) (xs : List ℤ) → scaled g xs ≡ map (λ x. g *ℤ x) xs
scaled-map g [] = refl
scaled-map g (x ∷ xs) = ap (λ (t : List ℤ). (g *ℤ x) ∷ t) (scaled-map g xs)

pub times-dot : (g : ℤ) (xs ys : List ℤ) → dot (map (λ x. g *ℤ x) xs) ys ≡ g *ℤ dot xs ys
times-dot g xs ys = ap (λ (t : List ℤ). dot t ys) (sym (scaled-map g xs)) ∙ scaled-dot g xs ys

-- ---- sums
pub dot-plus : (xs ys zs : List ℤ) → length xs ≡ length ys → dot (plus xs ys) zs ≡ dot xs zs +ℤ dot ys zs
dot-plus [] [] zs h = refl
dot-plus [] (y ∷ ys) zs h = absurd (let no : ⊥ = omega arith in no)
dot-plus (x ∷ xs) [] zs h = absurd (let no : ⊥ = omega arith in no)
dot-plus (x ∷ xs) (y ∷ ys) [] h = refl
dot-plus (x ∷ xs) (y ∷ ys) (z ∷ zs) h =
    rw (dot-plus xs ys zs (omega arith)) (ring 5 (λ x y z p q. ((x ⊕ y) ⊗ z ⊕ (p ⊕ q), (x ⊗ z ⊕ p) ⊕ (y ⊗ z ⊕ q))) refl x y z (dot xs zs) (dot ys zs))

pub dot-linear : DotLinear
dot-linear a b xs ys zs e = dot-plus (scaled a xs) (scaled b ys) zs (length-scaled a xs ∙ e ∙ sym (length-scaled b ys)) ∙ rw (scaled-dot a xs zs, scaled-dot b ys zs)

pub dot-negs : (xs ys : List ℤ) → dot (map neg_ℤ xs) ys ≡ neg_ℤ (dot xs ys)
dot-negs [] ys = refl
dot-negs (x ∷ xs) [] = refl
dot-negs (x ∷ xs) (y ∷ ys) = rw (dot-negs xs ys) (ring 3 (λ x y r. ((⊝ x) ⊗ y ⊕ ⊝ r, ⊝ (x ⊗ y ⊕ r))) refl x y (dot xs ys))

pub at-negs : (xs : List ℤ) (k : ℕ) → at (map neg_ℤ xs) k ≡ neg_ℤ (at xs k)
at-negs [] k = refl
at-negs (x ∷ xs) zero = refl
at-negs (x ∷ xs) (suc k) = at-negs xs k

-- ---- a change at one place
pub dot-set : (xs ys : List ℤ) (j : ℕ) (v : ℤ) → j < length ys → dot xs (set ys j v) ≡ dot xs ys +ℤ at xs j *ℤ (v -ℤ at ys j)
dot-set xs [] j v h = absurd (let no : ⊥ = omega arith in no)
dot-set [] (y ∷ ys) zero v h = ring 2 (λ y v. (num (pos 0), num (pos 0) ⊕ num (pos 0) ⊗ (v ⊖ y))) refl y v
dot-set [] (y ∷ ys) (suc j) v h = ring 2 (λ y v. (num (pos 0), num (pos 0) ⊕ num (pos 0) ⊗ (v ⊖ y))) refl (at ys j) v
dot-set (x ∷ xs) (y ∷ ys) zero v h = ring 4 (λ x y v r. (x ⊗ v ⊕ r, x ⊗ y ⊕ r ⊕ x ⊗ (v ⊖ y))) refl x y v (dot xs ys)
dot-set (x ∷ xs) (y ∷ ys) (suc j) v h =
    rw (dot-set xs ys j v (omega arith))
    (ring 6 (λ x y v r p q. (x ⊗ y ⊕ (r ⊕ p ⊗ (v ⊖ q)), x ⊗ y ⊕ r ⊕ p ⊗ (v ⊖ q))) refl x y v (dot xs ys) (at xs j) (at ys j))

pub set-dot : (xs ys : List ℤ) (j : ℕ) (v : ℤ) → j < length xs → dot (set xs j v) ys ≡ dot xs ys +ℤ (v -ℤ at xs j) *ℤ at ys j
set-dot xs ys j v h =
    dot-comm (set xs j v) ys
    ∙ dot-set ys xs j v h
    ∙ rw (dot-comm ys xs) (ring 4 (λ r y v x. (r ⊕ y ⊗ (v ⊖ x), r ⊕ (v ⊖ x) ⊗ y)) refl (dot xs ys) (at ys j) v (at xs j))

-- ---- zeros, and lists one after the other
pub length-zeros : (n : ℕ) → length (zeros n) ≡ n
length-zeros zero = refl
length-zeros (suc n) = ap suc (length-zeros n)

pub dot-zeros : (n : ℕ) (xs : List ℤ) → dot xs (zeros n) ≡ pos 0
dot-zeros zero xs = dot-nil xs
dot-zeros (suc n) [] = refl
dot-zeros (suc n) (x ∷ xs) = rw (dot-zeros n xs) (ring 1 (λ x. (x ⊗ num (pos 0) ⊕ num (pos 0), num (pos 0))) refl x)

-- zeros at the end do not count
pub dot-padded : (xs ys : List ℤ) (n : ℕ) → dot xs (ys ++ zeros n) ≡ dot xs ys
dot-padded xs [] n = dot-zeros n xs ∙ sym (dot-nil xs)
dot-padded [] (y ∷ ys) n = refl
dot-padded (x ∷ xs) (y ∷ ys) n = ap (λ d. x *ℤ y +ℤ d) (dot-padded xs ys n)

pub dot-append : (xs ys us vs : List ℤ) → length xs ≡ length us → dot (xs ++ ys) (us ++ vs) ≡ dot xs us +ℤ dot ys vs
dot-append [] ys [] vs e = ring 1 (λ r. (r, num (pos 0) ⊕ r)) refl (dot ys vs)
dot-append [] ys (u ∷ us) vs e = absurd (let no : ⊥ = omega arith in no)
dot-append (x ∷ xs) ys [] vs e = absurd (let no : ⊥ = omega arith in no)
dot-append (x ∷ xs) ys (u ∷ us) vs e = rw (dot-append xs ys us vs (omega arith)) (ring 4 (λ x u p q. (x ⊗ u ⊕ (p ⊕ q), x ⊗ u ⊕ p ⊕ q)) refl x u (dot xs us) (dot ys vs))

-- a row over two lists, one after the other
pub dot-split : (xs us vs : List ℤ) → dot xs (us ++ vs) ≡ dot (take (length us) xs) us +ℤ dot (drop (length us) xs) vs
dot-split xs [] vs = ring 1 (λ r. (r, num (pos 0) ⊕ r)) refl (dot xs vs)
dot-split [] (u ∷ us) vs = refl
dot-split (x ∷ xs) (u ∷ us) vs = rw (dot-split xs us vs) (ring 4 (λ x u p q. (x ⊗ u ⊕ (p ⊕ q), x ⊗ u ⊕ p ⊕ q)) refl x u (dot (take (length us) xs) us) (dot (drop (length us) xs) vs))
