-- Lexicographic order.
use Rattle.std.proofs.Common.{◌≡◌, zero, suc, ◌⊎◌, List, [], ◌∷◌, length, ℤ, pos, negsuc, ◌+ℤ◌, ◌*ℤ◌, ◌≤ℤ◌, ◌<ℤ◌, sym, refl, ◌∙◌, inl, inr, arith}
use borrow.Author.Differences.{ints}
use Rattle.std.proofs.lemmas.Int.{by_lt_z}
use Rattle.algebra.specs.Lists.{plus, scaled}
use Rattle.algebra.specs.Orders.{LexLe, LexNN}
use Rattle.base.proofs.Products.{mul-above}
use Rattle.algebra.proofs.Ring.{◌⊗◌, num, ring}

-- ---- lists that are lexicographically nonnegative: sums and multiples
pub lex-plus : (xs ys : List ℤ) → LexNN xs → LexNN ys → LexNN (plus xs ys)
lex-plus [] ys p q = tt
lex-plus (x ∷ xs) [] p q = tt
lex-plus (x ∷ xs) (y ∷ ys) p q = go (lex-plus xs ys) p q
  where
    go : (LexNN xs → LexNN ys → LexNN (plus xs ys)) → LexNN (x ∷ xs) → LexNN (y ∷ ys) → LexNN ((x +ℤ y) ∷ plus xs ys)
    go ih (inl a) (inl b) = inl (omega (arith, ints))
    go ih (inl a) (inr b) = inl (omega (arith, ints, b.0))
    go ih (inr a) (inl b) = inl (omega (arith, ints, a.0))
    go ih (inr a) (inr b) = inr (omega (arith, ints, a.0, b.0), ih a.1 b.1)

pub lex-none : (xs : List ℤ) → LexNN (scaled (pos 0) xs)
lex-none [] = tt
lex-none (x ∷ xs) = inr (ring 1 (λ x. (num (pos 0) ⊗ x, num (pos 0))) refl x, lex-none xs)

pub lex-above : (g : ℤ) (xs : List ℤ) → pos 0 <ℤ g → LexNN xs → LexNN (scaled g xs)
lex-above g [] h p = tt
lex-above g (x ∷ xs) h p = go (lex-above g xs h) p
  where
    go : (LexNN xs → LexNN (scaled g xs)) → LexNN (x ∷ xs) → LexNN ((g *ℤ x) ∷ scaled g xs)
    go ih (inl a) = inl (mul-above g x h a)
    go ih (inr a) = inr (rw a.0 (ring 1 (λ x. (x ⊗ num (pos 0), num (pos 0))) refl g), ih a.1)

pub lex-scaled : (g : ℤ) (xs : List ℤ) → pos 0 ≤ℤ g → LexNN xs → LexNN (scaled g xs)
lex-scaled (pos zero) xs h p = lex-none xs
lex-scaled (pos (suc n)) xs h p = lex-above (pos (suc n)) xs (omega (arith, ints)) p
lex-scaled (negsuc n) xs h p = absurd (let no : ⊥ = omega (arith, ints) in no)

-- ---- the order
pub lex-refl : (xs : List ℤ) → LexLe xs xs
lex-refl [] = tt
lex-refl (x ∷ xs) = inr (refl, lex-refl xs)

pub lex-trans : (xs ys zs : List ℤ) → LexLe xs ys → LexLe ys zs → LexLe xs zs
lex-trans [] [] zs p q = q
lex-trans [] (y ∷ ys) zs p q = absurd p
lex-trans (x ∷ xs) [] zs p q = absurd p
lex-trans (x ∷ xs) (y ∷ ys) [] p q = absurd q
lex-trans (x ∷ xs) (y ∷ ys) (z ∷ zs) p q = go (lex-trans xs ys zs) p q
  where
    go : (LexLe xs ys → LexLe ys zs → LexLe xs zs) → LexLe (x ∷ xs) (y ∷ ys) → LexLe (y ∷ ys) (z ∷ zs) → LexLe (x ∷ xs) (z ∷ zs)
    go ih (inl a) (inl b) = inl (omega (arith, ints))
    go ih (inl a) (inr b) = inl (omega (arith, ints, b.0))
    go ih (inr a) (inl b) = inl (omega (arith, ints, a.0))
    go ih (inr a) (inr b) = inr (a.0 ∙ b.0, ih a.1 b.1)

pub lex-total : (xs ys : List ℤ) → length xs ≡ length ys → LexLe xs ys ⊎ LexLe ys xs
lex-total [] [] e = inl tt
lex-total [] (y ∷ ys) e = absurd (let no : ⊥ = omega arith in no)
lex-total (x ∷ xs) [] e = absurd (let no : ⊥ = omega arith in no)
lex-total (x ∷ xs) (y ∷ ys) e = by_lt_z x y (λ h. inl (inl h)) (λ h. by_lt_z y x (λ k. inr (inl k)) (λ k. same (both h k) (lex-total xs ys (omega arith))))
  where
    both : y ≤ℤ x → x ≤ℤ y → x ≡ y
    both h k = omega (arith, ints)

    same : x ≡ y → LexLe xs ys ⊎ LexLe ys xs → LexLe (x ∷ xs) (y ∷ ys) ⊎ LexLe (y ∷ ys) (x ∷ xs)
    same e (inl r) = inl (inr (e, r))
    same e (inr r) = inr (inr (sym e, r))
