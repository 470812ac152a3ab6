-- Which point precedes which.
use Rattle.std.proofs.Common.{◌≡◌, ℕ, ◌<◌, ◌≤◌, ◌⊎◌, List, [], ◌∷◌, map, length, pos, ◌<ℤ◌, sym, refl, ◌∙◌, inl, inr, arith}
use borrow.Author.Differences.{ints}
use Rattle.std.proofs.lemmas.Bool.{cases_lt}
use Rattle.source.specs.Systems.{Precedes}
use Rattle.algebra.specs.Laws.{LexPrecedes, PrecedesStrict, PrecedesTotal, PrecedesTransitive}
use Rattle.algebra.specs.Orders.{LexLe}

pub precedes-trans : PrecedesTransitive
precedes-trans [] ys zs p q = absurd p
precedes-trans (x ∷ xs) [] zs p q = absurd p
precedes-trans (x ∷ xs) (y ∷ ys) [] p q = absurd q
precedes-trans (x ∷ xs) (y ∷ ys) (z ∷ zs) p q = go (precedes-trans xs ys zs) p q
  where
    go : (Precedes xs ys → Precedes ys zs → Precedes xs zs) → Precedes (x ∷ xs) (y ∷ ys) → Precedes (y ∷ ys) (z ∷ zs) → Precedes (x ∷ xs) (z ∷ zs)
    go ih (inl a) (inl b) = inl (omega arith)
    go ih (inl a) (inr b) = inl (omega (arith, b.0))
    go ih (inr a) (inl b) = inl (omega (arith, a.0))
    go ih (inr a) (inr b) = inr (a.0 ∙ b.0, ih a.1 b.1)

pub precedes-strict : PrecedesStrict
precedes-strict [] p = p
precedes-strict (x ∷ xs) (inl a) = omega arith
precedes-strict (x ∷ xs) (inr a) = precedes-strict xs a.1

pub precedes-total : PrecedesTotal
precedes-total [] [] e = inr (inl refl)
precedes-total [] (y ∷ ys) e = absurd (let no : ⊥ = omega arith in no)
precedes-total (x ∷ xs) [] e = absurd (let no : ⊥ = omega arith in no)
precedes-total (x ∷ xs) (y ∷ ys) e = go (precedes-total xs ys (omega arith)) (cases_lt x y) (cases_lt y x)
  where
    same : y ≤ x → x ≤ y → x ≡ y
    same h k = omega arith

    cons : x ≡ y → xs ≡ ys → (x ∷ xs) ≡ (y ∷ ys)
    cons h k = λ i. h i ∷ k i

    go : Precedes xs ys ⊎ ((xs ≡ ys) ⊎ Precedes ys xs) → (x < y) ⊎ (y ≤ x) → (y < x) ⊎ (x ≤ y) → Precedes (x ∷ xs) (y ∷ ys) ⊎ (((x ∷ xs) ≡ (y ∷ ys)) ⊎ Precedes (y ∷ ys) (x ∷ xs))
    go r (inl h) k = inl (inl h)
    go r (inr h) (inl k) = inr (inr (inl k))
    go (inl r) (inr h) (inr k) = inl (inr (same h k, r))
    go (inr (inl r)) (inr h) (inr k) = inr (inl (cons (same h k) r))
    go (inr (inr r)) (inr h) (inr k) = inr (inr (inr (sym (same h k), r)))

-- ---- and the lexicographic order of the same points as whole numbers
less : (x y : ℕ) → pos x <ℤ pos y → x < y
less x y h = omega (arith, ints)

same : (x y : ℕ) → pos x ≡ pos y → x ≡ y
same x y h = omega (arith, ints)

pub lex-precedes : LexPrecedes
lex-precedes [] [] h = inl refl
lex-precedes [] (y ∷ ys) h = absurd h
lex-precedes (x ∷ xs) [] h = absurd h
lex-precedes (x ∷ xs) (y ∷ ys) (inl a) = inr (inl (less x y a))
lex-precedes (x ∷ xs) (y ∷ ys) (inr a) = go (same x y a.0) (lex-precedes xs ys a.1)
  where
    go : x ≡ y → (xs ≡ ys) ⊎ Precedes xs ys → ((x ∷ xs) ≡ (y ∷ ys)) ⊎ Precedes (x ∷ xs) (y ∷ ys)
    go e (inl r) = inl (λ i. e i ∷ r i)
    go e (inr r) = inr (inr (e, r))

pub precedes-lex : (xs ys : List ℕ) → length xs ≡ length ys → Precedes xs ys → LexLe (map pos xs) (map pos ys)
precedes-lex [] ys e p = absurd p
precedes-lex (x ∷ xs) [] e p = absurd p
precedes-lex (x ∷ xs) (y ∷ ys) e (inl a) = inl (omega (arith, ints))
precedes-lex (x ∷ xs) (y ∷ ys) e (inr a) = inr (omega (arith, ints, a.0), precedes-lex xs ys (omega arith) a.1)
