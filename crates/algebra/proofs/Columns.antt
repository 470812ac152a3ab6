-- Combinations of the columns of a matrix.
use Rattle.std.proofs.Common.{◌≡◌, ℕ, zero, suc, List, [], ◌∷◌, drop, ℤ, pos, ◌+ℤ◌, ◌*ℤ◌, refl, ap, ◌∙◌}
use lib.IntN.{zero-*ℤ}
use Rattle.base.specs.Numbers.{at}
use Rattle.base.specs.Forms.{dot}
use Rattle.algebra.specs.Lists.{NonNeg, column, plus, products, scaled}
use Rattle.algebra.specs.Orders.{LexNN}
use Rattle.algebra.specs.Laws.{ColumnsCombine}
use Rattle.base.proofs.Values.{dot-nil}
use Rattle.algebra.proofs.Lex.{lex-none, lex-plus, lex-scaled}
use Rattle.algebra.proofs.Ring.{◌⊕◌, ◌⊗◌, num, ring}

-- the columns from k on, weighted by y
abbrev sum : List (List ℤ) → List ℤ → ℕ → List ℤ
sum rows [] k = scaled (pos 0) (column rows k)
sum rows (y ∷ ys) k = plus (scaled y (column rows k)) (sum rows ys (suc k))

lex-sum : (rows : List (List ℤ)) (y : List ℤ) (k : ℕ) → NonNeg y → ((l : ℕ) → LexNN (column rows l)) → LexNN (sum rows y k)
lex-sum rows [] k n c = lex-none (column rows k)
lex-sum rows (y ∷ ys) k n c = lex-plus (scaled y (column rows k)) (sum rows ys (suc k)) (lex-scaled y (column rows k) n.0 (c k)) (lex-sum rows ys (suc k) n.1 c)

-- ---- the products of the rows are that sum
dot-from : (xs : List ℤ) (y : ℤ) (ys : List ℤ) (k : ℕ) → dot (drop k xs) (y ∷ ys) ≡ y *ℤ at xs k +ℤ dot (drop (suc k) xs) ys
dot-from [] y ys zero = ring 1 (λ y. (num (pos 0), y ⊗ num (pos 0) ⊕ num (pos 0))) refl y
dot-from [] y ys (suc k) = ring 1 (λ y. (num (pos 0), y ⊗ num (pos 0) ⊕ num (pos 0))) refl y
dot-from (x ∷ xs) y ys zero = ring 3 (λ x y r. (x ⊗ y ⊕ r, y ⊗ x ⊕ r)) refl x y (dot xs ys)
dot-from (x ∷ xs) y ys (suc k) = dot-from xs y ys k

abbrev products_from : List (List ℤ) → List ℤ → ℕ → List ℤ
products_from [] y k = []
products_from (r ∷ rows) y k = dot (drop k r) y ∷ products_from rows y k

products-more : (rows : List (List ℤ)) (y : ℤ) (ys : List ℤ) (k : ℕ) → products_from rows (y ∷ ys) k ≡ plus (scaled y (column rows k)) (products_from rows ys (suc k))
products-more [] y ys k = refl
products-more (r ∷ rows) y ys k = rw (dot-from r y ys k, products-more rows y ys k)

products-none : (rows : List (List ℤ)) (k : ℕ) → products_from rows [] k ≡ scaled (pos 0) (column rows k)
products-none [] k = refl
products-none (r ∷ rows) k = rw (products-none rows k, dot-nil (drop k r), zero-*ℤ (at r k))

products-sum : (rows : List (List ℤ)) (y : List ℤ) (k : ℕ) → products_from rows y k ≡ sum rows y k
products-sum rows [] k = products-none rows k
products-sum rows (y ∷ ys) k = products-more rows y ys k ∙ ap (plus (scaled y (column rows k))) (products-sum rows ys (suc k))

products-whole : (rows : List (List ℤ)) (y : List ℤ) → products rows y ≡ products_from rows y 0
products-whole [] y = refl
products-whole (r ∷ rows) y = ap (λ (t : List ℤ). dot r y ∷ t) (products-whole rows y)

pub columns-combine : ColumnsCombine
columns-combine rows y n c = rw (products-whole rows y, products-sum rows y 0) (lex-sum rows y 0 n c)
