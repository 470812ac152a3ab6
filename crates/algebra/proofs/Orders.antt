-- Orders of ℤ from hypotheses, each with its factor, by one ring equation that computes.
use Rattle.std.proofs.Common.{◌≡◌, ℕ, zero, suc, List, [], ℤ, pos, ◌-ℤ◌, ◌*ℤ◌, ◌≤ℤ◌, sym, ap, ◌∙◌, arith}
use borrow.Author.Differences.{ints}
use lib.IntN.{*ℤ-zero}
use Rattle.algebra.proofs.Integers.{nonneg-mul}
use Rattle.algebra.proofs.Polynomials.{Poly, eval_p, nil, term, unit}
use Rattle.algebra.proofs.Ring.{Expr, ◌⊖◌, ◌⊗◌, eval, norm, norm-is, num, snoc, var}

-- `goal_le l r` is l ≤ r, `given_le f p q k` is p ≤ q → k with f a natural number, `given_is f p q k` is p ≡ q → k.
-- The proof: r - l is the sum of the f·(q - p), and a natural number that is left
pub data Order : Type 0 where
  goal_le : Expr → Expr → Order
  given_le : ℕ → Expr → Expr → Order → Order
  given_is : Expr → Expr → Expr → Order → Order

abbrev pub MeansO : List ℤ → Order → Type 0
MeansO ρ (goal_le l r) = eval ρ l ≤ℤ eval ρ r
MeansO ρ (given_le f p q k) = eval ρ p ≤ℤ eval ρ q → MeansO ρ k
MeansO ρ (given_is f p q k) = eval ρ p ≡ eval ρ q → MeansO ρ k

abbrev pub residue_o : Order → Expr
residue_o (goal_le l r) = r ⊖ l
residue_o (given_le f p q k) = residue_o k ⊖ num (pos f) ⊗ (q ⊖ p)
residue_o (given_is f p q k) = residue_o k ⊖ f ⊗ (p ⊖ q)

sound_o : (ρ : List ℤ) (k : Order) → pos 0 ≤ℤ eval ρ (residue_o k) → MeansO ρ k
sound_o ρ (goal_le l r) e = apart (eval ρ l) (eval ρ r) e
  where
    apart : (l r : ℤ) → pos 0 ≤ℤ (r -ℤ l) → l ≤ℤ r
    apart l r e = omega (arith, ints)
sound_o ρ (given_le f p q k) e = λ h. sound_o ρ k (drops (eval ρ (residue_o k)) (eval ρ p) (eval ρ q) h e)
  where
    more : (p q : ℤ) → p ≤ℤ q → pos 0 ≤ℤ (q -ℤ p)
    more p q h = omega (arith, ints)

    add : (r z : ℤ) → pos 0 ≤ℤ z → pos 0 ≤ℤ (r -ℤ z) → pos 0 ≤ℤ r
    add r z h e = omega (arith, ints)

    nat : pos 0 ≤ℤ pos f
    nat = omega (arith, ints)

    drops : (r p q : ℤ) → p ≤ℤ q → pos 0 ≤ℤ (r -ℤ pos f *ℤ (q -ℤ p)) → pos 0 ≤ℤ r
    drops r p q h e = add r (pos f *ℤ (q -ℤ p)) (nonneg-mul (pos f) (q -ℤ p) nat (more p q h)) e
sound_o ρ (given_is f p q k) e = λ h. sound_o ρ k (drops (eval ρ (residue_o k)) (eval ρ f) (eval ρ p) (eval ρ q) h e)
  where
    none : (p q : ℤ) → p ≡ q → p -ℤ q ≡ pos 0
    none p q h = omega (arith, ints)

    drops : (r f p q : ℤ) → p ≡ q → pos 0 ≤ℤ (r -ℤ f *ℤ (p -ℤ q)) → pos 0 ≤ℤ r
    drops r f p q h e = let z : f *ℤ (p -ℤ q) ≡ pos 0 = rw (none p q h, *ℤ-zero f) in apart r (f *ℤ (p -ℤ q)) z e
      where
        apart : (r z : ℤ) → z ≡ pos 0 → pos 0 ≤ℤ (r -ℤ z) → pos 0 ≤ℤ r
        apart r z h e = omega (arith, ints)

-- what may be left: a natural number
abbrev pub constant : ℕ → Poly
constant zero = nil
constant (suc n) = term (pos (suc n)) unit nil

constant-is : (ρ : List ℤ) (n : ℕ) → pos 0 ≤ℤ eval_p ρ (constant n)
constant-is ρ zero = omega (arith, ints)
constant-is ρ (suc n) = omega (arith, ints)

abbrev pub Orders : ℕ → Type 0
Orders zero = Order
Orders (suc n) = Expr → Orders n

abbrev pub order : (n : ℕ) → ℕ → Orders n → Order
order zero k f = f
order (suc n) k f = order n (suc k) (f (var k))

abbrev pub SaysO : ℕ → Order → List ℤ → Type 0
SaysO zero p ρ = MeansO ρ p
SaysO (suc n) p ρ = (x : ℤ) → SaysO n p (snoc ρ x)

says_o : (n m : ℕ) (p : Order) (ρ : List ℤ) → norm (residue_o p) ≡ constant m → SaysO n p ρ
says_o zero m p ρ e = sound_o ρ p (rw (sym (norm-is ρ (residue_o p)) ∙ ap (eval_p ρ) e) (constant-is ρ m))
says_o (suc n) m p ρ e = λ x. says_o n m p (snoc ρ x) e

-- m is the natural number that is left
pub order_from : (n m : ℕ) (f : Orders n) → norm (residue_o (order n 0 f)) ≡ constant m → SaysO n (order n 0 f) []
order_from n m f e = says_o n m (order n 0 f) [] e
