-- Equations of ℤ from hypotheses, each with its factor, by one ring equation that computes.
use Rattle.std.proofs.Common.{◌≡◌, ℕ, zero, suc, List, [], ℤ, pos, ◌-ℤ◌, ◌*ℤ◌, sym, ap, ◌∙◌, arith}
use borrow.Author.Differences.{ints}
use lib.IntN.{*ℤ-zero}
use Rattle.algebra.proofs.Polynomials.{eval_p, nil}
use Rattle.algebra.proofs.Ring.{Expr, ◌⊖◌, ◌⊗◌, eval, norm, norm-is, snoc, var}

-- `goal l r` is l ≡ r, `given f p q k` is p ≡ q → k. The proof: l - r is the sum of f·(p - q)
pub data Claim : Type 0 where
  goal : Expr → Expr → Claim
  given : Expr → Expr → Expr → Claim → Claim

abbrev pub Means : List ℤ → Claim → Type 0
Means ρ (goal l r) = eval ρ l ≡ eval ρ r
Means ρ (given f p q k) = eval ρ p ≡ eval ρ q → Means ρ k

abbrev pub residue : Claim → Expr
residue (goal l r) = l ⊖ r
residue (given f p q k) = residue k ⊖ f ⊗ (p ⊖ q)

sound : (ρ : List ℤ) (k : Claim) → eval ρ (residue k) ≡ pos 0 → Means ρ k
sound ρ (goal l r) e = apart (eval ρ l) (eval ρ r) e
  where
    apart : (l r : ℤ) → l -ℤ r ≡ pos 0 → l ≡ r
    apart l r e = omega (arith, ints)
sound ρ (given f p q k) e = λ h. sound ρ k (drops (eval ρ (residue k)) (eval ρ f) (eval ρ p) (eval ρ q) h e)
  where
    none : (p q : ℤ) → p ≡ q → p -ℤ q ≡ pos 0
    none p q h = omega (arith, ints)

    drops : (r f p q : ℤ) → p ≡ q → r -ℤ f *ℤ (p -ℤ q) ≡ pos 0 → r ≡ pos 0
    drops r f p q h e = let z : f *ℤ (p -ℤ q) ≡ pos 0 = rw (none p q h, *ℤ-zero f) in apart r (f *ℤ (p -ℤ q)) z e
      where
        apart : (r z : ℤ) → z ≡ pos 0 → r -ℤ z ≡ pos 0 → r ≡ pos 0
        apart r z h e = omega (arith, ints)

abbrev pub Claims : ℕ → Type 0
Claims zero = Claim
Claims (suc n) = Expr → Claims n

abbrev pub claim : (n : ℕ) → ℕ → Claims n → Claim
claim zero k f = f
claim (suc n) k f = claim n (suc k) (f (var k))

abbrev pub Says : ℕ → Claim → List ℤ → Type 0
Says zero p ρ = Means ρ p
Says (suc n) p ρ = (x : ℤ) → Says n p (snoc ρ x)

says : (n : ℕ) (p : Claim) (ρ : List ℤ) → norm (residue p) ≡ nil → Says n p ρ
says zero p ρ e = sound ρ p (sym (norm-is ρ (residue p)) ∙ ap (eval_p ρ) e)
says (suc n) p ρ e = λ x. says n p (snoc ρ x) e

pub ring-from : (n : ℕ) (f : Claims n) → norm (residue (claim n 0 f)) ≡ nil → Says n (claim n 0 f) []
ring-from n f e = says n (claim n 0 f) [] e
