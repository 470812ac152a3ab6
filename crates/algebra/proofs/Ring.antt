-- Equations of the commutative ring ℤ, by a normal form that computes: `ring 2 (λ a b. (a ⊕ b, b ⊕ a)) refl` proves a + b = b + a.
use Rattle.std.proofs.Common.{◌≡◌, ℕ, zero, suc, List, [], ◌∷◌, ℤ, pos, negsuc, ◌+ℤ◌, ◌-ℤ◌, ◌*ℤ◌, neg_ℤ, sym, ap, ◌∙◌, arith}
use borrow.Author.Differences.{ints}
use lib.IntN.{+ℤ_idr}
use Rattle.base.specs.Numbers.{at}
use Rattle.algebra.proofs.Integers.{one-l}
use Rattle.algebra.proofs.Polynomials.{Poly, ◌·◌, add_p, add_p-is, eval_p, front, front-is, mul_p, mul_p-is, nil, scale, scale-is, term, unit}

infix 9 ⊝◌
infixl 6 ◌⊕◌ ◌⊖◌
infixl 7 ◌⊗◌
pub data Expr : Type 0 where
  var : ℕ → Expr
  num : ℤ → Expr
  ◌⊕◌ : Expr → Expr → Expr
  ◌⊖◌ : Expr → Expr → Expr
  ◌⊗◌ : Expr → Expr → Expr
  ⊝◌ : Expr → Expr

abbrev pub eval : List ℤ → Expr → ℤ
eval ρ (var n) = at ρ n
eval ρ (num z) = z
eval ρ (e ⊕ f) = eval ρ e +ℤ eval ρ f
eval ρ (e ⊖ f) = eval ρ e -ℤ eval ρ f
eval ρ (e ⊗ f) = eval ρ e *ℤ eval ρ f
eval ρ (⊝ e) = neg_ℤ (eval ρ e)

abbrev pub norm : Expr → Poly
norm (var x) = term (pos 1) (x · unit) nil
norm (num z) = front z unit nil
norm (e ⊕ f) = add_p (norm e) (norm f)
norm (e ⊖ f) = add_p (norm e) (scale (negsuc 0) unit (norm f))
norm (e ⊗ f) = mul_p (norm e) (norm f)
norm (⊝ e) = scale (negsuc 0) unit (norm e)

minus_one : (z : ℤ) → (negsuc 0 *ℤ pos 1) *ℤ z ≡ neg_ℤ z
minus_one z = omega (arith, ints)

one-r : (z : ℤ) → z *ℤ pos 1 ≡ z
one-r z = omega (arith, ints)

pub norm-is : (ρ : List ℤ) (e : Expr) → eval_p ρ (norm e) ≡ eval ρ e
norm-is ρ (var x) = +ℤ_idr (pos 1 *ℤ (at ρ x *ℤ pos 1)) ∙ one-l (at ρ x *ℤ pos 1) ∙ one-r (at ρ x)
norm-is ρ (num z) = front-is ρ z unit nil ∙ +ℤ_idr (z *ℤ pos 1) ∙ one-r z
norm-is ρ (e ⊕ f) = add_p-is ρ (norm e) (norm f) ∙ rw (norm-is ρ e, norm-is ρ f)
norm-is ρ (e ⊖ f) = add_p-is ρ (norm e) (scale (negsuc 0) unit (norm f)) ∙ rw (norm-is ρ e, scale-is ρ (negsuc 0) unit (norm f), minus_one (eval_p ρ (norm f)), norm-is ρ f)
norm-is ρ (e ⊗ f) = mul_p-is ρ (norm e) (norm f) ∙ rw (norm-is ρ e, norm-is ρ f)
norm-is ρ (⊝ e) = scale-is ρ (negsuc 0) unit (norm e) ∙ minus_one (eval_p ρ (norm e)) ∙ ap neg_ℤ (norm-is ρ e)

pub ring-eq : (ρ : List ℤ) (e f : Expr) → norm e ≡ norm f → eval ρ e ≡ eval ρ f
ring-eq ρ e f q = sym (norm-is ρ e) ∙ ap (eval_p ρ) q ∙ norm-is ρ f

-- the call with named variables: `ring 2 (λ a b. (a ⊕ b, b ⊕ a)) refl x y : x +ℤ y ≡ y +ℤ x`
abbrev pub Sides : ℕ → Type 0
Sides zero = Expr × Expr
Sides (suc n) = Expr → Sides n

abbrev pub sides : (n : ℕ) → ℕ → Sides n → Expr × Expr
sides zero k f = f
sides (suc n) k f = sides n (suc k) (f (var k))

abbrev pub snoc : List ℤ → ℤ → List ℤ
snoc [] x = x ∷ []
snoc (y ∷ ys) x = y ∷ snoc ys x

abbrev pub Holds : ℕ → Expr × Expr → List ℤ → Type 0
Holds zero p ρ = eval ρ p.0 ≡ eval ρ p.1
Holds (suc n) p ρ = (x : ℤ) → Holds n p (snoc ρ x)

holds : (n : ℕ) (p : Expr × Expr) (ρ : List ℤ) → norm p.0 ≡ norm p.1 → Holds n p ρ
holds zero p ρ e = ring-eq ρ p.0 p.1 e
holds (suc n) p ρ e = λ x. holds n p (snoc ρ x) e

pub ring : (n : ℕ) (f : Sides n) → norm (sides n 0 f).0 ≡ norm (sides n 0 f).1 → Holds n (sides n 0 f) []
ring n f e = holds n (sides n 0 f) [] e
