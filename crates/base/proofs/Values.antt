-- The value of a form, summed from the constant on.
use Rattle.std.proofs.Common.{◌≡◌, ℕ, suc, ◌+◌, ◌<◌, ◌≤◌, ◌⊎◌, inl, inr, List, [], ◌∷◌, length, drop, ℤ, pos, ◌+ℤ◌, ◌*ℤ◌, refl, nat_abs, ap, ◌∙◌, subst, arith}
use lib.IntN.{*ℤ-one}
use Rattle.std.proofs.lemmas.List.{drop_all, drop_more}
use Rattle.std.proofs.lemmas.Int.{ints}
use Rattle.base.specs.Numbers.{AllWithin, at}
use Rattle.base.specs.Forms.{dot, value_at}

pub constant-first : (C ρ : List ℤ) → length C ≡ suc (length ρ) → value_at C ρ ≡ at C (length ρ) +ℤ dot C ρ
constant-first [] ρ e = absurd (let no : ⊥ = omega arith in no)
constant-first (c ∷ []) [] e = let o = *ℤ-one c in omega (arith, ints, o)
constant-first (c ∷ (x ∷ xs)) [] e = absurd (let no : ⊥ = omega arith in no)
constant-first (c ∷ C) (r ∷ ρ) e = let h = constant-first C ρ (omega arith) in omega (arith, ints, h)

pub value-is : (C ρ : List ℤ) → length C ≡ 10 → length ρ ≡ 9 → value_at C ρ ≡ at C 9 +ℤ dot C ρ
value-is C ρ e f = constant-first C ρ (omega arith) ∙ ap (λ n. at C n +ℤ dot C ρ) f

-- one product more
pub dot-more : (C ρ : List ℤ) (k : ℕ) → k < length C → k < length ρ → dot (drop k C) (drop k ρ) ≡ (at C k *ℤ at ρ k) +ℤ dot (drop (k + 1) C) (drop (k + 1) ρ)
dot-more C ρ k h l = rw (drop_more C k (pos 0) h, drop_more ρ k (pos 0) l)

pub dot-nil : (C : List ℤ) → dot C [] ≡ pos 0
dot-nil [] = refl
dot-nil (x ∷ xs) = refl

-- past the end there is nothing to add
pub dot-past : (C ρ : List ℤ) (k : ℕ) → length ρ ≤ k → dot C (drop k ρ) ≡ pos 0
dot-past C ρ k h = ap (dot C) (drop_all k ρ h) ∙ dot-nil C

-- where one of the lists is at its end there is nothing to add
pub dot-end : (C ρ : List ℤ) → (length C ≡ 0) ⊎ (length ρ ≡ 0) → dot C ρ ≡ pos 0
dot-end [] ρ h = refl
dot-end (c ∷ C) [] h = refl
dot-end (c ∷ C) (r ∷ ρ) (inl e) = absurd (let no : ⊥ = omega arith in no)
dot-end (c ∷ C) (r ∷ ρ) (inr e) = absurd (let no : ⊥ = omega arith in no)

-- of a list of small numbers the first is small, and so are the others
pub first-within : (m : ℕ) (x : ℤ) (xs all : List ℤ) → all ≡ x ∷ xs → AllWithin m all → (nat_abs x ≤ m) × AllWithin m xs
first-within m x xs all e a = (subst (λ l. nat_abs (at l 0) ≤ m) e (a 0), λ k. subst (λ l. nat_abs (at l (suc k)) ≤ m) e (a (suc k)))
