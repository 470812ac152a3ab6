-- Values of forms where one parameter changes.
use Rattle.std.proofs.Common.{◌≡◌, ℕ, zero, suc, ◌<◌, true, List, [], ◌∷◌, ◌++◌, map, length, take, set, ℤ, pos, ◌+ℤ◌, ◌-ℤ◌, ◌*ℤ◌, neg_ℤ, sym, refl, ap, ◌∙◌, arith, get_or-set_same}
use Rattle.std.proofs.lemmas.List.{length-map}
use Rattle.std.proofs.lemmas.Bool.{and_parts}
use Rattle.base.specs.Numbers.{all_zero, at, is_zero}
use Rattle.base.specs.Forms.{opposite, value_at}
use Rattle.base.proofs.Zeros.{is_zero-is}
use Rattle.tableau.specs.declared.table.Row.{Row}
use Rattle.algebra.proofs.Ring.{◌⊕◌, ◌⊖◌, ◌⊗◌, num, ring, ⊝◌}
use Rattle.algebra.proofs.Dots.{at-negs, dot-negs, dot-set, set-dot}
use Rattle.tableau_laws.specs.Lines.{Unused, under}

-- ---- the setting with its 1 at the end
pub set_snoc : (ρ : List ℤ) (k : ℕ) (v : ℤ) → k < length ρ → set ρ k v ++ (pos 1 ∷ []) ≡ set (ρ ++ (pos 1 ∷ [])) k v
set_snoc [] k v h = absurd (let no : ⊥ = omega arith in no)
set_snoc (x ∷ ρ) zero v h = refl
set_snoc (x ∷ ρ) (suc k) v h = ap (λ (t : List ℤ). x ∷ t) (set_snoc ρ k v (omega arith))

pub length-snoc : (ρ : List ℤ) → length (ρ ++ (pos 1 ∷ [])) ≡ suc (length ρ)
length-snoc [] = refl
length-snoc (x ∷ ρ) = ap suc (length-snoc ρ)

pub at_snoc : (ρ : List ℤ) → at (ρ ++ (pos 1 ∷ [])) (length ρ) ≡ pos 1
at_snoc [] = refl
at_snoc (x ∷ ρ) = at_snoc ρ

-- ---- a place that a form does not use
pub value-unused : (C ρ : List ℤ) (q : ℕ) (v : ℤ) → at C q ≡ pos 0 → q < length ρ → value_at C (set ρ q v) ≡ value_at C ρ
value-unused C ρ q v e h =
    rw (set_snoc ρ q v h, dot-set C (ρ ++ (pos 1 ∷ [])) q v (omega (arith, length-snoc ρ)), e)
    (ring 3 (λ D v w. (D ⊕ num (pos 0) ⊗ (v ⊖ w), D)) refl (value_at C ρ) v (at (ρ ++ (pos 1 ∷ [])) q))

-- and then uses, with the factor w
pub value-used : (C ρ : List ℤ) (q : ℕ) (w v : ℤ) → at C q ≡ pos 0 → q < length C → q < length ρ → value_at (set C q w) (set ρ q v) ≡ value_at C ρ +ℤ w *ℤ v
value-used C ρ q w v e hc h =
    let l : q < length (ρ ++ (pos 1 ∷ [])) = omega (arith, length-snoc ρ) in
    set-dot C (set ρ q v ++ (pos 1 ∷ [])) q w hc
    ∙ rw (value-unused C ρ q v e h, e, set_snoc ρ q v h, get_or-set_same (ρ ++ (pos 1 ∷ [])) q v (pos 0) l) (ring 3 (λ D w v. (D ⊕ (w ⊖ num (pos 0)) ⊗ v, D ⊕ w ⊗ v)) refl (value_at C ρ) w v)

-- another constant
pub value-constant : (C ρ : List ℤ) (w : ℤ) → length ρ ≡ 9 → 9 < length C → value_at (set C 9 w) ρ ≡ value_at C ρ +ℤ (w -ℤ at C 9)
value-constant C ρ w n h =
    set-dot C (ρ ++ (pos 1 ∷ [])) 9 w h
    ∙ rw (sym (ap (λ k. at (ρ ++ (pos 1 ∷ [])) k) n) ∙ at_snoc ρ) (ring 3 (λ D w c. (D ⊕ (w ⊖ c) ⊗ num (pos 1), D ⊕ (w ⊖ c))) refl (value_at C ρ) w (at C 9))

-- the opposite of a form is -C - 1
pub value-opposite : (C ρ : List ℤ) → length C ≡ 10 → length ρ ≡ 9 → value_at (opposite C) ρ ≡ neg_ℤ (value_at C ρ) -ℤ pos 1
value-opposite C ρ e n =
    value-constant (map neg_ℤ C) ρ (neg_ℤ (at C 9) -ℤ pos 1) n (omega (arith, length-map C neg_ℤ))
    ∙ rw (dot-negs C (ρ ++ (pos 1 ∷ [])), at-negs C 9) (ring 2 (λ D c. (⊝ D ⊕ ((⊝ c ⊖ num (pos 1)) ⊖ ⊝ c), ⊝ D ⊖ num (pos 1))) refl (value_at C ρ) (at C 9))

-- rows that do not use the place are the same lines
pub lines-unused : (ρ : List ℤ) (q : ℕ) (v : ℤ) (rs : List Row) → Unused q rs → q < length ρ → map (under (set ρ q v)) rs ≡ map (under ρ) rs
lines-unused ρ q v [] u h = refl
lines-unused ρ q v (r ∷ rs) u h = λ k. record { coefs = r.coefs; constant = value-unused r.form ρ q v u.0 h k; div = r.div } ∷ lines-unused ρ q v rs u.1 h k

-- ---- a form that names no parameter
pub value_none : (C ρ : List ℤ) → length C ≡ suc (length ρ) → all_zero (take (length ρ) C) ≡ true → value_at C ρ ≡ at C (length ρ)
value_none [] ρ e c = absurd (let no : ⊥ = omega arith in no)
value_none (x ∷ []) [] e c = ring 1 (λ x. (x ⊗ num (pos 1) ⊕ num (pos 0), x)) refl x
value_none (x ∷ (y ∷ C)) [] e c = absurd (let no : ⊥ = omega arith in no)
value_none (x ∷ C) (z ∷ ρ) e c =
    let p = and_parts (is_zero x) (all_zero (take (length ρ) C)) c in
    rw (is_zero-is x p.0, value_none C ρ (omega arith) p.1) (ring 2 (λ z v. (num (pos 0) ⊗ z ⊕ v, v)) refl z (at C (length ρ)))
