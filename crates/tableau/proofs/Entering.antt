-- The entering column is the best of those above 0.
use Rattle.std.proofs.Common.{◌≡◌, ℕ, suc, ◌+◌, ◌<◌, ◌≤◌, Bool, true, false, cond, not, T, ◌⊎◌, List, [], ◌∷◌, length, ℤ, pos, ◌*ℤ◌, ◌≤ℤ◌, ◌<ℤ◌, Some, None, Option, sym, refl, ap, ◌∙◌, subst, inl, inr, add-zero, arith}
use native.Mathlib.Decide.{ℕ_discrete, dec_le}
use lib.Signed.{lt_z, lt_z_yes, lt_z_no, clash_ℤ}
use Rattle.std.proofs.lemmas.List.{get_or_past}
use Rattle.std.proofs.lemmas.Int.{by_lt_z, ints}
use Rattle.std.proofs.lemmas.Bool.{both_ways}
use Rattle.base.specs.Numbers.{at}
use Rattle.tableau.specs.declared.table.Row.{Row}
use Rattle.tableau.specs.Columns.{Beats, Enters, Ties, beats, better, entering, entering_from, first_less}
use Rattle.tableau.proofs.Searches.{less-same}
use Rattle.tableau.proofs.Integers.{mul-cancel, mul-le, mul-lt, mul-lt-cancel, mul-swap}

-- ---- the order of ratios v/a < u/p ≤ w/q, written in products, where a, p and q are above 0
before-le : (a p q v u w : ℤ) → pos 0 <ℤ a → pos 0 <ℤ p → pos 0 <ℤ q → (v *ℤ p) <ℤ (u *ℤ a) → (u *ℤ q) ≤ℤ (w *ℤ p) → (v *ℤ q) <ℤ (w *ℤ a)
before-le a p q v u w ha hp hq h k =
    mul-lt-cancel (v *ℤ q) (w *ℤ a) p hp (rw (mul-swap v q p, mul-swap w a p) (chain _ _ _ _ (mul-lt (v *ℤ p) (u *ℤ a) q hq h) (mul-swap u a q) (mul-le (u *ℤ q) (w *ℤ p) a ha k)))
  where
    chain : (s t t' r : ℤ) → s <ℤ t → t ≡ t' → t' ≤ℤ r → s <ℤ r
    chain s t t' r h e k = omega (arith, ints)

same-before : (a p q v u w : ℤ) → pos 0 <ℤ a → pos 0 <ℤ p → v *ℤ p ≡ u *ℤ a → (u *ℤ q) <ℤ (w *ℤ p) → (v *ℤ q) <ℤ (w *ℤ a)
same-before a p q v u w ha hp h k = mul-lt-cancel (v *ℤ q) (w *ℤ a) p hp (rw (mul-swap v q p, h, mul-swap u a q, mul-swap w a p) (mul-lt (u *ℤ q) (w *ℤ p) a ha k))

same-same : (a p q v u w : ℤ) → pos 0 <ℤ p → v *ℤ p ≡ u *ℤ a → u *ℤ q ≡ w *ℤ p → v *ℤ q ≡ w *ℤ a
same-same a p q v u w hp h k = mul-cancel (v *ℤ q) (w *ℤ a) p hp (mul-swap v q p ∙ ap (λ z. z *ℤ q) h ∙ mul-swap u a q ∙ ap (λ z. z *ℤ a) k ∙ mul-swap w p a)

-- ---- `beats` as a relation
is-less : (x y : ℤ) → lt_z x y ≡ true → x <ℤ y
is-less x y e = lt_z_yes (subst T (sym e) tt)

not-less : (x y : ℤ) → lt_z x y ≡ false → y ≤ℤ x
not-less x y e = lt_z_no (subst (λ b. T (not b)) (sym e) tt)

less : (x y : ℤ) (rest : Bool) → x <ℤ y → first_less x y rest ≡ true
less x y rest h = grind (arith, ints)

more : (x y : ℤ) (rest : Bool) → y <ℤ x → first_less x y rest ≡ false
more x y rest h = grind (arith, ints)

abbrev pub Ahead : List Row → Row → ℕ → ℕ → Type 0
Ahead [] i j l = ⊥
Ahead (h ∷ hs) i j l =
    ((at h.coefs j *ℤ at i.coefs l) <ℤ (at h.coefs l *ℤ at i.coefs j))
    ⊎ ((at h.coefs j *ℤ at i.coefs l ≡ at h.coefs l *ℤ at i.coefs j) × Ahead hs i j l)

pub ahead-beats : (hs : List Row) (i : Row) (j l : ℕ) → Ahead hs i j l → beats hs i j l ≡ true
ahead-beats [] i j l a = absurd a
ahead-beats (h ∷ hs) i j l (inl a) = less _ _ _ a
ahead-beats (h ∷ hs) i j l (inr a) = less-same _ _ _ a.0 ∙ ahead-beats hs i j l a.1

-- either j is ahead, or l is, or they tie
pub which : (hs : List Row) (i : Row) (j l : ℕ) → ((beats hs i j l ≡ true) × Ahead hs i j l) ⊎ ((beats hs i j l ≡ false) × (Ahead hs i l j ⊎ Ties hs i l j))
which [] i j l = inr (refl, inr tt)
which (h ∷ hs) i j l = go _ _ (which hs i j l)
  where
    go : (x y : ℤ) → ((beats hs i j l ≡ true) × Ahead hs i j l) ⊎ ((beats hs i j l ≡ false) × (Ahead hs i l j ⊎ Ties hs i l j)) → ((first_less x y (beats hs i j l) ≡ true) × ((x <ℤ y) ⊎ ((x ≡ y) × Ahead hs i j l))) ⊎ ((first_less x y (beats hs i j l) ≡ false) × (((y <ℤ x) ⊎ ((y ≡ x) × Ahead hs i l j)) ⊎ ((y ≡ x) × Ties hs i l j)))
    go x y w = by_lt_z x y (λ lt. inl (less x y _ lt, inl lt)) (λ ge. by_lt_z y x (λ gt. inr (more x y _ gt, inl (inl gt))) (λ le. equal (both ge le) w))
      where
        both : y ≤ℤ x → x ≤ℤ y → x ≡ y
        both h k = omega (arith, ints)

        equal : x ≡ y → ((beats hs i j l ≡ true) × Ahead hs i j l) ⊎ ((beats hs i j l ≡ false) × (Ahead hs i l j ⊎ Ties hs i l j)) → ((first_less x y (beats hs i j l) ≡ true) × ((x <ℤ y) ⊎ ((x ≡ y) × Ahead hs i j l))) ⊎ ((first_less x y (beats hs i j l) ≡ false) × (((y <ℤ x) ⊎ ((y ≡ x) × Ahead hs i l j)) ⊎ ((y ≡ x) × Ties hs i l j)))
        equal e (inl a) = inl (less-same x y _ e ∙ a.0, inr (e, a.1))
        equal e (inr (b, inl a)) = inr (less-same x y _ e ∙ b, inl (inr (sym e, a)))
        equal e (inr (b, inr a)) = inr (less-same x y _ e ∙ b, inr (sym e, a))

pub ahead-trans : (hs : List Row) (i : Row) (j b l : ℕ) → pos 0 <ℤ at i.coefs j → pos 0 <ℤ at i.coefs b → pos 0 <ℤ at i.coefs l → Ahead hs i j b → Ahead hs i b l ⊎ Ties hs i b l → Ahead hs i j l
ahead-trans [] i j b l hj hb hl a k = absurd a
ahead-trans (h ∷ hs) i j b l hj hb hl (inl a) k = inl (before-le (at i.coefs j) (at i.coefs b) (at i.coefs l) (at h.coefs j) (at h.coefs b) (at h.coefs l) hj hb hl a (weak k))
  where
    lt-le : {x y : ℤ} → x <ℤ y → x ≤ℤ y
    lt-le {x} {y} h = omega (arith, ints)

    is_le : {x y : ℤ} → x ≡ y → x ≤ℤ y
    is_le {x} {y} h = omega (arith, ints)

    weak : Ahead (h ∷ hs) i b l ⊎ Ties (h ∷ hs) i b l → (at h.coefs b *ℤ at i.coefs l) ≤ℤ (at h.coefs l *ℤ at i.coefs b)
    weak (inl (inl k)) = lt-le k
    weak (inl (inr k)) = is_le k.0
    weak (inr k) = is_le k.0
ahead-trans (h ∷ hs) i j b l hj hb hl (inr a) (inl (inl k)) = inl (same-before (at i.coefs j) (at i.coefs b) (at i.coefs l) (at h.coefs j) (at h.coefs b) (at h.coefs l) hj hb a.0 k)
ahead-trans (h ∷ hs) i j b l hj hb hl (inr a) (inl (inr k)) = inr (
  same-same (at i.coefs j) (at i.coefs b) (at i.coefs l) (at h.coefs j) (at h.coefs b) (at h.coefs l) hb a.0 k.0,
  ahead-trans hs i j b l hj hb hl a.1 (inl k.1),
)
ahead-trans (h ∷ hs) i j b l hj hb hl (inr a) (inr k) = inr (
  same-same (at i.coefs j) (at i.coefs b) (at i.coefs l) (at h.coefs j) (at h.coefs b) (at h.coefs l) hb a.0 k.0,
  ahead-trans hs i j b l hj hb hl a.1 (inr k.1),
)

-- ---- the best of the columns before j
abbrev Best : List Row → Row → ℕ → Option ℕ → Type 0
Best hs i j None = (l : ℕ) → l < j → at i.coefs l ≤ℤ pos 0
Best hs i j (Some b) = (b < j) × (pos 0 <ℤ at i.coefs b) × ((l : ℕ) → l < j → (l ≡ b → ⊥) → pos 0 <ℤ at i.coefs l → Beats hs i b l)

-- a fact of each l below j, and of j, is one of each l below j + 1
upto : (P : ℕ → Type 0) (j : ℕ) → ((l : ℕ) → l < j → P l) → P j → (l : ℕ) → l < suc j → P l
upto P j h k l lt = elim (ℕ_discrete l j) [ yes e ↦ subst P (sym e) k | no ne ↦ h l (omega arith) ]

module _ (hs : List Row) (i : Row) where
  -- column j, above 0, against the best so far
  best-pick : (j b : ℕ) → pos 0 <ℤ at i.coefs j → Best hs i j (Some b) → Best hs i (suc j) (better hs i j (Some b))
  best-pick j b p h = go (which hs i j b)
    where
      C : ℕ → ℕ → Type 0
      C b l = (l ≡ b → ⊥) → pos 0 <ℤ at i.coefs l → Beats hs i b l

      weak : (l : ℕ) → Beats hs i b l → Ahead hs i b l ⊎ Ties hs i b l
      weak l (inl e) = beaten l e (which hs i b l)
        where
          beaten : (l : ℕ) → beats hs i b l ≡ true → ((beats hs i b l ≡ true) × Ahead hs i b l) ⊎ ((beats hs i b l ≡ false) × (Ahead hs i l b ⊎ Ties hs i l b)) → Ahead hs i b l ⊎ Ties hs i b l
          beaten l e (inl a) = inl a.1
          beaten l e (inr a) = absurd (both_ways (beats hs i b l) a.0 e)
      weak l (inr t) = inr t.0

      go : ((beats hs i j b ≡ true) × Ahead hs i j b) ⊎ ((beats hs i j b ≡ false) × (Ahead hs i b j ⊎ Ties hs i b j)) → Best hs i (suc j) (cond (beats hs i j b) (Some j) (Some b))
      go (inl a) = rw a.0 (
        omega arith,
        p,
        upto (C j) j (λ l lt ne q. inl (elim (ℕ_discrete l b) [ yes e ↦ subst (λ l. beats hs i j l ≡ true) (sym e) a.0 | no other ↦ ahead-beats hs i j l (ahead-trans hs i j b l p h.1 q a.1 (weak l (h.2 l lt other q))) ])) (λ ne q. absurd (ne refl)),
      )
      go (inr (e, a)) = rw e (omega (arith, h.0), h.1, upto (C b) j h.2 (λ ne q. after a))
        where
          after : Ahead hs i b j ⊎ Ties hs i b j → Beats hs i b j
          after (inl a) = inl (ahead-beats hs i b j a)
          after (inr t) = inr (t, h.0)

  best-step : (j : ℕ) (best : Option ℕ) → Best hs i j best → Best hs i (suc j) (cond (lt_z (pos 0) (at i.coefs j)) (better hs i j best) best)
  best-step j best h = go best h (lt_z (pos 0) (at i.coefs j)) refl
    where
      C : ℕ → ℕ → Type 0
      C b l = (l ≡ b → ⊥) → pos 0 <ℤ at i.coefs l → Beats hs i b l

      go : (best : Option ℕ) → Best hs i j best → (t : Bool) → lt_z (pos 0) (at i.coefs j) ≡ t → Best hs i (suc j) (cond t (better hs i j best) best)
      go None h true e = (omega arith, is-less _ _ e, upto (C j) j (λ l lt ne q. clash_ℤ q (h l lt)) (λ ne q. absurd (ne refl)))
      go None h false e = upto (λ l. at i.coefs l ≤ℤ pos 0) j h (not-less _ _ e)
      go (Some b) h true e = best-pick j b (is-less _ _ e) h
      go (Some b) h false e = (omega (arith, h.0), h.1, upto (C b) j h.2 (λ ne q. clash_ℤ q (not-less _ _ e)))

  best-from : (j : ℕ) (xs : List ℤ) (best : Option ℕ) → ((m : ℕ) → at xs m ≡ at i.coefs (j + m)) → Best hs i j best → Best hs i (j + length xs) (entering_from hs i j xs best)
  best-from j [] best e h = rw (add-zero j) h
  best-from j (x ∷ xs) best e h =
      let e0 : x ≡ at i.coefs j = rw (add-zero j) at (e 0) in
      let o : Option ℕ = cond (lt_z (pos 0) x) (better hs i j best) best in
      subst (λ k. Best hs i k (entering_from hs i (suc j) xs o)) (shift j (length xs))
      (best-from (suc j) xs o (λ m. e (suc m) ∙ ap (λ k. at i.coefs k) (sym (shift j m))) (rw e0 (best-step j best h)))
    where
      shift : (j m : ℕ) → suc j + m ≡ j + suc m
      shift j m = omega arith

  pub enters : length i.coefs ≡ 9 → Enters hs i (entering hs i)
  enters n = go (entering hs i) (subst (λ k. Best hs i k (entering hs i)) (plus (length i.coefs) n) (best-from 0 i.coefs None (λ m. ap (λ k. at i.coefs k) (sym (plus m refl))) (λ l lt. absurd (let no : ⊥ = omega arith in no))))
    where
      plus : {k : ℕ} (n : ℕ) → n ≡ k → 0 + n ≡ k
      plus {k} n e = omega arith

      past : (l : ℕ) → 9 ≤ l → at i.coefs l ≡ pos 0
      past l h = get_or_past i.coefs l (pos 0) (omega (arith, n))

      is_le : {x : ℤ} → x ≡ pos 0 → x ≤ℤ pos 0
      is_le {x} e = omega (arith, ints)

      go : (r : Option ℕ) → Best hs i 9 r → Enters hs i r
      go None h = λ l. elim (dec_le (suc l) 9) [ yes lt ↦ h l lt | no ge ↦ is_le (past l (omega arith)) ]
      go (Some b) h = (h.0, h.1, λ l ne q. elim (dec_le (suc l) 9) [ yes lt ↦ h.2 l lt ne q | no ge ↦ clash_ℤ q (is_le (past l (omega arith))) ])
