-- Columns after a pivot stay lexicographically nonnegative.
use Rattle.std.proofs.Common.{◌≡◌, ℕ, zero, suc, ◌<◌, true, false, ◌⊎◌, List, [], ◌∷◌, map, length, ℤ, pos, negsuc, ◌+ℤ◌, ◌-ℤ◌, ◌*ℤ◌, neg_ℤ, ◌≤ℤ◌, ◌<ℤ◌, sym, refl, ap, ◌∙◌, inl, inr, arith, get_or-set_other, get_or-set_same}
use native.Mathlib.Decide.{ℕ_discrete}
use borrow.Author.Differences.{ints}
use lib.IntN.{*ℤ-zero}
use Rattle.std.proofs.lemmas.Bool.{both_ways}
use Rattle.base.specs.Numbers.{at}
use Rattle.tableau.specs.declared.table.Row.{Row}
use Rattle.tableau.specs.Rows.{combined, gcd_of, lowest, pivoted, turned}
use Rattle.tableau.specs.Columns.{Beats, Ties, beats}
use Rattle.tableau.proofs.Combined.{length-combined}
use Rattle.tableau.proofs.Entering.{Ahead, which}
use Rattle.tableau.proofs.Lowest.{lowest-times}
use Rattle.base.proofs.Products.{mul-above}
use Rattle.algebra.specs.Lists.{column, plus, scaled}
use Rattle.algebra.specs.Orders.{LexNN}
use Rattle.algebra.proofs.Integers.{cancel-l, lt-mul-cancel}
use Rattle.algebra.proofs.Ring.{◌⊕◌, ◌⊖◌, ◌⊗◌, ring, ⊝◌}
use Rattle.algebra.proofs.Dots.{at_scaled, scaled-map}
use Rattle.algebra.proofs.Lex.{lex-above, lex-plus, lex-scaled}
use Rattle.tableau_laws.specs.Lines.{Above, Shaped, coefs_of, under}
use Rattle.tableau_laws.proofs.Lowest.{factor-above}
use Rattle.tableau_laws.proofs.Turns.{at-combined}

-- ---- number by number: each f is e times a number above 0
abbrev Lower : List ℤ → List ℤ → Type 0
Lower [] fs = Unit {0}
Lower (e ∷ es) [] = ⊥
Lower (e ∷ es) (f ∷ fs) = ((g : ℤ) × (pos 0 <ℤ g) × (g *ℤ e ≡ f)) × Lower es fs

lex-lower : (es fs : List ℤ) → Lower es fs → LexNN fs → LexNN es
lex-lower [] fs l p = tt
lex-lower (e ∷ es) [] l p = absurd l
lex-lower (e ∷ es) (f ∷ fs) l p = go (lex-lower es fs l.1) p
  where
    go : (LexNN fs → LexNN es) → LexNN (f ∷ fs) → LexNN (e ∷ es)
    go ih (inl h) = inl (lt-mul-cancel l.0.0 (pos 0) e l.0.1 (rw (*ℤ-zero l.0.0, l.0.2) h))
    go ih (inr h) = inr (cancel-l l.0.0 e (pos 0) l.0.1 (l.0.2 ∙ h.0 ∙ sym (*ℤ-zero l.0.0)), ih h.1)

-- ---- the numbers of a pivoted row
at-lowest : (r : Row) (l : ℕ) → pos (gcd_of r) *ℤ at (lowest r).coefs l ≡ at r.coefs l
at-lowest r l =
    let g = pos (gcd_of r) in
    sym (at_scaled g (lowest r).coefs l)
    ∙ ap (λ (t : List ℤ). at t l) (scaled-map g (lowest r).coefs)
    ∙ ap (λ (t : Row). at t.coefs l) (lowest-times r)

module _ (ρ : List ℤ) (i : Row) (j : ℕ) (lt : j < 9) (wide : length i.coefs ≡ 9) (above : pos 0 <ℤ at i.coefs j) where
  other_row : (h : Row) (l : ℕ) → (l ≡ j → ⊥) → length h.coefs ≡ 9 → at (turned i j h).coefs l ≡ at i.coefs j *ℤ at h.coefs l +ℤ neg_ℤ (at i.coefs l) *ℤ at h.coefs j
  other_row h l ne w =
      let a = at i.coefs j in
      let b = at h.coefs j in
      get_or-set_other (combined a b h.coefs i.coefs) j l (b *ℤ i.div) (pos 0) ne
      ∙ at-combined a b h.coefs i.coefs l (w ∙ sym wide)
      ∙ ring 4 (λ a h b p. (a ⊗ h ⊖ b ⊗ p, a ⊗ h ⊕ (⊝ p) ⊗ b)) refl a (at h.coefs l) b (at i.coefs l)

  own_row : (h : Row) → length h.coefs ≡ 9 → at (turned i j h).coefs j ≡ i.div *ℤ at h.coefs j
  own_row h w =
      let a = at i.coefs j in
      let b = at h.coefs j in
      get_or-set_same (combined a b h.coefs i.coefs) j (b *ℤ i.div) (pos 0) (omega (arith, length-combined a b h.coefs i.coefs (w ∙ sym wide)))
      ∙ ring 2 (λ b d. (b ⊗ d, d ⊗ b)) refl b i.div

  -- a times column l, less N_il times column j
  abbrev crossed_column : List Row → ℕ → List ℤ
  crossed_column rs l = plus (scaled (at i.coefs j) (column (coefs_of (map (under ρ) rs)) l)) (scaled (neg_ℤ (at i.coefs l)) (column (coefs_of (map (under ρ) rs)) j))

  -- it is column l after the pivot, but for a factor in each row
  lower-other : (rs : List Row) (l : ℕ) → (l ≡ j → ⊥) → Shaped rs → Above (map (under ρ) rs) → Lower (column (coefs_of (map (under ρ) (map (pivoted i j) rs))) l) (crossed_column rs l)
  lower-other [] l ne s d = tt
  lower-other (h ∷ rs) l ne s d =
      let t = turned i j h in
      ((pos (gcd_of t), factor-above t (mul-above (at i.coefs j) h.div above d.0), at-lowest t l ∙ other_row h l ne s.0), lower-other rs l ne s.2 d.1)

  lower-own : (rs : List Row) → Shaped rs → Above (map (under ρ) rs) → Lower (column (coefs_of (map (under ρ) (map (pivoted i j) rs))) j) (scaled i.div (column (coefs_of (map (under ρ) rs)) j))
  lower-own [] s d = tt
  lower-own (h ∷ rs) s d =
      let t = turned i j h in
      ((pos (gcd_of t), factor-above t (mul-above (at i.coefs j) h.div above d.0), at-lowest t j ∙ own_row h s.0), lower-own rs s.2 d.1)

  -- a column that j beats
  ahead-lex : (rs : List Row) (l : ℕ) → Ahead rs i j l ⊎ Ties rs i j l → LexNN (crossed_column rs l)
  ahead-lex [] l w = tt
  ahead-lex (h ∷ rs) l w = go (ahead-lex rs l) w
    where
      difference : (a x p y : ℤ) → a *ℤ x +ℤ neg_ℤ p *ℤ y ≡ x *ℤ a -ℤ y *ℤ p
      difference = ring 4 (λ a x p y. (a ⊗ x ⊕ (⊝ p) ⊗ y, x ⊗ a ⊖ y ⊗ p)) refl

      less : (s t : ℤ) → t <ℤ s → pos 0 <ℤ (s -ℤ t)
      less s t h = omega (arith, ints)

      none : (s t : ℤ) → t ≡ s → s -ℤ t ≡ pos 0
      none s t e = omega (arith, ints)

      tie : at h.coefs j *ℤ at i.coefs l ≡ at h.coefs l *ℤ at i.coefs j → at i.coefs j *ℤ at h.coefs l +ℤ neg_ℤ (at i.coefs l) *ℤ at h.coefs j ≡ pos 0
      tie q = difference (at i.coefs j) (at h.coefs l) (at i.coefs l) (at h.coefs j) ∙ none (at h.coefs l *ℤ at i.coefs j) (at h.coefs j *ℤ at i.coefs l) q

      go : (Ahead rs i j l ⊎ Ties rs i j l → LexNN (crossed_column rs l)) → Ahead (h ∷ rs) i j l ⊎ Ties (h ∷ rs) i j l → LexNN (crossed_column (h ∷ rs) l)
      go ih (inl (inl q)) = inl (rw (difference (at i.coefs j) (at h.coefs l) (at i.coefs l) (at h.coefs j)) (less (at h.coefs l *ℤ at i.coefs j) (at h.coefs j *ℤ at i.coefs l) q))
      go ih (inl (inr q)) = inr (tie q.0, ih (inl q.1))
      go ih (inr q) = inr (tie q.0, ih (inr q.1))

  beats-ahead : (rs : List Row) (l : ℕ) → Beats rs i j l → Ahead rs i j l ⊎ Ties rs i j l
  beats-ahead rs l (inl e) = go e (which rs i j l)
    where
      go : beats rs i j l ≡ true → ((beats rs i j l ≡ true) × Ahead rs i j l) ⊎ ((beats rs i j l ≡ false) × (Ahead rs i l j ⊎ Ties rs i l j)) → Ahead rs i j l ⊎ Ties rs i j l
      go e (inl a) = inl a.1
      go e (inr a) = absurd (both_ways (beats rs i j l) a.0 e)
  beats-ahead rs l (inr t) = inr t.0

  -- the law: j beats each other column that is above 0 in row i
  pub lex-pivoted : (rs : List Row) → Shaped rs → Above (map (under ρ) rs) → pos 0 <ℤ i.div → ((l : ℕ) → LexNN (column (coefs_of (map (under ρ) rs)) l)) → ((l : ℕ) → (l ≡ j → ⊥) → pos 0 <ℤ at i.coefs l → Beats rs i j l) → (l : ℕ) → LexNN (column (coefs_of (map (under ρ) (map (pivoted i j) rs))) l)
  lex-pivoted rs s d pd lex best l = go (ℕ_discrete l j)
    where
      sign : (z : ℤ) → (pos 0 <ℤ z) ⊎ (pos 0 ≤ℤ neg_ℤ z)
      sign (pos zero) = inr (omega (arith, ints))
      sign (pos (suc n)) = inl (omega (arith, ints))
      sign (negsuc n) = inr (omega (arith, ints))

      other : (l ≡ j → ⊥) → (pos 0 <ℤ at i.coefs l) ⊎ (pos 0 ≤ℤ neg_ℤ (at i.coefs l)) → LexNN (crossed_column rs l)
      other ne (inl up) = ahead-lex rs l (beats-ahead rs l (best l ne up))
      other ne (inr dn) = lex-plus _ _ (lex-above (at i.coefs j) _ above (lex l)) (lex-scaled (neg_ℤ (at i.coefs l)) _ dn (lex j))

      go : Dec (l ≡ j) → LexNN (column (coefs_of (map (under ρ) (map (pivoted i j) rs))) l)
      go (yes e) = rw e (lex-lower _ _ (lower-own rs s d) (lex-above i.div _ pd (lex j)))
      go (no ne) = lex-lower _ _ (lower-other rs l ne s d) (other ne (sign (at i.coefs l)))
