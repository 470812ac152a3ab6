-- A place that no form uses stays so.
use Rattle.std.proofs.Common.{◌≡◌, ℕ, zero, suc, ◌<◌, true, ◌≢◌, List, [], ◌∷◌, ◌++◌, map, length, set, ℤ, pos, ◌+ℤ◌, ◌-ℤ◌, neg_ℤ, nat_abs, Some, None, sym, refl, ap, ◌∙◌, subst, inl, inr, get_or-set_other}
use native.Mathlib.Nat.{zero-div, zero-mod}
use Rattle.base.specs.Numbers.{at, mod_by, quot_by}
use Rattle.base.specs.Forms.{opposite}
use Rattle.base.proofs.Zeros.{all_zero-take}
use Rattle.tableau.specs.declared.table.Row.{Row}
use Rattle.tableau.specs.Rows.{gcd_of, lowest, pivoted, turned}
use Rattle.tableau.specs.Cuts.{cut_form, cut_of, cut_row, is_constant, lower, upper}
use Rattle.algebra.proofs.Ring.{◌⊖◌, ◌⊗◌, num, ring}
use Rattle.algebra.proofs.Dots.{at-negs}
use Rattle.tableau_laws.specs.Lines.{In, Shaped, Unused}
use Rattle.tableau_laws.proofs.Turns.{at-combined}

pub unused-of : (q : ℕ) (r : Row) (rs : List Row) → In r rs → Unused q rs → at r.form q ≡ pos 0
unused-of q r [] i u = absurd i
unused-of q r (x ∷ rs) (inl e) u = subst (λ (t : Row). at t.form q ≡ pos 0) e u.0
unused-of q r (x ∷ rs) (inr i) u = unused-of q r rs i u.1

pub unused-more : (q : ℕ) (rs : List Row) (r : Row) → Unused q rs → at r.form q ≡ pos 0 → Unused q (rs ++ (r ∷ []))
unused-more q [] r u e = (e, tt)
unused-more q (x ∷ rs) r u e = (u.0, unused-more q rs r u.1 e)

-- ---- lowest terms and pivots
pub at-quots : (g : ℕ) (xs : List ℤ) (q : ℕ) → at xs q ≡ pos 0 → at (map (quot_by (pos g)) xs) q ≡ pos 0
at-quots g [] q e = refl
at-quots g (x ∷ xs) zero e = ap (quot_by (pos g)) e ∙ ap pos (zero-div g)
at-quots g (x ∷ xs) (suc q) e = at-quots g xs q e

pub lowest-unused : (q : ℕ) (r : Row) → at r.form q ≡ pos 0 → at (lowest r).form q ≡ pos 0
lowest-unused q r e = at-quots (gcd_of r) r.form q e

pub turned-unused : (q : ℕ) (i : Row) (j : ℕ) (h : Row) → length h.form ≡ length i.form → at i.form q ≡ pos 0 → at h.form q ≡ pos 0 → at (turned i j h).form q ≡ pos 0
turned-unused q i j h f ei eh =
    let a = at i.coefs j in
    let b = at h.coefs j in
    at-combined a b h.form i.form q f ∙ rw (eh, ei) (ring 2 (λ a b. (a ⊗ num (pos 0) ⊖ b ⊗ num (pos 0), num (pos 0))) refl a b)

pub pivoted-unused : (q : ℕ) (i : Row) (j : ℕ) (rs : List Row) → length i.form ≡ 10 → Shaped rs → at i.form q ≡ pos 0 → Unused q rs → Unused q (map (pivoted i j) rs)
pivoted-unused q i j [] f s e u = tt
pivoted-unused q i j (h ∷ rs) f s e u = (lowest-unused q (turned i j h) (turned-unused q i j h (s.1 ∙ sym f) e u.0), pivoted-unused q i j rs f s.2 e u.1)

-- ---- cuts
pub mod-unused : (d : ℤ) (C : List ℤ) (q : ℕ) → at C q ≡ pos 0 → at (map (mod_by d) (map neg_ℤ C)) q ≡ pos 0
mod-unused d [] q e = refl
mod-unused d (x ∷ C) zero e = ap (λ z. mod_by d (neg_ℤ z)) e ∙ ap pos (zero-mod (nat_abs d))
mod-unused d (x ∷ C) (suc q) e = mod-unused d C q e

pub negs-unused : (C : List ℤ) (q : ℕ) → at C q ≡ pos 0 → at (map neg_ℤ C) q ≡ pos 0
negs-unused C q e = at-negs C q ∙ ap neg_ℤ e

pub plain-unused : (q : ℕ) (r : Row) → at r.form q ≡ pos 0 → at (cut_row (cut_of r) None).form q ≡ pos 0
plain-unused q r e = lowest-unused q (record { coefs = (cut_of r).coefs; form = cut_form (cut_of r) None; div = r.div }) (negs-unused (cut_of r).form q (mod-unused r.div r.form q e))

-- where the new parameter is at the place p
pub new-unused : (q p : ℕ) (r : Row) → q ≢ p → at r.form q ≡ pos 0 → at (cut_row (cut_of r) (Some p)).form q ≡ pos 0
new-unused q p r ne e =
    lowest-unused q (record { coefs = (cut_of r).coefs; form = cut_form (cut_of r) (Some p); div = r.div })
    (get_or-set_other (map neg_ℤ (cut_of r).form) p q r.div (pos 0) ne ∙ negs-unused (cut_of r).form q (mod-unused r.div r.form q e))

pub lower-unused : (q p : ℕ) (r : Row) → q ≢ p → at r.form q ≡ pos 0 → at (lower (cut_of r) p) q ≡ pos 0
lower-unused q p r ne e = get_or-set_other (cut_of r).form p q (neg_ℤ r.div) (pos 0) ne ∙ mod-unused r.div r.form q e

pub upper-unused : (q p : ℕ) (r : Row) → q ≢ p → q ≢ 9 → at r.form q ≡ pos 0 → at (upper (cut_of r) p) q ≡ pos 0
upper-unused q p r ne last e =
    let T = (cut_of r).form in
    get_or-set_other (set (map neg_ℤ T) p r.div) 9 q (neg_ℤ (at T 9) +ℤ (r.div -ℤ pos 1)) (pos 0) last
    ∙ get_or-set_other (map neg_ℤ T) p q r.div (pos 0) ne
    ∙ negs-unused T q (mod-unused r.div r.form q e)

-- ---- a form that uses no place before n
-- so its cut needs no new parameter
pub constant-cut : (r : Row) → ((q : ℕ) → q < 9 → at r.form q ≡ pos 0) → is_constant (cut_of r) ≡ true
constant-cut r h = all_zero-take 9 (cut_of r).form (λ q lt. mod-unused r.div r.form q (h q lt))

-- ---- splits
pub opposite-unused : (q : ℕ) (C : List ℤ) → q ≢ 9 → at C q ≡ pos 0 → at (opposite C) q ≡ pos 0
opposite-unused q C last e = get_or-set_other (map neg_ℤ C) 9 q (neg_ℤ (at C 9) -ℤ pos 1) (pos 0) last ∙ negs-unused C q e
