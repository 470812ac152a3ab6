-- What a pivoted row says, by what its two rows say.
use Rattle.std.proofs.Common.{◌≡◌, ℕ, zero, suc, ◌<◌, List, [], ◌∷◌, ◌++◌, length, set, ℤ, pos, ◌+ℤ◌, ◌-ℤ◌, ◌*ℤ◌, refl, ◌∙◌, arith, get_or-set_same}
use Rattle.base.specs.Numbers.{at}
use Rattle.base.specs.Forms.{dot, value_at}
use Rattle.tableau.specs.declared.table.Row.{Row}
use Rattle.tableau.specs.Rows.{combined, turned}
use Rattle.tableau.proofs.Combined.{length-combined}
use Rattle.algebra.specs.Lists.{scaled}
use Rattle.algebra.proofs.Ring.{◌⊕◌, ◌⊖◌, ◌⊗◌, num, ring, ⊝◌}
use Rattle.algebra.proofs.Claims.{given, goal, ring-from}
use Rattle.algebra.proofs.Dots.{at_scaled, dot-scaled, dot-set, length-scaled, set-dot}
use Rattle.tableau_laws.specs.Laws.{PivotValue}
use Rattle.tableau_laws.specs.Lines.{Line, Says, SaysAt, under}

-- ---- a linear combination, number by number
pub dot-combined : (a b : ℤ) (xs ys zs : List ℤ) → length xs ≡ length ys → dot (combined a b xs ys) zs ≡ a *ℤ dot xs zs -ℤ b *ℤ dot ys zs
dot-combined a b [] [] zs h = ring 2 (λ a b. (num (pos 0), a ⊗ num (pos 0) ⊖ b ⊗ num (pos 0))) refl a b
dot-combined a b [] (y ∷ ys) zs h = absurd (let no : ⊥ = omega arith in no)
dot-combined a b (x ∷ xs) [] zs h = absurd (let no : ⊥ = omega arith in no)
dot-combined a b (x ∷ xs) (y ∷ ys) [] h = ring 2 (λ a b. (num (pos 0), a ⊗ num (pos 0) ⊖ b ⊗ num (pos 0))) refl a b
dot-combined a b (x ∷ xs) (y ∷ ys) (z ∷ zs) h =
    rw (dot-combined a b xs ys zs (omega arith))
    (ring 7 (λ a b x y z p q. ((a ⊗ x ⊖ b ⊗ y) ⊗ z ⊕ (a ⊗ p ⊖ b ⊗ q), a ⊗ (x ⊗ z ⊕ p) ⊖ b ⊗ (y ⊗ z ⊕ q))) refl a b x y z (dot xs zs) (dot ys zs))

pub at-combined : (a b : ℤ) (xs ys : List ℤ) (k : ℕ) → length xs ≡ length ys → at (combined a b xs ys) k ≡ a *ℤ at xs k -ℤ b *ℤ at ys k
at-combined a b [] [] k h = ring 2 (λ a b. (num (pos 0), a ⊗ num (pos 0) ⊖ b ⊗ num (pos 0))) refl a b
at-combined a b [] (y ∷ ys) k h = absurd (let no : ⊥ = omega arith in no)
at-combined a b (x ∷ xs) [] k h = absurd (let no : ⊥ = omega arith in no)
at-combined a b (x ∷ xs) (y ∷ ys) zero h = refl
at-combined a b (x ∷ xs) (y ∷ ys) (suc k) h = at-combined a b xs ys k (omega arith)

-- the value of a turned row's form, by those of the two rows
pub value-turned : PivotValue
value-turned i j h forms ρ = dot-combined (at i.coefs j) (at h.coefs j) h.form i.form (ρ ++ (pos 1 ∷ [])) forms

-- the basic unknowns before the pivot, for y and s after it, all times the pivot's number
abbrev pub back : Line → ℕ → List ℤ → ℤ → List ℤ
back i j y s = set (scaled (at i.coefs j) y) j (i.div *ℤ at y j -ℤ (dot i.coefs y -ℤ at i.coefs j *ℤ at y j) -ℤ s *ℤ i.constant)

-- ---- the equations, a = N_ij and b = N_hj, with the products H and I of the rows h and i
forward-law : (a b dh di vh vi H I ch ci yj : ℤ) → di *ℤ vi ≡ I +ℤ ci → dh *ℤ vh ≡ H +ℤ ch → (a *ℤ dh) *ℤ vh ≡ a *ℤ (H +ℤ b *ℤ (vi -ℤ yj)) -ℤ b *ℤ (I +ℤ a *ℤ (vi -ℤ yj)) +ℤ (b *ℤ di) *ℤ vi +ℤ (a *ℤ ch -ℤ b *ℤ ci)
forward-law = ring-from 11 (λ a b dh di vh vi H I ch ci yj. given (⊝ b) (di ⊗ vi) (I ⊕ ci) (given a (dh ⊗ vh) (H ⊕ ch) (goal ((a ⊗ dh) ⊗ vh) (a ⊗ (H ⊕ b ⊗ (vi ⊖ yj)) ⊖ b ⊗ (I ⊕ a ⊗ (vi ⊖ yj)) ⊕ (b ⊗ di) ⊗ vi ⊕ (a ⊗ ch ⊖ b ⊗ ci))))) refl

back-law : (a b dh di H I ch ci yj s X : ℤ) → (a *ℤ dh) *ℤ X ≡ a *ℤ H -ℤ b *ℤ I +ℤ (b *ℤ di) *ℤ yj +ℤ s *ℤ (a *ℤ ch -ℤ b *ℤ ci) → dh *ℤ (a *ℤ X) ≡ a *ℤ H +ℤ b *ℤ ((di *ℤ yj -ℤ (I -ℤ a *ℤ yj) -ℤ s *ℤ ci) -ℤ a *ℤ yj) +ℤ (a *ℤ s) *ℤ ch
back-law = ring-from 11 (λ a b dh di H I ch ci yj s X. given (num (pos 1)) ((a ⊗ dh) ⊗ X) (a ⊗ H ⊖ b ⊗ I ⊕ (b ⊗ di) ⊗ yj ⊕ s ⊗ (a ⊗ ch ⊖ b ⊗ ci)) (goal (dh ⊗ (a ⊗ X)) (a ⊗ H ⊕ b ⊗ ((di ⊗ yj ⊖ (I ⊖ a ⊗ yj) ⊖ s ⊗ ci) ⊖ a ⊗ yj) ⊕ (a ⊗ s) ⊗ ch))) refl

forth-law : (a b dh di H I ch ci yj s V : ℤ) → dh *ℤ (a *ℤ V) ≡ a *ℤ H +ℤ b *ℤ ((di *ℤ yj -ℤ (I -ℤ a *ℤ yj) -ℤ s *ℤ ci) -ℤ a *ℤ yj) +ℤ (a *ℤ s) *ℤ ch → (a *ℤ dh) *ℤ V ≡ a *ℤ H -ℤ b *ℤ I +ℤ (b *ℤ di) *ℤ yj +ℤ s *ℤ (a *ℤ ch -ℤ b *ℤ ci)
forth-law = ring-from 11 (λ a b dh di H I ch ci yj s V. given (num (pos 1)) (dh ⊗ (a ⊗ V)) (a ⊗ H ⊕ b ⊗ ((di ⊗ yj ⊖ (I ⊖ a ⊗ yj) ⊖ s ⊗ ci) ⊖ a ⊗ yj) ⊕ (a ⊗ s) ⊗ ch) (goal ((a ⊗ dh) ⊗ V) (a ⊗ H ⊖ b ⊗ I ⊕ (b ⊗ di) ⊗ yj ⊕ s ⊗ (a ⊗ ch ⊖ b ⊗ ci)))) refl

module _ (i : Row) (j : ℕ) (h : Row) (lt : j < length i.coefs) (wide : length h.coefs ≡ length i.coefs) (forms : length h.form ≡ length i.form) where
  -- the product of the turned row with any y, by those of the two rows
  pub dot-turned : (y : List ℤ) → dot (turned i j h).coefs y ≡ at i.coefs j *ℤ dot h.coefs y -ℤ at h.coefs j *ℤ dot i.coefs y +ℤ (at h.coefs j *ℤ i.div) *ℤ at y j
  dot-turned y =
      let a = at i.coefs j in
      let b = at h.coefs j in
      let l : j < length (combined a b h.coefs i.coefs) = omega (arith, length-combined a b h.coefs i.coefs wide) in
      set-dot (combined a b h.coefs i.coefs) y j (b *ℤ i.div) l
      ∙ rw (dot-combined a b h.coefs i.coefs y wide, at-combined a b h.coefs i.coefs j wide)
      (ring 6 (λ a b H I d y. (a ⊗ H ⊖ b ⊗ I ⊕ (b ⊗ d ⊖ (a ⊗ b ⊖ b ⊗ a)) ⊗ y, a ⊗ H ⊖ b ⊗ I ⊕ (b ⊗ d) ⊗ y)) refl a b (dot h.coefs y) (dot i.coefs y) i.div (at y j))

  -- forward: column j now stands for the value that row i had
  pub turned-says : (ρ y : List ℤ) (vi vh : ℤ) → j < length y → Says (under ρ i) y vi → Says (under ρ h) y vh → Says (under ρ (turned i j h)) (set y j vi) vh
  turned-says ρ y vi vh ly p q =
      rw (dot-turned (set y j vi), value-turned i j h forms ρ, get_or-set_same y j vi (pos 0) ly, dot-set h.coefs y j vi ly, dot-set i.coefs y j vi ly)
      (forward-law (at i.coefs j) (at h.coefs j) h.div i.div vh vi (dot h.coefs y) (dot i.coefs y) (value_at h.form ρ) (value_at i.form ρ) (at y j) p q)

  -- the product of row h with the basic unknowns before the pivot
  dot-back : (ρ y : List ℤ) (s : ℤ) → j < length y → dot h.coefs (back (under ρ i) j y s) ≡ at i.coefs j *ℤ dot h.coefs y +ℤ at h.coefs j *ℤ ((i.div *ℤ at y j -ℤ (dot i.coefs y -ℤ at i.coefs j *ℤ at y j) -ℤ s *ℤ value_at i.form ρ) -ℤ at i.coefs j *ℤ at y j)
  dot-back ρ y s ly =
      let a = at i.coefs j in
      let v = i.div *ℤ at y j -ℤ (dot i.coefs y -ℤ a *ℤ at y j) -ℤ s *ℤ value_at i.form ρ in
      let l : j < length (scaled a y) = omega (arith, length-scaled a y) in
      dot-set h.coefs (scaled a y) j v l ∙ rw (dot-scaled a h.coefs y, at_scaled a y j)

  pub turned-back : (ρ y : List ℤ) (s X : ℤ) → j < length y → SaysAt (under ρ (turned i j h)) y s X → SaysAt (under ρ h) (back (under ρ i) j y s) (at i.coefs j *ℤ s) (at i.coefs j *ℤ X)
  turned-back ρ y s X ly p =
      rw (dot-back ρ y s ly)
      (back-law (at i.coefs j) (at h.coefs j) h.div i.div (dot h.coefs y) (dot i.coefs y) (value_at h.form ρ) (value_at i.form ρ) (at y j) s X (rw (dot-turned y, value-turned i j h forms ρ) at p))

  pub turned-forth : (ρ y : List ℤ) (s V : ℤ) → j < length y → SaysAt (under ρ h) (back (under ρ i) j y s) (at i.coefs j *ℤ s) (at i.coefs j *ℤ V) → SaysAt (under ρ (turned i j h)) y s V
  turned-forth ρ y s V ly p =
      rw (dot-turned y, value-turned i j h forms ρ)
      (forth-law (at i.coefs j) (at h.coefs j) h.div i.div (dot h.coefs y) (dot i.coefs y) (value_at h.form ρ) (value_at i.form ρ) (at y j) s V (rw (dot-back ρ y s ly) at p))
