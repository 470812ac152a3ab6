-- Lowest terms keep what a row says.
use Rattle.std.proofs.Common.{◌≡◌, List, [], ◌∷◌, ◌++◌, ℤ, pos, ◌+ℤ◌, ◌*ℤ◌, ◌<ℤ◌, sym, refl, ap, ◌∙◌, subst, arith}
use borrow.Author.Differences.{ints}
use Rattle.base.specs.Forms.{dot, value_at}
use Rattle.tableau.specs.declared.table.Row.{Row}
use Rattle.tableau.specs.Rows.{gcd_of, lowest, times}
use Rattle.tableau.proofs.Lowest.{gcd_of-bounds, lowest-above, lowest-times}
use Rattle.algebra.proofs.Integers.{cancel-l, one-l}
use Rattle.algebra.proofs.Ring.{◌⊕◌, ◌⊗◌, num}
use Rattle.algebra.proofs.Claims.{given, goal, ring-from}
use Rattle.algebra.proofs.Dots.{times-dot}
use Rattle.tableau_laws.specs.Laws.{LowestKeeps, LowestValue}
use Rattle.tableau_laws.specs.Lines.{Line, Says, SaysAt, under}

-- ---- a line and its homogeneous form
pub says-one : (h : Line) (y : List ℤ) (v : ℤ) → Says h y v → SaysAt h y (pos 1) v
says-one h y v e = e ∙ ap (λ c. dot h.coefs y +ℤ c) (sym (one-l h.constant))

pub one-says : (h : Line) (y : List ℤ) (v : ℤ) → SaysAt h y (pos 1) v → Says h y v
one-says h y v e = e ∙ ap (λ c. dot h.coefs y +ℤ c) (one-l h.constant)

-- ---- a row times g, which is above 0
lower-law : (g d v D s c : ℤ) → (g *ℤ d) *ℤ v ≡ g *ℤ D +ℤ s *ℤ (g *ℤ c) → g *ℤ (d *ℤ v) ≡ g *ℤ (D +ℤ s *ℤ c)
lower-law = ring-from 6 (λ g d v D s c. given (num (pos 1)) ((g ⊗ d) ⊗ v) (g ⊗ D ⊕ s ⊗ (g ⊗ c)) (goal (g ⊗ (d ⊗ v)) (g ⊗ (D ⊕ s ⊗ c)))) refl

raise-law : (g d v D s c : ℤ) → d *ℤ v ≡ D +ℤ s *ℤ c → (g *ℤ d) *ℤ v ≡ g *ℤ D +ℤ s *ℤ (g *ℤ c)
raise-law = ring-from 6 (λ g d v D s c. given g (d ⊗ v) (D ⊕ s ⊗ c) (goal ((g ⊗ d) ⊗ v) (g ⊗ D ⊕ s ⊗ (g ⊗ c)))) refl

module _ (ρ : List ℤ) (g : ℤ) (r : Row) (y : List ℤ) (s v : ℤ) where
  times-lower : pos 0 <ℤ g → SaysAt (under ρ (times g r)) y s v → SaysAt (under ρ r) y s v
  times-lower h e =
      let e' : (g *ℤ r.div) *ℤ v ≡ g *ℤ dot r.coefs y +ℤ s *ℤ (g *ℤ value_at r.form ρ) = rw (times-dot g r.coefs y, times-dot g r.form (ρ ++ (pos 1 ∷ []))) at e in
      cancel-l g (r.div *ℤ v) (dot r.coefs y +ℤ s *ℤ value_at r.form ρ) h (lower-law g r.div v (dot r.coefs y) s (value_at r.form ρ) e')

  times-raise : SaysAt (under ρ r) y s v → SaysAt (under ρ (times g r)) y s v
  times-raise e = rw (times-dot g r.coefs y, times-dot g r.form (ρ ++ (pos 1 ∷ []))) (raise-law g r.div v (dot r.coefs y) s (value_at r.form ρ) e)

-- ---- a row in lowest terms
pub factor-above : (r : Row) → pos 0 <ℤ r.div → pos 0 <ℤ pos (gcd_of r)
factor-above r h = let b = gcd_of-bounds r h in omega (arith, ints, b.0)

-- the value of its form, times the common factor, is that of the row
pub value-lowest : LowestValue
value-lowest ρ r = sym (times-dot (pos (gcd_of r)) (lowest r).form (ρ ++ (pos 1 ∷ []))) ∙ ap (λ (t : Row). value_at t.form ρ) (lowest-times r)

pub lowest-at : LowestKeeps
lowest-at ρ r y s v h e = times-lower ρ (pos (gcd_of r)) (lowest r) y s v (factor-above r h) (subst (λ (t : Row). SaysAt (under ρ t) y s v) (sym (lowest-times r)) e)

pub raised_at : (ρ : List ℤ) (r : Row) (y : List ℤ) (s v : ℤ) → SaysAt (under ρ (lowest r)) y s v → SaysAt (under ρ r) y s v
raised_at ρ r y s v e = subst (λ (t : Row). SaysAt (under ρ t) y s v) (lowest-times r) (times-raise ρ (pos (gcd_of r)) (lowest r) y s v e)

pub lowest-says : (ρ : List ℤ) (r : Row) (y : List ℤ) (v : ℤ) → pos 0 <ℤ r.div → Says (under ρ r) y v → Says (under ρ (lowest r)) y v
lowest-says ρ r y v h e = one-says (under ρ (lowest r)) y v (lowest-at ρ r y (pos 1) v h (says-one (under ρ r) y v e))

pub lowest-div : (r : Row) → pos 0 <ℤ r.div → pos 0 <ℤ (lowest r).div
lowest-div r h = let a = lowest-above r h in omega (arith, ints, a)
