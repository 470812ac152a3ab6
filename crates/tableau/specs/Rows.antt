-- A row of the working table: its value times `div` is `coefs` times the basic unknowns, plus `form`.
use Rattle.std.specs.Prelude.{◌≡◌, ℕ, ◌^◌, ◌<◌, Bool, ◌&&◌, List, [], ◌∷◌, map, ℤ, pos, ◌-ℤ◌, ◌*ℤ◌, ◌≤ℤ◌, slice_set, unsigned_abs}
use Rattle.base.specs.Numbers.{AllWithin, Divides, DividesAll, at, gcds, in_range, quot_by, within}
use Rattle.tableau.specs.declared.table.Row.{Row}

-- each number from -2^30 to 2^30
abbrev pub fits : Row → Bool
fits r = within r.coefs && (within r.form && in_range r.div)

-- ---- lowest terms: no number above 1 divides all of a row's numbers
abbrev pub gcd_of : Row → ℕ
gcd_of r = gcds (gcds (unsigned_abs r.div) r.coefs) r.form

abbrev pub divided_by : ℤ → Row → Row
divided_by g r = record { coefs = map (quot_by g) r.coefs; form = map (quot_by g) r.form; div = quot_by g r.div }

abbrev pub lowest : Row → Row
lowest r = divided_by (pos (gcd_of r)) r

-- the same in words: `low` times a common factor is `raw`, and nothing above 1 divides all of `low`
abbrev pub times : ℤ → Row → Row
times g r = record { coefs = map (λ x. g *ℤ x) r.coefs; form = map (λ x. g *ℤ x) r.form; div = g *ℤ r.div }

abbrev pub DividesRow : ℕ → Row → Type 0
DividesRow k r = DividesAll k r.coefs × DividesAll k r.form × Divides k r.div

pub record LowestTerms (raw low : Row) : Type 0 where
  pub factor : ℕ
  pub above : 0 < factor
  pub common : times (pos factor) low ≡ raw
  pub alone : (k : ℕ) → DividesRow k low → k ≡ 1

-- ---- pivot: row h, when row i is solved for column j and put in
abbrev pub crossed : ℤ → ℤ → ℤ → ℤ → ℤ
crossed a b x y = a *ℤ x -ℤ b *ℤ y

-- number by number
abbrev pub combined : ℤ → ℤ → List ℤ → List ℤ → List ℤ
combined a b [] ys = []
combined a b (x ∷ xs) [] = []
combined a b (x ∷ xs) (y ∷ ys) = crossed a b x y ∷ combined a b xs ys

-- with a = N_ij: in column l other than j a × N_hl - N_hj × N_il, in column j N_hj × d_i, as form a × C_h - N_hj × C_i, as divisor a × d_h
abbrev pub turned : Row → ℕ → Row → Row
turned i j h =
    record {
      coefs = slice_set (combined (at i.coefs j) (at h.coefs j) h.coefs i.coefs) j (at h.coefs j *ℤ i.div);
      form = combined (at i.coefs j) (at h.coefs j) h.form i.form;
      div = at i.coefs j *ℤ h.div;
    }

abbrev pub pivoted : Row → ℕ → Row → Row
pivoted i j h = lowest (turned i j h)

-- a row as the table keeps it: in range and in lowest terms, its divisor 1 or more
pub record Sound (r : Row) : Type 0 where
  pub coefs_small : AllWithin (2 ^ 30) r.coefs
  pub form_small : AllWithin (2 ^ 30) r.form
  pub above : pos 1 ≤ℤ r.div
  pub below : r.div ≤ℤ pos (2 ^ 30)
  pub alone : gcd_of r ≡ 1
