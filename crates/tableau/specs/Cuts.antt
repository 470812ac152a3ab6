-- Cuts, and the new parameters that they may need.
use Rattle.std.specs.Prelude.{ℕ, ◌+◌, ◌^◌, Bool, cond, List, [], ◌∷◌, map, take, ℤ, pos, ◌+ℤ◌, ◌-ℤ◌, neg_ℤ, ◌≤ℤ◌, ◌<ℤ◌, Some, None, Option, slice_set}
use Rattle.std.specs.List.{list_all}
use Rattle.base.specs.Numbers.{all_zero, at, is_zero, mod_by}
use Rattle.tableau.specs.declared.table.Row.{Row}
use Rattle.tableau.specs.declared.cut_numbers.Cut.{Cut}
use Rattle.tableau.specs.Rows.{lowest}

-- d divides each number
abbrev pub whole_by : ℤ → List ℤ → Bool
whole_by d xs = list_all (λ x. is_zero (mod_by d x)) xs

abbrev pub whole : Row → Bool
whole r = whole_by r.div r.form

-- the first row, counted from k, whose form has a number that its divisor does not divide
abbrev pub first_fraction : ℕ → List Row → Option ℕ
first_fraction k [] = None
first_fraction k (r ∷ rs) = cond (whole r) (first_fraction (k + 1) rs) (Some k)

-- the numbers of a cut: r, T and the divisor d
pub record CutNumbers : Type 0 where
  pub coefs : List ℤ
  pub form : List ℤ
  pub div : ℤ

abbrev pub numbers : Cut → CutNumbers
numbers c = record { coefs = c.coefs; form = c.form; div = c.div }

-- r_j = N_j mod d, and T is -C taken mod d number by number
abbrev pub cut_of : Row → CutNumbers
cut_of r = record { coefs = map (mod_by r.div) r.coefs; form = map (mod_by r.div) (map neg_ℤ r.form); div = r.div }

-- T names no parameter
abbrev pub is_constant : CutNumbers → Bool
is_constant c = all_zero (take 9 c.form)

-- -T, or -T + d × q where the new parameter q has a place
abbrev pub cut_form : CutNumbers → Option ℕ → List ℤ
cut_form c None = map neg_ℤ c.form
cut_form c (Some q) = slice_set (map neg_ℤ c.form) q c.div

-- the cut row: (r - T) / d, or (r - T + d × q) / d
abbrev pub cut_row : CutNumbers → Option ℕ → Row
cut_row c new = lowest (record { coefs = c.coefs; form = cut_form c new; div = c.div })

-- a new parameter q = floor(T / d): T - d × q ≥ 0 and -T + d × q + d - 1 ≥ 0
abbrev pub lower : CutNumbers → ℕ → List ℤ
lower c q = slice_set c.form q (neg_ℤ c.div)

abbrev pub upper : CutNumbers → ℕ → List ℤ
upper c q = slice_set (slice_set (map neg_ℤ c.form) q c.div) 9 (neg_ℤ (at c.form 9) +ℤ (c.div -ℤ pos 1))

-- r and T lie from 0 to d - 1
pub record CutSound (c : CutNumbers) : Type 0 where
  pub coefs_low : (k : ℕ) → pos 0 ≤ℤ at c.coefs k
  pub coefs_high : (k : ℕ) → at c.coefs k <ℤ c.div
  pub form_low : (k : ℕ) → pos 0 ≤ℤ at c.form k
  pub form_high : (k : ℕ) → at c.form k <ℤ c.div
  pub below : c.div ≤ℤ pos (2 ^ 30)
