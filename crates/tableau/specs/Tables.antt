-- The working table: the unknowns' rows, then the system's, then the cuts.
use Rattle.std.specs.Prelude.{ℕ, zero, suc, ◌<◌, ◌≤◌, Bool, List, [], ◌∷◌, get_or, take, drop, pos, ◌<ℤ◌, slice_index_or, slice_set}
use Rattle.std.specs.List.{list_all}
use Rattle.base.specs.Numbers.{at, zeros}
use Rattle.tableau.specs.declared.table.Row.{Row}
use Rattle.tableau.specs.declared.table.Table.{Table}
use Rattle.tableau.specs.Rows.{Sound, fits}

-- what a read past the end would give
abbrev pub no_row : Row
no_row = record { coefs = []; form = []; div = pos 0 }

abbrev pub in_use : Table → List Row
in_use t = take t.count t.rows

-- the rows of the unknowns themselves
abbrev pub top : Table → List Row
top t = take t.unknowns t.rows

-- the rows after them
abbrev pub rest : Table → List Row
rest t = drop t.unknowns (in_use t)

-- unknown h, by itself
abbrev pub unit_row : ℕ → Row
unit_row h = record { coefs = slice_set (zeros 9) h (pos 1); form = zeros 10; div = pos 1 }

-- k unknowns from h on, which a table starts from
abbrev pub unit_rows : ℕ → ℕ → List Row
unit_rows h zero = []
unit_rows h (suc k) = unit_row h ∷ unit_rows (suc h) k

abbrev pub all_fit : List Row → Bool
all_fit rs = list_all fits rs

-- a table that a pivot or a cut may work on
pub record Ready (t : Table) : Type 0 where
  pub room : t.count ≤ 64
  pub few : t.unknowns ≤ 9
  pub inside : t.unknowns ≤ t.count
  pub sound : (k : ℕ) → k < t.count → Sound (slice_index_or t.rows k no_row)

-- a place to pivot at: row and column are there, and its number is above 0
abbrev pub PivotAt : Table → ℕ × ℕ → Type 0
PivotAt t place = (place.0 < t.count) × (place.1 < 9) × (pos 0 <ℤ at (get_or t.rows place.0 no_row).coefs place.1)
