-- The entering column of row i.
use Rattle.std.specs.Prelude.{◌≡◌, ℕ, suc, ◌<◌, Bool, true, false, cond, ◌⊎◌, List, [], ◌∷◌, ℤ, pos, ◌*ℤ◌, ◌≤ℤ◌, ◌<ℤ◌, Some, None, Option, ◌≢◌, int_lt, slice_index_or}
use Rattle.base.specs.Numbers.{at}
use Rattle.tableau.specs.declared.table.Row.{Row}
use Rattle.tableau.specs.declared.table.Table.{Table}
use Rattle.tableau.specs.Tables.{no_row, top}

-- decided at the first place where x and y differ
abbrev pub first_less : ℤ → ℤ → Bool → Bool
first_less x y rest = cond (int_lt x y) true (cond (int_lt y x) false rest)

-- column j beats column l if, at the first of the unknowns' rows h where N_hj × N_il and N_hl × N_ij differ, the former is smaller
abbrev pub beats : List Row → Row → ℕ → ℕ → Bool
beats [] i j l = false
beats (h ∷ hs) i j l = first_less (at h.coefs j *ℤ at i.coefs l) (at h.coefs l *ℤ at i.coefs j) (beats hs i j l)

-- on full equality the lower index, which was there before, wins
abbrev pub better : List Row → Row → ℕ → Option ℕ → Option ℕ
better hs i j None = Some j
better hs i j (Some l) = cond (beats hs i j l) (Some j) (Some l)

-- the best of the columns from j on, whose numbers in row i are xs, and of the best before them
abbrev pub entering_from : List Row → Row → ℕ → List ℤ → Option ℕ → Option ℕ
entering_from hs i j [] best = best
entering_from hs i j (x ∷ xs) best = entering_from hs i (suc j) xs (cond (int_lt (pos 0) x) (better hs i j best) best)

abbrev pub entering : List Row → Row → Option ℕ
entering hs i = entering_from hs i 0 i.coefs None

-- row and column of the pivot
abbrev pub with_row : ℕ → Option ℕ → Option (ℕ × ℕ)
with_row i (Some j) = Some (i, j)
with_row i None = None

abbrev pub pivot_place : Table → ℕ → Option (ℕ × ℕ)
pivot_place t i = with_row i (entering (top t) (slice_index_or t.rows i no_row))

-- ---- the same in words: the column chosen is above 0 in row i and beats each other such column; none is chosen where none is above 0
-- equal in every row h
abbrev pub Ties : List Row → Row → ℕ → ℕ → Type 0
Ties [] i j l = Unit {0}
Ties (h ∷ hs) i j l = (at h.coefs j *ℤ at i.coefs l ≡ at h.coefs l *ℤ at i.coefs j) × Ties hs i j l

abbrev pub Beats : List Row → Row → ℕ → ℕ → Type 0
Beats hs i j l = (beats hs i j l ≡ true) ⊎ (Ties hs i j l × (j < l))

abbrev pub Enters : List Row → Row → Option ℕ → Type 0
Enters hs i None = (l : ℕ) → at i.coefs l ≤ℤ pos 0
Enters hs i (Some j) = (j < 9) × (pos 0 <ℤ at i.coefs j) × ((l : ℕ) → (l ≢ j) → pos 0 <ℤ at i.coefs l → Beats hs i j l)
