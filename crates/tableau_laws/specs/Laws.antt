-- What the steps of the work keep, and what its ends say.
use Rattle.std.specs.Prelude.{◌≡◌, ℕ, ◌<◌, ◌≤◌, true, List, [], ◌∷◌, ◌++◌, map, length, ℤ, pos, ◌+ℤ◌, ◌*ℤ◌, neg_ℤ, ◌≤ℤ◌, ◌<ℤ◌, Some, None}
use Rattle.base.specs.Numbers.{at}
use Rattle.base.specs.Forms.{value_at}
use Rattle.tableau.specs.declared.table.Row.{Row}
use Rattle.tableau.specs.Rows.{crossed, gcd_of, lowest, pivoted, turned}
use Rattle.tableau.specs.Columns.{entering}
use Rattle.tableau.specs.Cuts.{cut_form, cut_of, cut_row, first_fraction, is_constant, lower, upper}
use Rattle.algebra.specs.Lists.{NonNeg}
use Rattle.tableau_laws.specs.Lines.{In, Line, Says, SaysAt, Shaped, Unused, under}
use Rattle.tableau_laws.specs.Facts.{Right}
use Rattle.tableau_laws.specs.Settings.{gained, new_value}
use Rattle.tableau_laws.specs.Start.{Plain}
use Rattle.tableau.specs.Tables.{unit_rows}
use Rattle.tableau_laws.specs.Ends.{Least, NoPoint, NonNegAt, leaf_forms}
use Rattle.tree.specs.Answers.{values_at}

-- ---- the values of forms: after a pivot, in lowest terms, and in a cut with a new parameter
abbrev pub PivotValue : Type 0
PivotValue = (i : Row) (j : ℕ) (h : Row) → length h.form ≡ length i.form → (ρ : List ℤ) → value_at (turned i j h).form ρ ≡ crossed (at i.coefs j) (at h.coefs j) (value_at h.form ρ) (value_at i.form ρ)

abbrev pub LowestValue : Type 0
LowestValue = (ρ : List ℤ) (r : Row) → pos (gcd_of r) *ℤ value_at (lowest r).form ρ ≡ value_at r.form ρ

abbrev pub NewValue : Type 0
NewValue = (ρ : List ℤ) (r : Row) (q : ℕ) → length r.form ≡ 10 → length ρ ≡ 9 → q < 9 → pos 0 <ℤ r.div → at r.form q ≡ pos 0 → value_at (cut_form (cut_of r) (Some q)) (gained (cut_of r) q ρ) ≡ neg_ℤ (value_at (cut_of r).form ρ) +ℤ r.div *ℤ new_value (cut_of r) ρ

abbrev pub ValuesCommute : Type 0
ValuesCommute = PivotValue × LowestValue × NewValue

-- ---- rows
-- lowest terms keep what a row says
abbrev pub LowestKeeps : Type 0
LowestKeeps = (ρ : List ℤ) (r : Row) (y : List ℤ) (s v : ℤ) → pos 0 <ℤ r.div → SaysAt (under ρ r) y s v → SaysAt (under ρ (lowest r)) y s v

-- where a row has a whole value at a natural y, its cut row has a natural one: T names no parameter, or a new one takes its value
abbrev pub CutNatural : Type 0
CutNatural = (ρ : List ℤ) (r : Row) (y : List ℤ) (v : ℤ) → length r.form ≡ 10 → length ρ ≡ 9 → pos 0 <ℤ r.div → is_constant (cut_of r) ≡ true → NonNeg y → Says (under ρ r) y v → (k : ℕ) × Says (under ρ (cut_row (cut_of r) None)) y (pos k)

abbrev pub NewNatural : Type 0
NewNatural = (ρ : List ℤ) (r : Row) (q : ℕ) → length r.form ≡ 10 → length ρ ≡ 9 → q < 9 → pos 0 <ℤ r.div → at r.form q ≡ pos 0 → (y : List ℤ) (v : ℤ) → NonNeg y → Says (under ρ r) y v → (k : ℕ) × Says (under (gained (cut_of r) q ρ) (cut_row (cut_of r) (Some q))) y (pos k)

abbrev pub RowsKeep : Type 0
RowsKeep = LowestKeeps × CutNatural × NewNatural

-- ---- tables
-- the table that work starts from is right for its own rows
abbrev pub StartRight : Type 0
StartRight = (n : ℕ) (ρ : List ℤ) (rest : List Row) → n ≤ 9 → Shaped rest → Plain n rest → Right n (map (under ρ) rest) ρ (unit_rows 0 n) rest

-- a pivot at row i in its entering column keeps the table right
abbrev pub PivotKeeps : Type 0
PivotKeeps = (n : ℕ) (sys : List Line) (ρ : List ℤ) (top rest : List Row) (i : Row) (j : ℕ) → Right n sys ρ top rest → In i (top ++ rest) → entering top i ≡ Some j → Right n sys ρ (map (pivoted i j) top) (map (pivoted i j) rest)

-- so does a cut from row r whose T names no parameter
abbrev pub CutKeeps : Type 0
CutKeeps = (n : ℕ) (sys : List Line) (ρ : List ℤ) (top rest : List Row) (r : Row) → Right n sys ρ top rest → In r (top ++ rest) → length ρ ≡ 9 → is_constant (cut_of r) ≡ true → Right n sys ρ top (rest ++ (cut_row (cut_of r) None ∷ []))

-- and any cut with a new parameter, at the setting that gains the value of it at a place that was not in use
abbrev pub NewKeeps : Type 0
NewKeeps = (n : ℕ) (sys : List Line) (ρ : List ℤ) (top rest : List Row) (r : Row) → Right n sys ρ top rest → In r (top ++ rest) → length ρ ≡ 9 → (q : ℕ) → q < 9 → Unused q top → Unused q rest → Right n sys (gained (cut_of r) q ρ) top (rest ++ (cut_row (cut_of r) (Some q) ∷ []))

abbrev pub StepsKeep : Type 0
StepsKeep = StartRight × PivotKeeps × CutKeeps × NewKeeps

-- ---- the setting that gains a new parameter
-- the two context rows of the new parameter hold there
abbrev pub NewHolds : Type 0
NewHolds = (ρ : List ℤ) (r : Row) (q : ℕ) → length r.form ≡ 10 → length ρ ≡ 9 → q < 9 → pos 0 <ℤ r.div → at r.form q ≡ pos 0 → (pos 0 ≤ℤ value_at (lower (cut_of r) q) (gained (cut_of r) q ρ)) × (pos 0 ≤ℤ value_at (upper (cut_of r) q) (gained (cut_of r) q ρ))

-- and it is natural if the setting before was
abbrev pub SettingNatural : Type 0
SettingNatural = (ρ : List ℤ) (r : Row) (q : ℕ) → pos 0 <ℤ r.div → NonNeg ρ → NonNeg (gained (cut_of r) q ρ)

-- ---- the ends
-- a row that is below 0 and has no entering column: there is no point
abbrev pub NoneRight : Type 0
NoneRight = (n : ℕ) (sys : List Line) (ρ : List ℤ) (top rest : List Row) (i : Row) → Right n sys ρ top rest → In i (top ++ rest) → value_at i.form ρ <ℤ pos 0 → entering top i ≡ None → NoPoint n sys

-- no row below 0, and no fraction in the unknowns' rows: their forms over their divisors give the least point
abbrev pub LeafRight : Type 0
LeafRight = (n : ℕ) (sys : List Line) (ρ : List ℤ) (top rest : List Row) (k : ℕ) → Right n sys ρ top rest → NonNegAt ρ (top ++ rest) → first_fraction k top ≡ None → Least n sys (values_at ρ (leaf_forms top))

abbrev pub TableLaws : Type 0
TableLaws = ValuesCommute × RowsKeep × StepsKeep × (NewHolds × SettingNatural) × (NoneRight × LeafRight)
