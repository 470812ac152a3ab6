-- What a nest of loops is: bounds, the conditions of the cell that it posts to, and context rows.
use Rattle.std.specs.Prelude.{◌≡◌, ℕ, ◌+◌, ◌<◌, ◌≤◌, List, [], map, length, take, ℤ, slice_index_or, unsigned_abs}
use Rattle.source.specs.Systems.{System, entry}
use Rattle.source.specs.RowSources.{meaning_of}
use Rattle.source.specs.declared.rows.RowSource.{RowSource}

-- n loops, each running from 0 to its bound, over p parameters; a cell condition's sum over counters and parameters must be 0
pub record Loops : Type 0 where
  pub n : ℕ
  pub p : ℕ
  pub bounds : List (List ℤ)
  pub cells : List (List ℤ)
  pub context : List (List ℤ)

-- each row has `width` numbers
abbrev pub AllLong : ℕ → List (List ℤ) → Type 0
AllLong width rows = (i : ℕ) → i < length rows → length (slice_index_or rows i []) ≡ width

-- no number of a row is larger than `most` in size
abbrev pub AllSmall : ℕ → List (List ℤ) → Type 0
AllSmall most rows = (i j : ℕ) → unsigned_abs (entry rows i j) ≤ most

-- the limits of a nest, which every nest keeps
pub record Shaped (L : Loops) : Type 0 where
  pub some_loop : 1 ≤ L.n
  pub few_loops : L.n ≤ 6
  pub few_parameters : L.p ≤ 4
  pub each_bounded : length L.bounds ≡ L.n
  pub bounds_long : AllLong (L.p + 1) L.bounds
  pub bounds_small : AllSmall 300 L.bounds
  pub few_cells : length L.cells ≤ 3
  pub cells_long : AllLong (L.n + L.p + 1) L.cells
  pub cells_small : AllSmall 300 L.cells
  pub few_context : length L.context ≤ 8
  pub context_long : AllLong (L.p + 1) L.context
  pub context_small : AllSmall 1000000 L.context

-- the conditions are the rows of what is kept, and of the bounds the first n count, each with its first p + 1 numbers
abbrev pub loops_from : System → List (List ℤ) → Loops
loops_from S bounds = record { n = S.n; p = S.p; bounds = map (take (S.p + 1)) (take S.n bounds); cells = S.rows; context = S.context }

abbrev pub loops_of : RowSource → List (List ℤ) → Loops
loops_of kept bounds = loops_from (meaning_of kept) bounds
