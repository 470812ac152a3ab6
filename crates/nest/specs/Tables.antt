-- The system of a nest. Its unknown i stands for the bound of loop i minus its counter.
use Rattle.std.specs.Prelude.{ℕ, suc, List, [], ◌∷◌, ◌++◌, map, take, drop, ℤ, negsuc, neg_ℤ, slice_set}
use Rattle.source.specs.Systems.{System}
use Rattle.algebra.specs.Lists.{plus, scaled}
use Rattle.base.specs.Numbers.{zeros}
use Rattle.nest.specs.Loops.{Loops}

-- the rows of the loops from loop i on: the bound minus the unknown
abbrev pub loop_rows : ℕ → ℕ → List (List ℤ) → List (List ℤ)
loop_rows n i [] = []
loop_rows n i (U ∷ Us) = (slice_set (zeros n) i (negsuc 0) ++ U) ∷ loop_rows n (suc i) Us

-- to `over`, the numbers over the parameters, each counter's coefficient adds that many of its loop's bound
abbrev pub with_bounds : List ℤ → List (List ℤ) → List ℤ → List ℤ
with_bounds [] Us over = over
with_bounds (a ∷ rest) [] over = over
with_bounds (a ∷ rest) (U ∷ Us) over = plus (scaled a U) (with_bounds rest Us over)

-- a cell condition in the unknowns: bound minus unknown is put in for each counter
abbrev pub in_unknowns : ℕ → List (List ℤ) → List ℤ → List ℤ
in_unknowns n bounds cell = map neg_ℤ (take n cell) ++ with_bounds cell bounds (drop n cell)

-- each cell condition, followed by its negative
abbrev pub cell_rows : ℕ → List (List ℤ) → List (List ℤ) → List (List ℤ)
cell_rows n bounds [] = []
cell_rows n bounds (cell ∷ cells) = in_unknowns n bounds cell ∷ (map neg_ℤ (in_unknowns n bounds cell) ∷ cell_rows n bounds cells)

abbrev pub system_of : Loops → System
system_of L =
    record {
      n = L.n;
      p = L.p;
      rows = loop_rows L.n 0 L.bounds ++ cell_rows L.n L.bounds L.cells;
      context = L.context;
    }
