-- The rows of a test: the forms of its context.
use Rattle.std.specs.Prelude.{ℕ, ◌+◌, ◌-◌, List, ◌++◌, take, drop, ℤ, pos, slice_set}
use Rattle.base.specs.Numbers.{at, zeros}
use Rattle.tableau.specs.declared.table.Row.{Row}

-- a form as a row of a test: the p parameters and the new ones made so far are its unknowns, and it has no parameters
abbrev pub test_row : ℕ → ℕ → List ℤ → Row
test_row p made C =
    record {
      coefs = take p C ++ (take made (drop 4 C) ++ zeros (9 - (p + made)));
      form = slice_set (zeros 10) 9 (at C 9);
      div = pos 1;
    }
