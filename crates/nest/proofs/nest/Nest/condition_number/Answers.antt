use Rattle.std.proofs.Common.{◌/◌, ◌<◌, ◌≤◌, List, [], length, get_or, ℤ, neg_ℤ, nat_abs, sym, ap, ◌∙◌, subst, arith, w64, SFits, rules}
use Rattle.std.proofs.lemmas.Int.{to_z-of_z}
use Rattle.base.specs.Numbers.{at}
use Rattle.algebra.proofs.Dots.{at-negs}
use Rattle.nest.specs.Acts.{nest_of}
use Rattle.nest.specs.Tables.{cell_rows, in_unknowns}
use Rattle.nest.proofs.Rows.{cell_row, length-cell_rows, negative-row, no_row}
use Rattle.nest.proofs.Shapes.{shaped_of}
use Rattle.nest.proofs.Sizes.{condition-small, minus-fits, minus-read}
use Rattle.nest.proofs.nest.Nest.condition_number.Goals as goal

pub overflow_sub-result : goal.overflow_sub-result
overflow_sub-result c =
    let s = c.args.self.now in
    let x = c.cell_number-else-row-eq0.result in
    let f : SFits w64 x = search rules in
    let q = c.args.row / 2 in
    let l : q < length (nest_of s).cells = subst (λ m. q < m) c.rows.ensures.value (search rules) in
    minus-fits x f (subst (λ z. nat_abs z ≤ 540300) (sym c.cell_number-else-row-eq0.ensures.value) (condition-small (nest_of s) q c.args.column (shaped_of s) l))

pub returns-then-cell-rows : goal.returns-then-cell-rows
returns-then-cell-rows c =
    let s = c.args.self.now in
    let L = nest_of s in
    let m = length-cell_rows L.n L.bounds L.cells in
    record { value = sym (no_row (cell_rows L.n L.bounds L.cells) c.args.row c.args.column (omega (arith, m, c.rows.ensures.value))) }

pub returns-then-row-eq0 : goal.returns-then-row-eq0
returns-then-row-eq0 c =
    let s = c.args.self.now in
    let L = nest_of s in
    let r = c.args.row in
    let x = c.cell_number.result in
    let f : SFits w64 x = search rules in
    let l : r / 2 < length L.cells = subst (λ m. r / 2 < m) c.rows.ensures.value (search rules) in
    record {
      value =
          to_z-of_z w64 x f
          ∙ c.cell_number.ensures.value
          ∙ ap (λ (row : List ℤ). at row c.args.column) (sym (cell_row L.n L.bounds L.cells r (r / 2) (omega arith) l));
    }

pub returns-else-row-eq0 : goal.returns-else-row-eq0
returns-else-row-eq0 c =
    let s = c.args.self.now in
    let L = nest_of s in
    let r = c.args.row in
    let j = c.args.column in
    let x = c.cell_number-else-row-eq0.result in
    let f : SFits w64 x = search rules in
    let l : r / 2 < length L.cells = subst (λ m. r / 2 < m) c.rows.ensures.value (search rules) in
    let R = in_unknowns L.n L.bounds (get_or L.cells (r / 2) []) in
    let h : nat_abs x ≤ 540300 = subst (λ z. nat_abs z ≤ 540300) (sym c.cell_number-else-row-eq0.ensures.value) (condition-small L (r / 2) j (shaped_of s) l) in
    record {
      value =
          minus-read x f h
          ∙ ap neg_ℤ c.cell_number-else-row-eq0.ensures.value
          ∙ sym (at-negs R j)
          ∙ ap (λ (row : List ℤ). at row j) (sym (negative-row L.n L.bounds L.cells r (r / 2) (omega arith) l));
    }
