use Rattle.std.proofs.Common.{◌+◌, ◌-◌, List, [], ℤ, sym, ap, ◌∙◌, arith, w64, SFits, rules}
use Rattle.std.proofs.lemmas.List.{get_or_append_left, get_or-append_right}
use Rattle.std.proofs.lemmas.Int.{to_z-of_z}
use Rattle.base.specs.Numbers.{at}
use Rattle.source.specs.Systems.{entry}
use Rattle.nest.specs.Acts.{nest_of}
use Rattle.nest.specs.Tables.{cell_rows, loop_rows, system_of}
use Rattle.nest.proofs.Rows.{beside-row, length-loop_rows, rows_long}
use Rattle.nest.proofs.Shapes.{shaped_of}
use Rattle.nest.proofs.nest.acts.NestSource.number.Goals as goal

pub returns-then-column-n : goal.returns-then-column-n
returns-then-column-n c =
    let s = c.args.self.now in
    let L = nest_of s in
    record { value = sym (beside-row (L.n + (L.p + 1)) (system_of L).rows c.args.row c.args.column (rows_long L (shaped_of s)) (omega arith)) }

pub returns-then-row-n : goal.returns-then-row-n
returns-then-row-n c =
    let s = c.args.self.now in
    let L = nest_of s in
    let i = c.args.row in
    let f : SFits w64 c.loop_number.result = search rules in
    let l = length-loop_rows L.n 0 L.bounds in
    record {
      value =
          to_z-of_z w64 c.loop_number.result f
          ∙ c.loop_number.ensures.value
          ∙ ap (λ (row : List ℤ). at row c.args.column) (sym (get_or_append_left (loop_rows L.n 0 L.bounds) (cell_rows L.n L.bounds L.cells) [] i (omega (arith, l, s.each_bounded))));
    }

pub returns-else-row-n : goal.returns-else-row-n
returns-else-row-n c =
    let s = c.args.self.now in
    let L = nest_of s in
    let i = c.args.row in
    let f : SFits w64 c.condition_number.result = search rules in
    let l = length-loop_rows L.n 0 L.bounds in
    record {
      value =
          to_z-of_z w64 c.condition_number.result f
          ∙ c.condition_number.ensures.value
          ∙ ap (λ m. entry (cell_rows L.n L.bounds L.cells) (i - m) c.args.column) c.unknowns-n.ensures.value
          ∙ ap (λ (row : List ℤ). at row c.args.column) (sym (get_or-append_right (loop_rows L.n 0 L.bounds) (cell_rows L.n L.bounds L.cells) L.n i [] (l ∙ s.each_bounded) (omega arith)));
    }
