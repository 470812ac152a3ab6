use Rattle.std.proofs.Common.{◌+◌, ◌-◌, [], get_or, ◌+ℤ◌, sym, ap, ◌∙◌, arith, w64, SFits, rules}
use Rattle.std.proofs.lemmas.Int.{to_z-of_z}
use Rattle.base.specs.Numbers.{at}
use Rattle.base.specs.Forms.{dot}
use Rattle.algebra.specs.Lists.{column}
use Rattle.nest.specs.Acts.{nest_of}
use Rattle.nest.proofs.Rows.{parameter-at}
use Rattle.nest.proofs.nest.Nest.cell_number.Goals as goal

pub returns-else-column-n : goal.returns-else-column-n
returns-else-column-n c =
    let s = c.args.self.now in
    let C = get_or (nest_of s).cells c.args.cell [] in
    let B = (nest_of s).bounds in
    let n = s.kept.n in
    let j = c.args.column in
    let f : SFits w64 c.put_in.result = search rules in
    let l = s.cells_long c.args.cell c.requires.known in
    record {
      value =
          to_z-of_z w64 c.put_in.result f
          ∙ c.put_in.ensures.value
          ∙ ap (λ m. at C (n + (j - m)) +ℤ dot C (column B (j - m))) c.unknowns-n.ensures.value
          ∙ sym (parameter-at n (s.kept.p + 1) B C j (omega (arith, l)) s.bounds_long (omega arith));
    }
