use Rattle.std.proofs.Common.{◌≡◌, ◌-◌, List, ℤ, sym, ap, ◌∙◌, arith, w64, SFits, rules}
use Rattle.std.proofs.lemmas.Int.{to_z-of_z}
use Rattle.base.specs.Numbers.{at}
use Rattle.source.specs.Systems.{entry}
use Rattle.nest.specs.Acts.{nest_of}
use Rattle.nest.specs.Tables.{loop_rows}
use Rattle.nest.proofs.Rows.{loop-bound-at, loop-other-at, loop-own-at}
use Rattle.nest.proofs.nest.Nest.loop_number.Goals as goal

pub returns-then-column-n : goal.returns-then-column-n
returns-then-column-n c =
    let s = c.args.self.now in
    let i = c.args.row in
    let n = s.kept.n in
    let j = c.args.column in
    let e : c.unknowns-n.result ≡ n = search rules in
    let k = j - c.unknowns-n.result in
    let row = c.bound_of.result.now in
    let f : SFits w64 (at row k) = search rules in
    record {
      value =
          to_z-of_z w64 (at row k) f
          ∙ ap (λ (U : List ℤ). at U k) c.bound_of.ensures.value
          ∙ ap (λ m. entry (nest_of s).bounds i (j - m)) e
          ∙ sym (loop-bound-at n i j (nest_of s).bounds (omega (arith, s.each_bounded)) (omega arith));
    }

pub returns-then-column-row : goal.returns-then-column-row
returns-then-column-row c =
    let s = c.args.self.now in
    let i = c.args.row in
    record {
      value =
          sym (loop-own-at s.kept.n i (nest_of s).bounds (omega (arith, s.each_bounded)) c.requires.known)
          ∙ ap (entry (loop_rows s.kept.n 0 (nest_of s).bounds) i) (sym c.if-column-row.true);
    }

pub returns-else-column-row : goal.returns-else-column-row
returns-else-column-row c =
    let s = c.args.self.now in
    record { value = sym (loop-other-at s.kept.n c.args.row c.args.column (nest_of s).bounds (omega (arith, s.each_bounded)) (omega arith) (omega arith)) }
