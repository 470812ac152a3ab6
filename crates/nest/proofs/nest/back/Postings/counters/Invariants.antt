use Rattle.std.proofs.Common.{◌≡◌, drop, take}
use Rattle.tree.specs.Finds.{padded}
use Rattle.nest.specs.Acts.{nest_of}
use Rattle.nest.specs.Backs.{bounds_less, reached}
use Rattle.nest.proofs.nest.back.Postings.counters.Given as goal

abbrev pub invariant-loop-i : goal.invariant-loop-i
invariant-loop-i l =
    let B = (nest_of l.self.nest.now).bounds in
    let R = l.self.point.now in
    record {
      reach : reached (drop l.i B) R (drop l.i l.numbers) ≡ reached B R l.numbers;
      written : l.counters ≡ padded 6 (take l.i (bounds_less B R l.numbers));
    }
