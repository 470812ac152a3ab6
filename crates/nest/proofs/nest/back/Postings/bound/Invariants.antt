use Rattle.std.proofs.Common.{◌≡◌, ◌+◌, ◌*◌, ◌≤◌, [], length, get_or, ◌+ℤ◌, nat_abs}
use Rattle.base.specs.Numbers.{AllWithin, at}
use Rattle.base.specs.Forms.{dot}
use Rattle.nest.specs.Acts.{nest_of}
use Rattle.nest.proofs.nest.back.Postings.bound.Given as goal

-- the sum so far and the products to come are the value, and each turn adds at most 300 × 1,000,000
abbrev pub invariant-loop-c : goal.invariant-loop-c
invariant-loop-c l =
    let U = get_or (nest_of l.self.nest.now).bounds l.i [] in
    record {
      size : nat_abs l.sum.value ≤ 300 + length l.yielded * 300000000;
      few : length l.yielded + length l.c-iterator.b.rest.now ≤ 4;
      bound : AllWithin 300 l.c-iterator.a.rest.now;
      point : AllWithin 1000000 l.c-iterator.b.rest.now;
      value : l.sum.value +ℤ dot l.c-iterator.a.rest.now l.c-iterator.b.rest.now ≡ at U (length l.self.point.now) +ℤ dot U l.self.point.now;
    }
