use Rattle.std.proofs.Common.{◌≡◌, ◌+◌, ◌*◌, ◌^◌, ◌≤◌, length, ◌+ℤ◌, nat_abs}
use Rattle.base.specs.Numbers.{AllWithin, at}
use Rattle.base.specs.Forms.{dot}
use Rattle.base.proofs.form.value.Given as goal

-- the sum so far and the products to come are the value, and each turn adds at most 2^58
abbrev pub invariant-loop-c : goal.invariant-loop-c
invariant-loop-c l =
    record {
      size : nat_abs l.sum.value ≤ 2 ^ 31 + length l.yielded * 2 ^ 58;
      few : length l.yielded + length l.c-iterator.b.rest.now ≤ 9;
      form : AllWithin (2 ^ 31) l.c-iterator.a.rest.now;
      setting : AllWithin (2 ^ 27) l.c-iterator.b.rest.now;
      value : l.sum.value +ℤ dot l.c-iterator.a.rest.now l.c-iterator.b.rest.now ≡ at l.form 9 +ℤ dot l.form l.setting;
    }
