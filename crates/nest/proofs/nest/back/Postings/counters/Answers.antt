use Rattle.std.proofs.Common.{◌≡◌, ◌+◌, ◌<◌, Bool, true, false, cond, ◌&&◌, List, [], length, get_or, drop, take, ℤ, pos, ◌-ℤ◌, Ok, Err, sym, ap, ◌∙◌, arith, w64, SFits, to_z, of_z, rules}
use Rattle.std.proofs.lemmas.List.{drop_all, get_or-take, take_all}
use Rattle.std.proofs.lemmas.Int.{to_z-of_z}
use Rattle.std.proofs.lemmas.Result.{err_from_is_err_and}
use Rattle.base.specs.declared.refusal.Refusal.TheVariants.{BeyondBound}
use Rattle.base.specs.Numbers.{at}
use Rattle.base.specs.Forms.{value_at}
use Rattle.tree.specs.Finds.{padded, six_numbers}
use Rattle.tree.proofs.Sixes.{padded-more}
use Rattle.nest.specs.Acts.{nest_of}
use Rattle.nest.specs.Backs.{bounds_less, counter_of, reached, reaches}
use Rattle.nest.proofs.Counters.{at_less, length-less, reached-more, told-accepted, told-refused}
use Rattle.nest.proofs.nest.back.Postings.counters.Goals as goal

pub returns-in_err-counters : goal.returns-in_err-counters
returns-in_err-counters c =
    let s = c.args.self.now.nest.now in
    let B = (nest_of s).bounds in
    let R = c.args.self.now.point.now in
    let xs = c.args.numbers.now in
    let i = c.loop-i.i in
    let n = c.unknowns.result in
    let U = get_or B i [] in
    let f : SFits w64 (get_or (take n xs) i (pos 0)) = search rules in
    let v : to_z w64 (of_z w64 (get_or (take n xs) i (pos 0))) ≡ at xs i = to_z-of_z w64 (get_or (take n xs) i (pos 0)) f ∙ get_or-take n xs i (pos 0) (omega arith) in
    let d = c.in_err-counters.field-0.0 in
    let t = told-refused (reaches U R (at xs i)) (value_at U R -ℤ at xs i) d BeyondBound (c.in_err-counters.ensures.answer ∙ ap (counter_of U R) v) in
    let m = reached-more B R xs i (omega (arith, s.each_bounded, c.unknowns.ensures.value)) (search rules) in
    let r : reached B R xs ≡ false = sym c.loop-i.invariant.reach ∙ (m ∙ ap (λ (b : Bool). b && reached (drop (i + 1) B) R (drop (i + 1) xs)) t.0) in
    let p = err_from_is_err_and c.from_residual.result c.from_residual.ensures.1 in
    record { answer = p.1 ∙ (ap Err (p.2 ∙ t.1) ∙ sym (ap (λ (b : Bool). cond b (Ok (six_numbers (bounds_less B R xs))) (Err BeyondBound)) r)) }

pub loop-i-preserved : goal.loop-i-preserved
loop-i-preserved c =
    let s = c.args.self.now.nest.now in
    let B = (nest_of s).bounds in
    let R = c.args.self.now.point.now in
    let xs = c.args.numbers.now in
    let i = c.loop-i.i in
    let n = c.unknowns.result in
    let U = get_or B i [] in
    let f : SFits w64 (get_or (take n xs) i (pos 0)) = search rules in
    let v : to_z w64 (of_z w64 (get_or (take n xs) i (pos 0))) ≡ at xs i = to_z-of_z w64 (get_or (take n xs) i (pos 0)) f ∙ get_or-take n xs i (pos 0) (omega arith) in
    let y = c.in_ok-counters.field-0 in
    let t = told-accepted (reaches U R (at xs i)) y (value_at U R -ℤ at xs i) BeyondBound (c.in_ok-counters.ensures.answer ∙ ap (counter_of U R) v) in
    let hB : i < length B = omega (arith, s.each_bounded, c.unknowns.ensures.value) in
    let hx : i < length xs = search rules in
    let m = reached-more B R xs i hB hx in
    let g : SFits w64 y = search rules in
    let six : length xs ≡ 6 = search rules in
    let l : length (bounds_less B R xs) ≡ length B = length-less B R xs (omega (arith, s.each_bounded, six)) in
    record {
      reach = sym (m ∙ ap (λ (b : Bool). b && reached (drop (i + 1) B) R (drop (i + 1) xs)) t.0) ∙ c.loop-i.invariant.reach;
      written = padded-more 6 (bounds_less B R xs) i c.loop-i.counters (to_z w64 (of_z w64 y)) (omega (arith, l, hB)) (omega (arith, hx, six)) (to_z-of_z w64 y g ∙ (t.1 ∙ sym (at_less B R xs i hB hx))) c.loop-i.invariant.written;
    }

pub returns : goal.returns
returns c =
    let s = c.args.self.now.nest.now in
    let B = (nest_of s).bounds in
    let R = c.args.self.now.point.now in
    let xs = c.args.numbers.now in
    let i = c.loop-i.i in
    let six : length xs ≡ 6 = search rules in
    let l : length (bounds_less B R xs) ≡ length B = length-less B R xs (omega (arith, s.each_bounded, six)) in
    let r : reached B R xs ≡ true = sym c.loop-i.invariant.reach ∙ ap (λ (Us : List (List ℤ)). reached Us R (drop i xs)) (drop_all i B (omega (arith, s.each_bounded, c.unknowns.ensures.value))) in
    let w = c.loop-i.invariant.written ∙ ap (padded 6) (take_all i (bounds_less B R xs) (omega (arith, l, s.each_bounded, c.unknowns.ensures.value))) in
    record { answer = ap Ok w ∙ sym (ap (λ (b : Bool). cond b (Ok (six_numbers (bounds_less B R xs))) (Err BeyondBound)) r) }
