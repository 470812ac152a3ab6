use Rattle.std.proofs.Common.{◌≡◌, ◌+◌, ◌≤◌, [], ◌∷◌, ◌++◌, length, take, sym, ap, ◌∙◌, subst}
use Rattle.std.proofs.lemmas.List.{take_all, take_more}
use Rattle.sheet.specs.Arrangements.{Gives, after}
use Rattle.sheet.specs.Logs.{Log, Logs, work_left}
use Rattle.sheet.proofs.Arranged.{leads-on, reach-on}
use Rattle.sheet.proofs.Running.{after-append, log-more, made-append, work-append}
use Rattle.sheet.proofs.run.run.Goals as goal

pub loop-call-preserved : goal.loop-call-preserved
loop-call-preserved g c =
    let m = c.args.sheet.now in
    let w = c.args.work.now in
    let meaning = g.S.Source.meaning in
    let i = c.loop-call.invariant in
    let k = c.make.ensures.made in
    let xs = c.args.calls.now in
    let x = c.call-item.result in
    let j = c.loop-call.call-index in
    let e = k.0 ∷ [] in
    let calls : take (j + 1) xs ≡ take j xs ++ x ∷ [] = take_more xs j x c.loop-call-test.true ∙ ap (λ y. take j xs ++ y ∷ []) (sym c.call-item.is) in
    let here = subst (λ n. Logs meaning n x c.make.result k.0) c.loop-call.auto.work k.1 in
    let log = log-more meaning (length w) (take j xs) c.loop-call.answers.items i.0 x c.make.result k.0 i.1 here in (
      i.0 ++ e,
      subst (λ cs. Log meaning (length w) cs c.push_reserved.new.self.items (i.0 ++ e)) (sym calls) (subst (λ ys. Log meaning (length w) (take j xs ++ x ∷ []) ys (i.0 ++ e)) (sym c.push_reserved.ensures.items) log),
      made-append m i.0 e i.2 (subst (λ n. Gives n k.0) i.3 k.2, tt),
      k.3 ∙ ap (λ n. after n k.0) i.3 ∙ sym (after-append m i.0 e),
      k.4 ∙ ap (λ v. work_left v e) i.4 ∙ sym (work-append w i.0 e),
      c.push_reserved.ensures.len ∙ ap (λ n. n + 1) i.5,
      subst (λ n. length xs ≤ n) (sym c.push_reserved.ensures.capacity) i.6,
    )

pub returns-clause-ran : goal.returns-clause-ran
returns-clause-ran g c =
    let i = c.loop-call.invariant in
    let xs = c.args.calls.now in (
      i.0,
      subst (λ cs. Log g.S.Source.meaning (length c.args.work.now) cs c.loop-call.answers.items i.0) (take_all c.loop-call.call-index xs c.loop-call-test.false) i.1,
      i.2,
      i.3,
      leads-on c.args.sheet.now i.0 c.loop-call.sheet i.2 i.3,
      i.4,
    )

pub returns-clause-reached : goal.returns-clause-reached
returns-clause-reached g c =
    let i = c.loop-call.invariant in
    let m = c.args.sheet.now in
    reach-on m i.0 c.loop-call.sheet (leads-on m i.0 c.loop-call.sheet i.2 i.3) c.was_reached.ensures.reached
