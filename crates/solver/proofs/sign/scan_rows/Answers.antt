use Rattle.std.proofs.Common.{◌≡◌, ℕ, ◌+◌, ◌<◌, get_or, drop, Ok, Err, sym, refl, ap, ◌∙◌, subst, arith}
use Rattle.std.proofs.lemmas.Result.{err_from_is_err_and, IfOk-from_err}
use Rattle.std.proofs.lemmas.List.{at_drop_all, get_or-take, length-take}
use Rattle.tableau.specs.Tables.{in_use, no_row}
use Rattle.solver.specs.declared.sign.Scan.{Scan as Found}
use Rattle.solver.specs.Bounds.{SameContext, ScanBelow, Stepped}
use Rattle.solver.specs.Rules.{Work, scan, sign_in}
use Rattle.solver.specs.Ties.{KnownAs, limits, scanned_at}
use Rattle.solver.proofs.Keeping.{same-trans, stepped-trans}
use Rattle.solver.proofs.Signing.{NotYet, below-unsure, below-up, known_same, not-yet-unsure, remembered, remembers-end, scan-broken, scan-end, scan-negative, scan-nonnegative, scan-unknown}
use Rattle.solver.proofs.Turning.{used-more}
use Rattle.solver.proofs.sign.scan_rows.Goals as goal
use Rattle.solver.proofs.sign.scan_rows.Goals.{in-NonNegative, in-Unknown}

pub returns-in_err-s : goal.returns-in_err-s
returns-in_err-s c =
    let t = c.args.t.now in
    let h = c.loop-h.h in
    let row = get_or t.rows h no_row in
    let lt : h < t.count = omega (arith, length-take t.count t.rows) in
    let same : get_or (in_use t) h no_row ≡ row = get_or-take t.count t.rows h no_row lt in
    let i = c.loop-h.invariant in
    let p = err_from_is_err_and c.from_residual.result c.from_residual.ensures.1 in
    record {
      value = λ s n k.
          i.4 s n k ∙ used-more (λ rs. remembered t.rows c.loop-h.found (scan (sign_in s) rs (limits c.args.fuel n) c.loop-h.count)) t h c.loop-h-test.true
          ∙ scan-broken (sign_in s) t.rows c.loop-h.found row (drop (h + 1) (in_use t)) (limits c.args.fuel n) c.loop-h.count c.in_err-s.field-0.0 (ap (λ r. sign_in s r.form (limits c.args.fuel n) c.loop-h.count) (sym same) ∙ c.sign_of.ensures.value s n (known_same c.args.ctx.now c.loop-h.ctx s i.0 k) ∙ c.in_err-s.was)
          ∙ sym (ap (scanned_at t.rows) (p.1 ∙ ap Err p.2));
      kept = same-trans c.args.ctx.now c.loop-h.ctx c.sign_of.new.ctx i.0 c.sign_of.ensures.kept;
      inside = IfOk-from_err _ _ c.from_residual.ensures.0;
      nodes = IfOk-from_err _ _ c.from_residual.ensures.0;
      stepped = IfOk-from_err _ _ c.from_residual.ensures.0;
    }

pub returns-in-Negative : goal.returns-in-Negative
returns-in-Negative c =
    let t = c.args.t.now in
    let h = c.loop-h.h in
    let row = get_or t.rows h no_row in
    let lt : h < t.count = omega (arith, length-take t.count t.rows) in
    let same : get_or (in_use t) h no_row ≡ row = get_or-take t.count t.rows h no_row lt in
    let i = c.loop-h.invariant in
    record {
      value = λ s n k.
          i.4 s n k ∙ used-more (λ rs. remembered t.rows c.loop-h.found (scan (sign_in s) rs (limits c.args.fuel n) c.loop-h.count)) t h c.loop-h-test.true
          ∙ scan-negative (sign_in s) t.rows c.loop-h.found row (drop (h + 1) (in_use t)) (limits c.args.fuel n) c.loop-h.count c.in_ok-s.next (ap (λ r. sign_in s r.form (limits c.args.fuel n) c.loop-h.count) (sym same) ∙ c.sign_of.ensures.value s n (known_same c.args.ctx.now c.loop-h.ctx s i.0 k) ∙ c.in_ok-s.was ∙ ap (λ x. Ok (x, c.in_ok-s.next)) c.in-Negative.is);
      kept = same-trans c.args.ctx.now c.loop-h.ctx c.sign_of.new.ctx i.0 c.sign_of.ensures.kept;
      inside = lt;
      nodes = c.in_ok-s.ensures.nodes ∙ i.5;
      stepped = stepped-trans c.args.fuel c.args.start c.loop-h.count c.in_ok-s.next i.2 c.in_ok-s.ensures.stepped;
    }

pub returns : goal.returns
returns c =
    let t = c.args.t.now in
    let i = c.loop-h.invariant in
    record {
      value = λ s n k.
          i.4 s n k ∙ at_drop_all (λ rs. remembered t.rows c.loop-h.found (scan (sign_in s) rs (limits c.args.fuel n) c.loop-h.count)) (in_use t) c.loop-h.h c.loop-h-test.false
          ∙ ap (remembered t.rows c.loop-h.found) (scan-end (sign_in s) (limits c.args.fuel n) c.loop-h.count) ∙ remembers-end t.rows c.loop-h.found c.loop-h.count i.3;
      kept = i.0;
      inside = below-up c.loop-h.found c.loop-h.h t.count (omega (arith, length-take t.count t.rows)) i.1;
      nodes = i.5;
      stepped = i.2;
    }

pub loop-h-preserved : goal.loop-h-preserved
loop-h-preserved c =
    let t = c.args.t.now in
    let h = c.loop-h.h in
    let row = get_or t.rows h no_row in
    let lt : h < t.count = omega (arith, length-take t.count t.rows) in
    let same : get_or (in_use t) h no_row ≡ row = get_or-take t.count t.rows h no_row lt in
    let i = c.loop-h.invariant in
    let kept = same-trans c.args.ctx.now c.loop-h.ctx c.sign_of.new.ctx i.0 c.sign_of.ensures.kept in
    let on = stepped-trans c.args.fuel c.args.start c.loop-h.count c.in_ok-s.next i.2 c.in_ok-s.ensures.stepped in
    let nodes = c.in_ok-s.ensures.nodes ∙ i.5 in
    let G : Found → Type 0 = λ f. SameContext c.args.ctx.now c.sign_of.new.ctx × ScanBelow (h + 1) f × Stepped c.args.fuel c.args.start c.in_ok-s.next × NotYet f
    × ((s : Work) (n : ℕ) → KnownAs c.args.ctx.now s → scan (sign_in s) (in_use t) (limits c.args.fuel n) c.args.start ≡ remembered t.rows f (scan (sign_in s) (drop (h + 1) (in_use t)) (limits c.args.fuel n) c.in_ok-s.next))
    × (c.in_ok-s.next.nodes ≡ c.args.start.nodes) in
    elim c.match-s.branch [
      | in-NonNegative w ↦
          subst G (sym w.found-is) (
            kept,
            below-up c.loop-h.found h (h + 1) (omega arith) i.1,
            on,
            i.3,
            λ s n k.
                i.4 s n k ∙ used-more (λ rs. remembered t.rows c.loop-h.found (scan (sign_in s) rs (limits c.args.fuel n) c.loop-h.count)) t h c.loop-h-test.true
                ∙ scan-nonnegative (sign_in s) t.rows c.loop-h.found row (drop (h + 1) (in_use t)) (limits c.args.fuel n) c.loop-h.count c.in_ok-s.next (ap (λ r. sign_in s r.form (limits c.args.fuel n) c.loop-h.count) (sym same) ∙ c.sign_of.ensures.value s n (known_same c.args.ctx.now c.loop-h.ctx s i.0 k) ∙ c.in_ok-s.was ∙ ap (λ x. Ok (x, c.in_ok-s.next)) w.in-NonNegative.is),
            nodes,
          )
      | in-Unknown w ↦
          subst G (sym (w.found-is ∙ w.first_unsure-found.ensures.value)) (
            kept,
            below-unsure c.loop-h.found h i.1,
            on,
            not-yet-unsure c.loop-h.found h i.3,
            λ s n k.
                i.4 s n k ∙ used-more (λ rs. remembered t.rows c.loop-h.found (scan (sign_in s) rs (limits c.args.fuel n) c.loop-h.count)) t h c.loop-h-test.true
                ∙ scan-unknown (sign_in s) t.rows c.loop-h.found row (drop (h + 1) (in_use t)) (limits c.args.fuel n) c.loop-h.count c.in_ok-s.next h refl i.3 (ap (λ r. sign_in s r.form (limits c.args.fuel n) c.loop-h.count) (sym same) ∙ c.sign_of.ensures.value s n (known_same c.args.ctx.now c.loop-h.ctx s i.0 k) ∙ c.in_ok-s.was ∙ ap (λ x. Ok (x, c.in_ok-s.next)) w.in-Unknown.is),
            nodes,
          )
    ]
