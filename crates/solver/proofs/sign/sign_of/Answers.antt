use Rattle.std.proofs.Common.{cond, Ok, Err, sym, refl, ap, ◌∙◌}
use Rattle.std.proofs.lemmas.Result.{err_from_is_err_and, IfOk-from_err}
use Rattle.solver.specs.declared.sign.Sign.TheVariants.{Negative, Unknown}
use Rattle.solver.specs.Rules.{test_with}
use Rattle.solver.specs.Ties.{limits}
use Rattle.solver.proofs.Keeping.{same_refl, same-trans, stepped-refl, stepped-trans}
use Rattle.solver.proofs.Signing.{above-done, known_same, sign-broken, sign-negative, sign-nonnegative, sign-not-below, sign-second}
use Rattle.solver.proofs.sign.sign_of.Goals as goal

pub returns-then-none_below : goal.returns-then-none_below
returns-then-none_below c =
    record {
      value = λ s n k. sign-nonnegative s c.args.form.now (limits c.args.fuel n) c.args.count (sym c.if-none_below.ensures.value);
      kept = same_refl c.args.ctx.now;
      nodes = refl;
      stepped = stepped-refl c.args.fuel c.args.count c.requires.within;
    }

pub returns-then-plainly_negative : goal.returns-then-plainly_negative
returns-then-plainly_negative c =
    record {
      value = λ s n k. sign-negative s c.args.form.now (limits c.args.fuel n) c.args.count (sym c.if-none_below.ensures.value) (sym c.if-plainly_negative.ensures.value);
      kept = same_refl c.args.ctx.now;
      nodes = refl;
      stepped = stepped-refl c.args.fuel c.args.count c.requires.within;
    }

pub returns-in_err-below : goal.returns-in_err-below
returns-in_err-below c =
    let p = err_from_is_err_and c.from_residual.result c.from_residual.ensures.1 in
    let o = c.opposite-other.ensures in
    record {
      value = λ s n k.
          sign-broken s c.args.form.now (limits c.args.fuel n) c.args.count (sym c.if-none_below.ensures.value) (sym c.if-plainly_negative.ensures.value) c.in_err-below.field-0.0
          (ap (λ C. test_with s C (limits c.args.fuel n) c.args.count) (sym o) ∙ c.test_with.ensures.value s n k ∙ c.in_err-below.was)
          ∙ sym (p.1 ∙ ap Err p.2);
      kept = c.test_with.ensures.kept;
      nodes = IfOk-from_err _ _ c.from_residual.ensures.0;
      stepped = IfOk-from_err _ _ c.from_residual.ensures.0;
    }

pub returns-then-not-below : goal.returns-then-not-below
returns-then-not-below c =
    record {
      value = λ s n k. sign-not-below s c.args.form.now (limits c.args.fuel n) c.args.count (sym c.if-none_below.ensures.value) (sym c.if-plainly_negative.ensures.value) c.in_ok-below.count (ap (λ C. test_with s C (limits c.args.fuel n) c.args.count) (sym c.opposite-other.ensures) ∙ c.test_with.ensures.value s n k ∙ c.in_ok-below.was ∙ ap (λ b. Ok (b, c.in_ok-below.count)) c.if-not-below.true);
      kept = c.test_with.ensures.kept;
      nodes = c.in_ok-below.ensures.nodes;
      stepped = c.in_ok-below.ensures.stepped;
    }

pub returns-in_err-above : goal.returns-in_err-above
returns-in_err-above c =
    let p = err_from_is_err_and c.from_residual-in_err-above.result c.from_residual-in_err-above.ensures.1 in
    record {
      value = λ s n k.
          sign-second s c.args.form.now (limits c.args.fuel n) c.args.count (sym c.if-none_below.ensures.value) (sym c.if-plainly_negative.ensures.value) c.in_ok-below.count (ap (λ C. test_with s C (limits c.args.fuel n) c.args.count) (sym c.opposite-other.ensures) ∙ c.test_with.ensures.value s n k ∙ c.in_ok-below.was ∙ ap (λ b. Ok (b, c.in_ok-below.count)) c.if-not-below.false) (Err c.in_err-above.field-0.0) (c.test_with-2.ensures.value s n (known_same c.args.ctx.now c.test_with.new.ctx s c.test_with.ensures.kept k) ∙ c.in_err-above.was)
          ∙ sym (p.1 ∙ ap Err p.2);
      kept = same-trans c.args.ctx.now c.test_with.new.ctx c.test_with-2.new.ctx c.test_with.ensures.kept c.test_with-2.ensures.kept;
      nodes = IfOk-from_err _ _ c.from_residual-in_err-above.ensures.0;
      stepped = IfOk-from_err _ _ c.from_residual-in_err-above.ensures.0;
    }

pub returns-then-above : goal.returns-then-above
returns-then-above c =
    record {
      value = λ s n k.
          sign-second s c.args.form.now (limits c.args.fuel n) c.args.count (sym c.if-none_below.ensures.value) (sym c.if-plainly_negative.ensures.value) c.in_ok-below.count (ap (λ C. test_with s C (limits c.args.fuel n) c.args.count) (sym c.opposite-other.ensures) ∙ c.test_with.ensures.value s n k ∙ c.in_ok-below.was ∙ ap (λ b. Ok (b, c.in_ok-below.count)) c.if-not-below.false) (Ok (c.in_ok-above.above, c.in_ok-above.count)) (c.test_with-2.ensures.value s n (known_same c.args.ctx.now c.test_with.new.ctx s c.test_with.ensures.kept k) ∙ c.in_ok-above.was)
          ∙ above-done (limits c.args.fuel n) c.in_ok-above.count c.in_ok-above.above ∙ ap (λ b. Ok (cond b Unknown Negative, c.in_ok-above.count)) c.if-above.true;
      kept = same-trans c.args.ctx.now c.test_with.new.ctx c.test_with-2.new.ctx c.test_with.ensures.kept c.test_with-2.ensures.kept;
      nodes = c.in_ok-above.ensures.nodes ∙ c.in_ok-below.ensures.nodes;
      stepped = stepped-trans c.args.fuel c.args.count c.in_ok-below.count c.in_ok-above.count c.in_ok-below.ensures.stepped c.in_ok-above.ensures.stepped;
    }

pub returns-else-above : goal.returns-else-above
returns-else-above c =
    record {
      value = λ s n k.
          sign-second s c.args.form.now (limits c.args.fuel n) c.args.count (sym c.if-none_below.ensures.value) (sym c.if-plainly_negative.ensures.value) c.in_ok-below.count (ap (λ C. test_with s C (limits c.args.fuel n) c.args.count) (sym c.opposite-other.ensures) ∙ c.test_with.ensures.value s n k ∙ c.in_ok-below.was ∙ ap (λ b. Ok (b, c.in_ok-below.count)) c.if-not-below.false) (Ok (c.in_ok-above.above, c.in_ok-above.count)) (c.test_with-2.ensures.value s n (known_same c.args.ctx.now c.test_with.new.ctx s c.test_with.ensures.kept k) ∙ c.in_ok-above.was)
          ∙ above-done (limits c.args.fuel n) c.in_ok-above.count c.in_ok-above.above ∙ ap (λ b. Ok (cond b Unknown Negative, c.in_ok-above.count)) c.if-above.false;
      kept = same-trans c.args.ctx.now c.test_with.new.ctx c.test_with-2.new.ctx c.test_with.ensures.kept c.test_with-2.ensures.kept;
      nodes = c.in_ok-above.ensures.nodes ∙ c.in_ok-below.ensures.nodes;
      stepped = stepped-trans c.args.fuel c.args.count c.in_ok-below.count c.in_ok-above.count c.in_ok-below.ensures.stepped c.in_ok-above.ensures.stepped;
    }
