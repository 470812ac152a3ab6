use Rattle.std.proofs.Common.{◌≡◌, ℕ, ◌-◌, List, length, Err, sym, refl, ap, ◌∙◌, subst, rules}
use Rattle.base.specs.Refusals.{report_of, reported}
use Rattle.page.specs.declared.record.Flaw.{Flaw}
use Rattle.page.specs.declared.record.Flaw.TheVariants.{Length, Kind, Number, Depth}
use Rattle.page.specs.Readings.{Out, Whole, done, fault, reading}
use Rattle.page.specs.Pages.{Accepted, Refused, WrittenAccepted, check_report_as, checked, checked_as, flaw_report, refusal_of}
use Rattle.page.proofs.Checking.{bytes_of}
use Rattle.page.proofs.Reading.{refused, written}
use Rattle.page.proofs.Regained.{accepted}
use Rattle.page.proofs.check.check.Goals as goal

flaw-reports : (f : Flaw) (offset : ℕ) → report_of (refusal_of f offset) ≡ flaw_report f offset
flaw-reports Length offset = refl
flaw-reports Kind offset = refl
flaw-reports Number offset = refl
flaw-reports Depth offset = refl

reports : (bs : List ℕ) (o : Out Whole) → reported (checked_as bs o) ≡ check_report_as bs o
reports bs (done w r) = refl
reports bs (fault f r) = ap Err (flaw-reports f (length bs - length r))

pub returns : goal.returns
returns c =
    let bs = c.args.page.now in
    let e : c.map_err.result ≡ checked bs = search rules in
    record {
      answer = e;
      report = ap reported e ∙ reports bs (reading bs);
      accepted = subst (Accepted bs) (sym e) (accepted bs (bytes_of bs c.type_inv.page));
      written = subst (WrittenAccepted bs) (sym e) (written bs);
      refused = subst (Refused bs) (sym e) (refused bs);
    }
