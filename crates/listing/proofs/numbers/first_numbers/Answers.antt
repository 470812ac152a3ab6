use Rattle.std.proofs.Common.{length, take, Some, Err, sym, ap, ◌∙◌, arith, w64, SFits, rules}
use Rattle.std.proofs.lemmas.Result.{err_from_is_err_and}
use Rattle.std.proofs.lemmas.Int.{to_z-of_z}
use Rattle.listing.specs.Listings.{reached}
use Rattle.listing.proofs.NumberSteps.{place-filled, no_number}
use Rattle.listing.proofs.numbers.first_numbers.Goals as goal

pub loop-place-preserved : goal.loop-place-preserved
loop-place-preserved c =
    let n = length c.args.places.now in
    let i = c.loop-place.place-index in
    let places = c.loop-place.places in
    let x = c.in_ok-x.x in
    let f : SFits w64 x = search rules in
    let q = c.in_ok-x.ensures.answer in
    let is = to_z-of_z w64 x f in
    sym (place-filled n i places c.loop-place.rest.now c.in_ok-x.after.now _ (omega arith) (omega arith) (q.0 ∙ ap Some (sym is)) q.1) ∙ c.loop-place.invariant

pub returns-in_err-x : goal.returns-in_err-x
returns-in_err-x c =
    let n = length c.args.places.now in
    let i = c.loop-place.place-index in
    let q = c.in_err-x.ensures.answer in
    let p = err_from_is_err_and c.from_residual.result c.from_residual.ensures.1 in
    let e = no_number n i c.loop-place.rest.now (take i c.loop-place.places) (omega arith) q.0 in
    record { answer = (sym c.loop-place.invariant ∙ e) ∙ sym (ap (reached _) p.1 ∙ ap Err (p.2 ∙ q.1)) }
