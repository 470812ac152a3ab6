-- The tree that a sheet lists, as a page.
use Rattle.std.proofs.Common.{◌≡◌, ℕ, List, ℤ, None, Ok, Err, IfOk, Option, Result, sym, refl, ap, ◌∙◌, subst}
use Rattle.base.specs.declared.refusal.Refusal.{Refusal}
use Rattle.source.specs.Systems.{System}
use Rattle.store.specs.Stores.{Meaning, fresh}
use Rattle.tree.specs.Finds.{found_in, left_of, said_of}
use Rattle.tree.proofs.Walking.{as_within}
use Rattle.page.specs.Pages.{IsPage}
use Rattle.page.specs.Readings.{Whole, whole}
use Rattle.page.specs.Records.{page_of}
use Rattle.page.specs.Replies.{replied}
use Rattle.page.proofs.Reading.{written as accepted_page}
use Rattle.page.proofs.Regained.{page-back}
use Rattle.page.proofs.Replying.{replies_as_tree}
use Rattle.solver.specs.declared.run.Solved.{Solved}
use Rattle.solver.specs.declared.count.Stopped.{Stopped}
use Rattle.solver.specs.Solves.{context_of, counted_answer, solve_answer, solved, written}
use Rattle.solver_laws.proofs.Counted.{nodes-counted}
use Rattle.solver_laws.proofs.Limits.{tree-limits}
use Rattle.sheet.specs.Sheets.{replaced, solved_here, uncounted}
use Rattle.sheet.specs.Events.{Find, find}
use Rattle.sheet.specs.Arrangements.{Gives, after_all}
use Rattle.sheet.specs.Paged.{PageStands, RepliesAlike, SolvedPages}
use Rattle.sheet.proofs.Alike.{accepted}
use Rattle.sheet.proofs.Solving.{uncounted-answer}
use Rattle.sheet.proofs.Standing.{Stands, TreeOf, all-stands}

pub page-of-tree : SolvedPages
page-of-tree S fuel room t c e =
    let w : Whole = whole S.n S.p (context_of S) t in
    let page : IsPage (page_of (written S t)) w = (tree-limits S fuel room t c e, refl) in
    (accepted_page (page_of (written S t)) w page ∙ ap Ok (sym (nodes-counted S fuel room t c e)), page-back (page_of (written S t)) w page)

-- an accepted solve
pub page-stands : (m : Meaning) (S : System) (fuel : ℤ) (room : ℕ) (r : Result Solved Refusal) (n : Meaning) → r ≡ solve_answer (solved_here m S fuel room) → n ≡ replaced m S (solved_here m S fuel room) →
    IfOk r (λ v. PageStands n.nodes v.nodes)
page-stands m S fuel room (Err x) n h is = tt
page-stands m S fuel room (Ok v) n h is =
    let A = accepted m S (solved S fuel room) v (sym h) in
    let lists : n.nodes ≡ written S A.0.0 = ap (λ (k : Meaning). k.nodes) (is ∙ ap (replaced m S) A.2) in
    subst (λ xs. PageStands xs v.nodes) (sym lists) (subst (λ (u : Solved). PageStands (written S A.0.0) u.nodes) (sym A.3) (page-of-tree S fuel room A.0.0 A.0.1 A.1))

pub page-counted : (m : Meaning) (S : System) (fuel : ℤ) (room : ℕ) (r : Result Solved Stopped) (n : Meaning) → r ≡ counted_answer (solved_here m S fuel room) → n ≡ replaced m S (solved_here m S fuel room) →
    IfOk r (λ v. PageStands n.nodes v.nodes)
page-counted m S fuel room (Err x) n h is = tt
page-counted m S fuel room (Ok v) n h is = page-stands m S fuel room (Ok v) n (ap uncounted h ∙ uncounted-answer (solved_here m S fuel room)) is

-- a find
reply-of : (S : System) (m : Meaning) (point : List ℤ) → TreeOf S m → replied (page_of m.nodes) point ≡ found_in m.nodes point
reply-of S m point h =
    let fits = tree-limits S h.fuel h.room h.tree h.count h.is in
    replies_as_tree (page_of m.nodes) point S.n S.p (context_of S) h.tree fits (ap page_of h.lists)
    ∙ sym (ap (λ xs. found_in xs point) h.lists ∙ as_within (written S h.tree) point S.n S.p (context_of S) h.tree fits refl)

pub replies-alike : (m : Meaning) (f : Find) → Gives m (find f) → RepliesAlike m f
replies-alike m f g before l S now =
    let at_end = all-stands (fresh m.capacity m.costs) None before l.made refl in
    let h : TreeOf S m = subst (TreeOf S) l.now (subst (λ (o : Option System). Stands o (after_all (fresh m.capacity m.costs) before)) now at_end) in
    let e = reply-of S m f.point h in
    (g.0 ∙ ap said_of (sym e), g.1 ∙ ap left_of (sym e))
