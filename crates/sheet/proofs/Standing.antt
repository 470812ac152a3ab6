-- What the store lists is the tree of the standing system, and so finds are right.
use Rattle.std.proofs.Common.{◌≡◌, ℕ, List, [], ◌∷◌, map, ℤ, pos, Some, None, Ok, Err, Option, Result, IsOk, sym, refl, ap, ◌∙◌, subst, inl, inr}
use Rattle.base.specs.declared.refusal.Refusal.{Refusal}
use Rattle.base.specs.declared.refusal.Refusal.TheVariants.{NoTree, OutsideKeep, PointLength, PointNumber}
use Rattle.base.specs.declared.refusal.Report.{Report}
use Rattle.base.specs.declared.refusal.Values.TheVariants.{None as NoValues}
use Rattle.base.specs.Refusals.{report_of, reported}
use Rattle.source.specs.Systems.{MeetsContext, System}
use Rattle.store.specs.Stores.{Meaning, install_answer}
use Rattle.base.specs.Numbers.{zeros}
use Rattle.tree.specs.Answers.{answer_at}
use Rattle.tree.specs.Finds.{found_in, left_of, said_of, six_numbers}
use Rattle.tree.specs.Questions.{asked}
use Rattle.tree.specs.Trees.{Tree}
use Rattle.tree.proofs.Walking.{as_within}
use Rattle.solver.specs.declared.count.Count.{Count}
use Rattle.solver.specs.Runs.{Outcome}
use Rattle.solver.specs.Solves.{context_of, solve_answer, solved, written}
use Rattle.solver_laws.specs.Meaning.{RightAnswer}
use Rattle.solver_laws.proofs.Closed.{no-path}
use Rattle.solver_laws.proofs.Least.{least-point}
use Rattle.solver_laws.proofs.Limits.{tree-limits}
use Rattle.sheet.specs.Sheets.{after_install, held, replaced}
use Rattle.sheet.specs.Events.{Event, Find, find, solve, wipe, standing_after, standing_by}
use Rattle.sheet.specs.Arrangements.{Gives, Made, after, after_all}
use Rattle.sheet.specs.Laws.{FindRight, Refuses}
use Rattle.sheet.proofs.Asking.{Way, answered, far, long, outside, way}

-- the nodes are those of a tree that some solve of the system answers
pub record TreeOf (S : System) (m : Meaning) : Type 0 where
  pub fuel : ℤ
  pub room : ℕ
  pub tree : Tree
  pub count : Count
  pub is : solved S fuel room ≡ Ok (tree, count)
  pub lists : m.nodes ≡ written S tree

abbrev pub Stands : Option System → Meaning → Type 0
Stands None m = m.nodes ≡ []
Stands (Some S) m = TreeOf S m

-- ---- one call, and several
solve-stands : (m : Meaning) (now : Option System) (S : System) (fuel : ℤ) (room : ℕ) (o : Outcome Tree) → solved S fuel room ≡ o → Stands now m →
    Stands (standing_by now S (solve_answer (held m S o))) (replaced m S (held m S o))
solve-stands m now S fuel room (Ok w) e h = go (install_answer m (written S w.0))
  where
    go : (a : Result (Unit {0}) Refusal) → Stands (standing_by now S (solve_answer (after_install a w))) (replaced m S (after_install a w))
    go (Ok _) = record { fuel = fuel; room = room; tree = w.0; count = w.1; is = e; lists = refl }
    go (Err r) = h
solve-stands m now S fuel room (Err r) e h = h

pub all-stands : (m : Meaning) (now : Option System) (events : List Event) → Made m events → Stands now m → Stands (standing_after now events) (after_all m events)
all-stands m now [] g h = h
all-stands m now (solve s ∷ es) g h =
    let m' = after m (solve s) in
    let step = solve-stands m now s.system s.fuel s.room (solved s.system s.fuel s.room) refl h in
    all-stands m' (standing_by now s.system s.answer) es g.1 (subst (λ a. Stands (standing_by now s.system a) m') (sym g.0.0) step)
all-stands m now (find f ∷ es) g h = all-stands m now es g.1 h
all-stands m now (wipe n ∷ es) g h = all-stands (after m (wipe n)) None es g.1 refl

-- ---- a find
not-ok : {A : Type 0} (r : Result A Refusal) (e : Refusal) → r ≡ Err e → ¬ IsOk r
not-ok (Ok x) e q h = no-path cc
not-ok (Err x) e q h = no-path cc

-- a number without values
abbrev plain : ℕ → Report
plain n = record { number = n; values = NoValues }

module _ (S : System) (f : Find) where
  -- where the rules refuse it by one number alone, and it is refused so
  refused-right : (e : Refusal) (number : ℕ) → report_of e ≡ plain number → Refuses (Some S) f.point number → ((n : ℕ) → Refuses (Some S) f.point n → n ≡ number) → f.answer ≡ Err e → f.place ≡ zeros 6 → FindRight (Some S) f
  refused-right e number is so only q left = let same : (x : Refusal) → f.answer ≡ Err x → e ≡ x = λ x p. cc in record {
    named = λ p. absurd (no-path cc);
    refused = record { only = λ x p. (number, (ap report_of (sym (same x p)) ∙ is, so)); whenever = λ n h. ap reported q ∙ ap Err (is ∙ ap plain (sym (only n h))) };
    none = λ ok. absurd (not-ok f.answer e q ok);
    otherwise = λ _. left;
  }

  -- where the rules refuse it not, and it is answered right
  answered-right : ((n : ℕ) → ¬ Refuses (Some S) f.point n) → (z : List ℕ) → f.point ≡ map pos z → (o : Option (List ℤ)) → RightAnswer S z o → f.answer ≡ said_of (Ok o) → f.place ≡ left_of (Ok o) → FindRight (Some S) f
  answered-right no_refusal z is (Some values) (x, e, (p, first)) said left = record {
    named = λ _. record { parameters = z; unknowns = x; asked = is; named = left ∙ ap six_numbers e; is_point = p; precedes = first };
    refused = record { only = λ r q. absurd (no-path cc); whenever = λ n h. absurd (no_refusal n h) };
    none = λ ok. (z, (is, (λ n. absurd (no-path cc), λ empty. absurd (empty x p))));
    otherwise = λ h. absurd (h said);
  }
  answered-right no_refusal z is None none said left = record {
    named = λ q. absurd (no-path cc);
    refused = record { only = λ r q. absurd (no-path cc); whenever = λ n h. absurd (no_refusal n h) };
    none = λ ok. (z, (is, (λ n. none, λ empty. said)));
    otherwise = λ h. left;
  }

  way-right : (t : Tree) → ((z : List ℕ) → MeetsContext S z → RightAnswer S z (answer_at t z)) → (o : Result (Option (List ℤ)) Refusal) → Way S t f.point o → f.answer ≡ said_of o → f.place ≡ left_of o → FindRight (Some S) f
  way-right t right _ (long l) said left = refused-right PointLength 42 refl (inl (l, refl)) only said left
    where
      only : (n : ℕ) → Refuses (Some S) f.point n → n ≡ 42
      only n (inl h) = h.1
      only n (inr (inl h)) = absurd (l h.0)
      only n (inr (inr h)) = absurd (l h.0)
  way-right t right _ (far l r) said left = refused-right PointNumber 43 refl (inr (inl (l, (r, refl)))) only said left
    where
      only : (n : ℕ) → Refuses (Some S) f.point n → n ≡ 43
      only n (inl h) = absurd (h.0 l)
      only n (inr (inl h)) = h.1.1
      only n (inr (inr h)) = absurd (r h.1.0)
  way-right t right _ (outside l r k) said left = refused-right OutsideKeep 44 refl (inr (inr (l, (r, (k, refl))))) only said left
    where
      only : (n : ℕ) → Refuses (Some S) f.point n → n ≡ 44
      only n (inl h) = absurd (h.0 l)
      only n (inr (inl h)) = absurd (h.1.0 r)
      only n (inr (inr h)) = h.1.1.1
  way-right t right _ (answered l r z is m) said left = answered-right none z is (answer_at t z) (right z m) said left
    where
      none : (n : ℕ) → ¬ Refuses (Some S) f.point n
      none n (inl h) = h.0 l
      none n (inr (inl h)) = h.1.0 r
      none n (inr (inr h)) = h.1.1.0 z is m

pub find-right : (now : Option System) (m : Meaning) → Stands now m → (f : Find) → Gives m (find f) → FindRight now f
find-right None m h f g =
    let said : f.answer ≡ Err NoTree = g.0 ∙ ap (λ xs. said_of (found_in xs f.point)) h in
    let same : (x : Refusal) → f.answer ≡ Err x → NoTree ≡ x = λ x p. cc in
    record {
      named = λ q. no-path cc;
      refused = record { only = λ e q. (41, (ap report_of (sym (same e q)), refl)); whenever = λ n q. ap reported said ∙ ap Err (ap plain (sym q)) };
      none = not-ok f.answer NoTree said;
      otherwise = λ _. g.1 ∙ ap (λ xs. left_of (found_in xs f.point)) h;
    }
find-right (Some S) m h f g =
    let e : found_in m.nodes f.point ≡ asked S.p (context_of S) h.tree f.point =
    ap (λ xs. found_in xs f.point) h.lists ∙ as_within (written S h.tree) f.point S.n S.p (context_of S) h.tree (tree-limits S h.fuel h.room h.tree h.count h.is) refl in
    way-right S f h.tree (least-point S h.fuel h.room h.tree h.count h.is) (asked S.p (context_of S) h.tree f.point) (way S h.tree f.point) (g.0 ∙ ap said_of e) (g.1 ∙ ap left_of e)
