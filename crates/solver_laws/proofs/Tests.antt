-- A test is right: it answers a point exactly where some setting meets the forms.
use Rattle.std.proofs.Common.{◌≡◌, ℕ, zero, suc, ◌+◌, ◌-◌, ◌<◌, ◌≤◌, Bool, true, false, cond, T, ◌≢◌, List, [], ◌∷◌, ◌++◌, map, length, take, drop, ℤ, pos, negsuc, Some, None, Option, sym, refl, ap, ◌∙◌, subst, arith}
use borrow.Author.Differences.{ints}
use Rattle.std.proofs.lemmas.List.{drop-drop, get_or-append_right, get_or-drop, get_or-set_other, length-append, length-drop, length-take-le, take-append-drop}
use Rattle.base.specs.declared.refusal.Place.TheVariants.{Test}
use Rattle.base.specs.declared.refusal.Refusal.TheVariants.{FuelSpent}
use Rattle.base.specs.Numbers.{at, zeros}
use Rattle.base.specs.Forms.{value_at}
use Rattle.algebra.specs.Lists.{NonNeg}
use Rattle.algebra.proofs.Dots.{dot-zeros, length-zeros}
use Rattle.base.proofs.Zeros.{at-zeros}
use Rattle.algebra.proofs.Naturals.{nonneg-append, nonneg-zeros}
use Rattle.algebra.proofs.Ring.{◌⊕◌, num, ring}
use Rattle.tableau.specs.declared.table.Row.{Row}
use Rattle.tableau.specs.Columns.{entering}
use Rattle.tableau.specs.Cuts.{cut_of, cut_row, first_fraction, is_constant, whole}
use Rattle.tableau_laws.specs.Ends.{NoPoint, NonNegAt}
use Rattle.tableau_laws.specs.Facts.{Point, Right, Satisfied}
use Rattle.tableau_laws.specs.Lines.{In, Line, Shaped, Unused, under}
use Rattle.tableau_laws.specs.Start.{Plain}
use Rattle.tableau_laws.proofs.CutKeeps.{cut_keeps}
use Rattle.tableau_laws.proofs.Leaves.{leaf-right, none_right}
use Rattle.tableau_laws.proofs.Pivots.{pivot-keeps, shape-in}
use Rattle.tableau_laws.proofs.Rows.{of_either}
use Rattle.tableau_laws.proofs.Start.{start_right}
use Rattle.tableau_laws.proofs.Unused.{constant-cut, pivoted-unused, plain-unused, unused-more, unused-of}
use Rattle.tree.specs.Trees.{Tree}
use Rattle.solver.specs.declared.sign.Sign.{Sign}
use Rattle.solver.specs.Tests.{test_row}
use Rattle.tableau.specs.Tables.{unit_rows}
use Rattle.solver.specs.Rules.{Work, fraction, has_point, plenty, sign_of, test, test_work, testing}
use Rattle.solver.proofs.Starting.{test-width}
use Rattle.solver_laws.specs.Meaning.{HasSetting, Meets, Setting, SignOf, Yields}
use Rattle.solver_laws.specs.Places.{AllUse}
use Rattle.solver_laws.proofs.Yields.{y-bind, y-refuse, y-return}
use Rattle.solver_laws.proofs.Gathers.{dot_at, dot-one, gathered}
use Rattle.solver_laws.proofs.Induction.{AllSigned, Sound, plain_work, rows_in, settle-sound}
use Rattle.solver.proofs.Turning.{turned_work}

-- ---- what the ends of the work ask for
pub all-nonneg : (ρ : List ℤ) (rs : List Row) → AllSigned (λ C g. SignOf (value_at C ρ) g) rs → NonNegAt ρ rs
all-nonneg ρ [] h = tt
all-nonneg ρ (r ∷ rs) h = (h.0, all-nonneg ρ rs h.1)

pub no_fraction : (k : ℕ) (rs : List Row) → fraction rs ≡ None → first_fraction k rs ≡ None
no_fraction k [] e = refl
no_fraction k (r ∷ rs) e = go (no_fraction (k + 1) rs) (whole r) e
  where
    go : (fraction rs ≡ None → first_fraction (k + 1) rs ≡ None) → (b : Bool) → cond b (fraction rs) (Some r) ≡ None → cond b (first_fraction (k + 1) rs) (Some k) ≡ None
    go ih true h = ih h
    go ih false h = absurd (subst (λ (o : Option Row). elim o as (λ _. Type 0) [ Some x ↦ Unit {0} | None ↦ ⊥ ]) h tt)

pub apart : {A : Type 0} {b : Bool} → b ≡ true → b ≡ false → A
apart h k = absurd (subst T (sym h ∙ k) tt)

-- ---- the way of a test: every form is a constant
value-zeros : (C : List ℤ) → value_at C (zeros 9) ≡ at C 9
value-zeros C =
    dot_at 9 C (zeros 9) (pos 1 ∷ []) refl ∙ rw (dot-zeros 9 (take 9 C), dot-one (drop 9 C), get_or-drop 9 C 0 (pos 0)) (ring 1 (λ c. (num (pos 0) ⊕ c, c)) refl (at C 9))

sign-right : (z : ℤ) → SignOf z (sign_of z)
sign-right (pos n) = omega (arith, ints)
sign-right (negsuc n) = omega (arith, ints)

abbrev Constants : List Row → Type 0
Constants rs = (q : ℕ) → q < 9 → Unused q rs

module _ (n : ℕ) (sys : List Line) where
  pub record Tested (s : Work) (x : Unit {0}) : Type 0 where
    pub right : Right n sys (zeros 9) s.top s.rest
    pub top-constant : Constants s.top
    pub rest-constant : Constants s.rest

  abbrev Signed : Work → Unit {0} → List ℤ → Sign → Type 0
  Signed s x C g = SignOf (value_at C (zeros 9)) g

  abbrev pub Answered : Bool → Type 0
  Answered true = (x : List ℤ) × Point n sys x
  Answered false = NoPoint n sys

  abbrev TestTree : Work → Unit {0} → Tree → Type 0
  TestTree s x t = Answered (has_point t)

  constant-in : (s : Work) (x : Unit {0}) (r : Row) → Tested s x → In r (rows_in s) → (q : ℕ) → q < 9 → at r.form q ≡ pos 0
  constant-in s x r e m q lt = of_either (Unused q) _ r s.top s.rest (unused-of q r) m (e.top-constant q lt) (e.rest-constant q lt)

  tested-turn : (s : Work) (x : Unit {0}) (i : Row) (j : ℕ) → Tested s x → In i (rows_in s) → entering s.top i ≡ Some j → Tested (turned_work i j s) x
  tested-turn s x i j e m q =
      let ten = (shape-in n sys (zeros 9) s.top s.rest i e.right m).1 in
      record {
        right = pivot-keeps n sys (zeros 9) s.top s.rest i j e.right m q;
        top-constant = λ k lt. pivoted-unused k i j s.top ten e.right.top_shaped (constant-in s x i e m k lt) (e.top-constant k lt);
        rest-constant = λ k lt. pivoted-unused k i j s.rest ten e.right.rest_shaped (constant-in s x i e m k lt) (e.rest-constant k lt);
      }

  tested-cut : (s : Work) (x : Unit {0}) (r : Row) → Tested s x → In r (rows_in s) → is_constant (cut_of r) ≡ true → Tested (plain_work s r) x
  tested-cut s x r e m c = record {
    right = cut_keeps n sys (zeros 9) s.top s.rest r e.right m refl c;
    top-constant = e.top-constant;
    rest-constant = λ k lt. unused-more k s.rest (cut_row (cut_of r) None) (e.rest-constant k lt) (plain-unused k r (constant-in s x r e m k lt));
  }

  testing-sound : Sound (Unit {0}) testing Tested Signed TestTree
  testing-sound = record {
    signs = λ s x r e m. y-return _ (sign_of (at r.form 9)) (rw (value-zeros r.form) (sign-right (at r.form 9)));
    turns = λ s x i j e m q fit. (tested-turn s x i j e m q, λ t h. h);
    nones = λ s x i e m v q. none_right n sys (zeros 9) s.top s.rest i e.right m v q;
    leaves = λ s x e v q. let l = leaf-right n sys (zeros 9) s.top s.rest 0 e.right (all-nonneg (zeros 9) (rows_in s) v) (no_fraction 0 s.top q) in (_, l.point);
    splits = λ s x i e m v. y-refuse _ FuelSpent Test;
    plains = λ s x r e m c fit. (tested-cut s x r e m c, λ t h. h);
    news = λ s x r e m c k two fit. apart (constant-cut r (constant-in s x r e m)) c;
  }

-- ---- the table that a test starts from
pub units-constant : (h k q : ℕ) → Unused q (unit_rows h k)
units-constant h zero q = tt
units-constant h (suc k) q = (at-zeros 10 q, units-constant (suc h) k q)

module _ (p made : ℕ) (few : p ≤ 4) (new : made ≤ 5) where
  abbrev lines : List (List ℤ) → List Line
  lines forms = map (under (zeros 9)) (map (test_row p made) forms)

  rows-shaped : (forms : List (List ℤ)) → AllUse p made forms → Shaped (map (test_row p made) forms)
  rows-shaped [] u = tt
  rows-shaped (C ∷ forms) u = (test-width p made C few new u.0.ten, refl, rows-shaped forms u.1)

  rows-plain : (forms : List (List ℤ)) → AllUse p made forms → Plain (p + made) (map (test_row p made) forms)
  rows-plain [] u = tt
  rows-plain (C ∷ forms) u = (refl, past, rows-plain forms u.1)
    where
      past : (l : ℕ) → p + made ≤ l → at (test_row p made C).coefs l ≡ pos 0
      past l h =
          let ten = u.0.ten in
          let a : length (take p C) ≡ p = length-take-le p C (omega (arith, ten)) in
          let d : length (drop 4 C) ≡ 6 = length-drop 4 C ∙ rw ten refl in
          let b : length (take made (drop 4 C)) ≡ made = length-take-le made (drop 4 C) (omega (arith, d)) in
          get_or-append_right (take p C) (take made (drop 4 C) ++ zeros (9 - (p + made))) p l (pos 0) a (omega arith)
          ∙ get_or-append_right (take made (drop 4 C)) (zeros (9 - (p + made))) made (l - p) (pos 0) b (omega arith)
          ∙ at-zeros (9 - (p + made)) (l - p - made)

  rows-constant : (forms : List (List ℤ)) → Constants (map (test_row p made) forms)
  rows-constant [] q lt = tt
  rows-constant (C ∷ forms) q lt = let ne : q ≢ 9 = omega arith in (get_or-set_other (zeros 10) 9 q (at C 9) (pos 0) ne ∙ at-zeros 10 q, rows-constant forms q lt)

  test-start : (forms : List (List ℤ)) → AllUse p made forms → Tested (p + made) (lines forms) (test_work p made forms) tt
  test-start forms u =
      record {
        right = start_right (p + made) (zeros 9) (map (test_row p made) forms) (omega arith) (rows-shaped forms u) (rows-plain forms u);
        top-constant = λ q lt. units-constant 0 (p + made) q;
        rest-constant = rows-constant forms;
      }

  -- ---- points of the test and settings
  module _ (a b c d : List ℤ) (la : length a ≡ p) (lb : length b ≡ 4 - p) (lc : length c ≡ made) (ld : length d ≡ 5 - made) where
    to-meets : (forms : List (List ℤ)) → AllUse p made forms → Satisfied (lines forms) (a ++ c) → Meets forms (a ++ (b ++ (c ++ d)))
    to-meets [] u h = tt
    to-meets (C ∷ forms) u h = (rw (gathered p made few new C u.0 a b c d la lb lc ld) at h.0, to-meets forms u.1 h.1)

    of_meets : (forms : List (List ℤ)) → AllUse p made forms → Meets forms (a ++ (b ++ (c ++ d))) → Satisfied (lines forms) (a ++ c)
    of_meets [] u h = tt
    of_meets (C ∷ forms) u h = (rw (gathered p made few new C u.0 a b c d la lb lc ld) h.0, of_meets forms u.1 h.1)

  nonneg-left : (xs ys : List ℤ) → NonNeg (xs ++ ys) → NonNeg xs
  nonneg-left [] ys h = tt
  nonneg-left (x ∷ xs) ys h = (h.0, nonneg-left xs ys h.1)

  nonneg-right : (xs ys : List ℤ) → NonNeg (xs ++ ys) → NonNeg ys
  nonneg-right [] ys h = h
  nonneg-right (x ∷ xs) ys h = nonneg-right xs ys h.1

  -- a point of the test, with zeros at the places not in use, is a setting
  spread : (forms : List (List ℤ)) → AllUse p made forms → (x : List ℤ) → Point (p + made) (lines forms) x → HasSetting forms true
  spread forms u x k =
      let a = take p x in
      let b = zeros (4 - p) in
      let c = drop p x in
      let d = zeros (5 - made) in
      let same : a ++ c ≡ x = take-append-drop p x in
      let la : length a ≡ p = length-take-le p x (omega (arith, k.counted)) in
      let lb : length b ≡ 4 - p = length-zeros (4 - p) in
      let lc : length c ≡ made = length-drop p x ∙ rw k.counted (omega arith) in
      let ld : length d ≡ 5 - made = length-zeros (5 - made) in
      let nn : NonNeg (a ++ c) = subst NonNeg (sym same) k.natural in
      let nine : length (a ++ (b ++ (c ++ d))) ≡ 9 = length-append a (b ++ (c ++ d)) ∙ rw (la, length-append b (c ++ d), lb, length-append c d, lc, ld) (omega arith) in (
        a ++ (b ++ (c ++ d)),
        record { nine = nine; natural = nonneg-append a (b ++ (c ++ d)) (nonneg-left a c nn) (nonneg-append b (c ++ d) (nonneg-zeros (4 - p)) (nonneg-append c d (nonneg-right a c nn) (nonneg-zeros (5 - made)))) },
        to-meets a b c d la lb lc ld forms u (subst (Satisfied (lines forms)) (sym same) k.satisfied),
      )

  -- the places in use of a setting are a point of the test
  gather : (forms : List (List ℤ)) → AllUse p made forms → (ρ : List ℤ) → Setting ρ → Meets forms ρ → (x : List ℤ) × Point (p + made) (lines forms) x
  gather forms u ρ st m =
      let nine = st.nine in
      let a = take p ρ in
      let b = take (4 - p) (drop p ρ) in
      let c = take made (drop 4 ρ) in
      let d = drop (4 + made) ρ in
      let n4 : p + (4 - p) ≡ 4 = omega arith in
      let d4 : drop (4 - p) (drop p ρ) ≡ drop 4 ρ = drop-drop (4 - p) p ρ ∙ ap (λ k. drop k ρ) n4 in
      let cd : c ++ d ≡ drop 4 ρ = ap (λ (t : List ℤ). c ++ t) (sym (drop-drop made 4 ρ)) ∙ take-append-drop made (drop 4 ρ) in
      let bcd : b ++ (c ++ d) ≡ drop p ρ = ap (λ (t : List ℤ). b ++ t) (cd ∙ sym d4) ∙ take-append-drop (4 - p) (drop p ρ) in
      let all : a ++ (b ++ (c ++ d)) ≡ ρ = ap (λ (t : List ℤ). a ++ t) bcd ∙ take-append-drop p ρ in
      let lp : length (drop p ρ) ≡ 9 - p = length-drop p ρ ∙ rw nine refl in
      let l4 : length (drop 4 ρ) ≡ 5 = length-drop 4 ρ ∙ rw nine refl in
      let la : length a ≡ p = length-take-le p ρ (omega (arith, nine)) in
      let lb : length b ≡ 4 - p = length-take-le (4 - p) (drop p ρ) (omega (arith, lp)) in
      let lc : length c ≡ made = length-take-le made (drop 4 ρ) (omega (arith, l4)) in
      let ld : length d ≡ 5 - made = length-drop (4 + made) ρ ∙ rw nine (omega arith) in
      let nn : NonNeg (a ++ (b ++ (c ++ d))) = subst NonNeg (sym all) st.natural in
      let nbcd : NonNeg (b ++ (c ++ d)) = nonneg-right a (b ++ (c ++ d)) nn in
      let nc : NonNeg c = nonneg-left c d (nonneg-right b (c ++ d) nbcd) in (
        a ++ c,
        record { counted = length-append a c ∙ rw (la, lc) refl; natural = nonneg-append a c (nonneg-left a (b ++ (c ++ d)) nn) nc; satisfied = of_meets a b c d la lb lc ld forms u (subst (Meets forms) (sym all) m) },
      )

  found : (forms : List (List ℤ)) → AllUse p made forms → (b : Bool) → Answered (p + made) (lines forms) b → HasSetting forms b
  found forms u true k = spread forms u k.0 k.1
  found forms u false k = λ ρ st m. let x = gather forms u ρ st m in k x.0 x.1

  pub test-right : (forms : List (List ℤ)) → AllUse p made forms → Yields (HasSetting forms) (test p made forms)
  unfolding test
  test-right forms u =
      y-bind _ _ _ _ (settle-sound (Unit {0}) testing (Tested (p + made) (lines forms)) _ _ (testing-sound (p + made) (lines forms)) plenty (test_work p made forms) tt (test-start forms u))
      (λ t k. y-return _ (has_point t) (found forms u (has_point t) k))
