-- Trees that a solve answers are within the limits of a tree.
use Rattle.std.proofs.Common.{◌≡◌, ℕ, zero, suc, ◌+◌, ◌-◌, ◌^◌, ◌<◌, ◌≤◌, Bool, true, false, ◌&&◌, ◌≢◌, List, [], ◌∷◌, ◌++◌, map, length, take, drop, ℤ, pos, negsuc, nat_abs, ◌≤ℤ◌, ◌<ℤ◌, Some, None, Ok, Err, Option, Result, sym, refl, ap, ◌∙◌, subst, inl, inr, arith}
use borrow.Author.Differences.{ints}
use Rattle.std.proofs.lemmas.List.{length-map}
use Rattle.std.proofs.lemmas.Bool.{and_parts}
use Rattle.base.specs.declared.refusal.Place.TheVariants.{Node}
use Rattle.base.specs.declared.refusal.Refusal.{Refusal}
use Rattle.base.specs.declared.refusal.Refusal.TheVariants.{Depth, NoParameterPoint}
use Rattle.source.specs.Limits.{counts_answer, first_outside, numbers_answer, refused_at}
use Rattle.source.proofs.Numbers.{none-outside}
use Rattle.base.specs.Forms.{opposite}
use Rattle.base.specs.Numbers.{all_zero, AllWithin, at, is_zero, quot_by, zeros}
use Rattle.base.proofs.Ranges.{within-append, within-set}
use Rattle.tableau.specs.declared.table.Row.{Row}
use Rattle.tableau.specs.Columns.{Enters, entering}
use Rattle.tableau.specs.Cuts.{cut_of, cut_row, cut_form, is_constant}
use Rattle.tableau.specs.Rows.{Sound as SoundRow, fits, pivoted}
use Rattle.tableau.specs.Tables.{all_fit, unit_row, unit_rows}
use Rattle.tableau.proofs.CutRanges.{cut-sound}
use Rattle.tableau.proofs.Entering.{enters}
use Rattle.tableau.proofs.Lowest.{lowest-sound}
use Rattle.tableau.proofs.Pivots.{pivoted-sound}
use Rattle.tableau_laws.specs.Ends.{leaf_forms}
use Rattle.tableau_laws.specs.Lines.{In, Shaped, Unused}
use Rattle.tableau_laws.proofs.Cuts.{length_cut}
use Rattle.tableau_laws.proofs.Rows.{of_either}
use Rattle.tableau_laws.proofs.Unused.{at-quots, mod-unused}
use Rattle.tree.specs.Limits.{AllFormsFit, FormFits, NewFits, TreeFits}
use Rattle.tree.specs.Trees.{Tree, split}
use Rattle.solver.specs.declared.sign.Sign.{Sign}
use Rattle.solver.specs.Runs.{Run}
use Rattle.solver.specs.Rules.{Work, branch, branches, node, plenty, solving, where_form}
use Rattle.solver.specs.Solves.{begun, fitted, form_of, nothing, numbers_fit, row_of, rows_of, run, start}
use Rattle.solver.proofs.Keeping.{quots-within, sound-one, within-drop, within-zeros}
use Rattle.tableau.proofs.Units.{length-units}
use Rattle.solver_laws.specs.Limits.{TreeLimits}
use Rattle.solver_laws.specs.Meaning.{Yields}
use Rattle.solver_laws.specs.Places.{Spare, Uses}
use Rattle.solver_laws.proofs.Accepted.{counted, run_of, system-fits, then-first, then-second}
use Rattle.solver.specs.Ties.{limits}
use Rattle.solver_laws.proofs.Formed.{Formed, formed-new, formed-plain, formed-turn, formed-where, row-shape, row-uses}
use Rattle.solver_laws.proofs.Induction.{Sound, rows_in, settle-sound}
use Rattle.solver.proofs.Turning.{turned_work}
use Rattle.solver_laws.proofs.Least.{start-formed}
use Rattle.solver_laws.proofs.Nodes.{made-less}
use Rattle.solver_laws.proofs.Places.{opposite-uses}
use Rattle.solver_laws.proofs.Systems.{context-uses}
use Rattle.solver_laws.proofs.Tests.{apart}
use Rattle.solver_laws.proofs.Yields.{y-any, y-bar, y-bind, y-fail, y-return, y-then}

-- ---- rows in range
abbrev pub AllSound : List Row → Type 0
AllSound [] = Unit {0}
AllSound (r ∷ rs) = SoundRow r × AllSound rs

sound-of : (r : Row) (rs : List Row) → In r rs → AllSound rs → SoundRow r
sound-of r [] m s = absurd m
sound-of r (x ∷ rs) (inl e) s = subst SoundRow e s.0
sound-of r (x ∷ rs) (inr m) s = sound-of r rs m s.1

sound_more : (rs : List Row) (r : Row) → AllSound rs → SoundRow r → AllSound (rs ++ (r ∷ []))
sound_more [] r s k = (k, tt)
sound_more (x ∷ rs) r s k = (s.0, sound_more rs r s.1 k)

fit-left : (xs ys : List Row) → all_fit (xs ++ ys) ≡ true → all_fit xs ≡ true
fit-left [] ys e = refl
fit-left (x ∷ xs) ys e = let p = and_parts (fits x) (all_fit (xs ++ ys)) e in rw (p.0, fit-left xs ys p.1) refl

fit-right : (xs ys : List Row) → all_fit (xs ++ ys) ≡ true → all_fit ys ≡ true
fit-right [] ys e = e
fit-right (x ∷ xs) ys e = fit-right xs ys (and_parts (fits x) (all_fit (xs ++ ys)) e).1

sound-pivoted : (i : Row) (j : ℕ) (rs : List Row) → pos 0 <ℤ at i.coefs j → AllSound rs → all_fit (map (pivoted i j) rs) ≡ true → AllSound (map (pivoted i j) rs)
sound-pivoted i j [] a s e = tt
sound-pivoted i j (h ∷ rs) a s e = let p = and_parts (fits (pivoted i j h)) (all_fit (map (pivoted i j) rs)) e in (pivoted-sound i j h a s.0 p.0, sound-pivoted i j rs a s.1 p.1)

-- ---- forms
form-fits : (p made : ℕ) (C : List ℤ) → Uses p made C → AllWithin (2 ^ 30) C → FormFits p made C
form-fits p made C u w = record { ten = u.ten; small = w; parameters = λ l low high. u.free l (inl (low, high)); news = λ l low high. u.free l (inr (low, high)) }

above_zero : (d : ℤ) → pos 1 ≤ℤ d → pos 0 <ℤ d
above_zero d h = omega (arith, ints)

-- the form of a row over its divisor
quotient_fits : (p made : ℕ) (r : Row) → Uses p made r.form → SoundRow r → FormFits p made (map (quot_by r.div) r.form)
quotient_fits p made r u s = go r.div s.above
  where
    go : (d : ℤ) → pos 1 ≤ℤ d → FormFits p made (map (quot_by d) r.form)
    go (pos d) h = form-fits p made (map (quot_by (pos d)) r.form)
        (record { ten = length-map r.form (quot_by (pos d)) ∙ u.ten; free = λ q k. at-quots d r.form q (u.free q k) })
        (quots-within (2 ^ 30) (pos d) r.form s.form_small)
    go (negsuc d) h = absurd (let no : ⊥ = omega (arith, ints) in no)

leaves-fit : (p made : ℕ) (rs : List Row) → Shaped rs → ((q : ℕ) → Spare p made q → Unused q rs) → AllSound rs → AllFormsFit p made (leaf_forms rs)
leaves-fit p made [] h u s = tt
leaves-fit p made (r ∷ rs) h u s = (quotient_fits p made r (record { ten = h.1; free = λ q k. (u q k).0 }) s.0, leaves-fit p made rs h.2 (λ q k. (u q k).1) s.1)

-- a coefficient that is not 0
named-place : (n : ℕ) (xs : List ℤ) → all_zero (take n xs) ≡ false → (l : ℕ) × (l < n) × (at xs l ≢ pos 0)
named-place zero xs e = apart refl e
named-place (suc n) [] e = apart refl e
named-place (suc n) (x ∷ xs) e = go (named-place n xs) (is_zero x) refl e
  where
    go : (all_zero (take n xs) ≡ false → (l : ℕ) × (l < n) × (at xs l ≢ pos 0)) → (b : Bool) → is_zero x ≡ b → (b && all_zero (take n xs)) ≡ false → (l : ℕ) × (l < suc n) × (at (x ∷ xs) l ≢ pos 0)
    go ih true z k = let m = ih k in (suc m.0, omega (arith, m.1), m.2)
    go ih false z k = (0, omega arith, λ o. apart (ap is_zero o) z)

-- T and d of a new parameter
new-fits : (p made : ℕ) (r : Row) → Uses p made r.form → SoundRow r → is_constant (cut_of r) ≡ false → NewFits p made r.div (cut_of r).form
new-fits p made r u s c =
    let k = cut-sound r s.above s.below in
    let m = named-place 9 (cut_of r).form c in
    record {
      form = form-fits p made (cut_of r).form (record { ten = length_cut r ∙ u.ten; free = λ q h. mod-unused r.div r.form q (u.free q h) }) (λ l. small (at (cut_of r).form l) r.div (k.form_low l) (k.form_high l) s.below);
      least = two (at (cut_of r).form m.0) r.div (k.form_low m.0) (k.form_high m.0) m.2;
      most = s.below;
      low = k.form_low;
      high = k.form_high;
      place = m.0;
      coefficient = m.1;
      named = m.2;
    }
  where
    small : (t d : ℤ) → pos 0 ≤ℤ t → t <ℤ d → d ≤ℤ pos (2 ^ 30) → nat_abs t ≤ 2 ^ 30
    small (pos t) d a b h = omega (arith, ints)
    small (negsuc t) d a b h = absurd (let no : ⊥ = omega (arith, ints) in no)

    two : (t d : ℤ) → pos 0 ≤ℤ t → t <ℤ d → t ≢ pos 0 → pos 2 ≤ℤ d
    two (pos zero) d a b h = absurd (h refl)
    two (pos (suc t)) d a b h = omega (arith, ints)
    two (negsuc t) d a b h = absurd (let no : ⊥ = omega (arith, ints) in no)

-- ---- the work
module _ (n : ℕ) where
  pub record Ranged (s : Work) (x : Unit {0}) : Type 0 where
    pub formed : Formed s
    pub size : length s.top ≡ n
    pub top_sound : AllSound s.top
    pub rest-sound : AllSound s.rest

  sound-in : (s : Work) (x : Unit {0}) (r : Row) → Ranged s x → In r (rows_in s) → SoundRow r
  sound-in s x r g m = of_either AllSound _ r s.top s.rest (sound-of r) m g.top_sound g.rest-sound

  abbrev Any : Work → Unit {0} → List ℤ → Sign → Type 0
  Any s x C g = Unit {0}

  abbrev Fits : ℕ → Work → Unit {0} → Tree → Type 0
  Fits left s x t = TreeFits n s.parameters s.made left t

  ranged-turn : (s : Work) (x : Unit {0}) (i : Row) (j : ℕ) → Ranged s x → In i (rows_in s) → entering s.top i ≡ Some j → all_fit (map (pivoted i j) s.top ++ map (pivoted i j) s.rest) ≡ true → Ranged (turned_work i j s) x
  ranged-turn s x i j g m q fit =
      let above : Enters s.top i (Some j) = subst (Enters s.top i) q (enters s.top i (row-shape s g.formed i m).0) in
      record {
        formed = formed-turn s g.formed i m j;
        size = length-map s.top (pivoted i j) ∙ g.size;
        top_sound = sound-pivoted i j s.top above.1 g.top_sound (fit-left (map (pivoted i j) s.top) (map (pivoted i j) s.rest) fit);
        rest-sound = sound-pivoted i j s.rest above.1 g.rest-sound (fit-right (map (pivoted i j) s.top) (map (pivoted i j) s.rest) fit);
      }

  cut-row-sound : (r : Row) (new : Option ℕ) → SoundRow r → fits (cut_row (cut_of r) new) ≡ true → SoundRow (cut_row (cut_of r) new)
  cut-row-sound r new s fit = lowest-sound (record { coefs = (cut_of r).coefs; form = cut_form (cut_of r) new; div = r.div }) (above_zero r.div s.above) fit

  solving-fits : (left : ℕ) (splits : Work → List ℤ → Run Tree) → ((s : Work) (C : List ℤ) → Ranged s tt → FormFits s.parameters s.made C → Uses s.parameters s.made C → Yields (Fits left s tt) (splits s C)) → Sound (Unit {0}) (solving splits) Ranged Any (Fits left)
  solving-fits left splits h = record {
    signs = λ s x r g m. y-any _;
    turns = λ s x i j g m q fit. (ranged-turn s x i j g m q fit, λ t k. k);
    nones = λ s x i g m v q. tt;
    leaves = λ s x g v q. (length-map s.top _ ∙ g.size, leaves-fit s.parameters s.made s.top g.formed.top_shaped g.formed.top_free g.top_sound);
    splits = λ s x i g m v. let u = row-uses s g.formed i m in h s i.form g (form-fits s.parameters s.made i.form u (sound-in s x i g m).form_small) u;
    plains = λ s x r g m c fit. (record { formed = formed-plain s g.formed r m; size = g.size; top_sound = g.top_sound; rest-sound = sound_more s.rest (cut_row (cut_of r) None) g.rest-sound (cut-row-sound r None (sound-in s x r g m) fit) }, λ t k. k);
    news = λ s x r g m c k two fit.
        let less = made-less s.made g.formed.new k in
        (tt, record { formed = formed-new s g.formed r m less; size = g.size; top_sound = g.top_sound; rest-sound = sound_more s.rest (cut_row (cut_of r) (Some (4 + s.made))) g.rest-sound (cut-row-sound r (Some (4 + s.made)) (sound-in s x r g m) fit) }, λ t f. (less, (new-fits s.parameters s.made r (row-uses s g.formed r m) (sound-in s x r g m) c, f)));
  }

  module _ (left : ℕ) (deeper : Work → Run Tree) (ih : (s : Work) → Ranged s tt → Yields (Fits left s tt) (deeper s)) where
    branch_fits : (s : Work) (C : List ℤ) → Ranged s tt → Uses s.parameters s.made C → Yields (Fits left s tt) (branch deeper s C)
    unfolding branch
    branch_fits s C g u = y-then _ _ _ (ih (where_form s C) (record { formed = formed-where s g.formed C u; size = g.size; top_sound = g.top_sound; rest-sound = g.rest-sound }))

    branches-fit : (s : Work) (C : List ℤ) → Ranged s tt → FormFits s.parameters s.made C → Uses s.parameters s.made C → Yields (Fits (suc left) s tt) (branches deeper s C)
    unfolding branches
    branches-fit s C g f u =
        y-then _ _ _ (y-then _ _ _
        (y-bind _ _ _ _ (branch_fits s C g u) (λ t a.
        y-bind _ _ _ _ (branch_fits s (opposite C) g (opposite-uses s.parameters s.made C u)) (λ v b.
        y-return _ (split C t v) (omega arith, (f, (less s t a, less s v b)))))))
      where
        less : (s : Work) (t : Tree) → TreeFits n s.parameters s.made left t → TreeFits n s.parameters s.made (suc left - 1) t
        less s t h = let e : suc left - 1 ≡ left = omega arith in subst (λ k. TreeFits n s.parameters s.made k t) (sym e) h

  pub node-fits : (left : ℕ) (s : Work) → Ranged s tt → Yields (Fits left s tt) (node left s)
  unfolding node
  node-fits zero s g = settle-sound (Unit {0}) _ Ranged Any (Fits zero) (solving-fits zero _ (λ s C g f u. y-bar _ Depth Node)) plenty s tt g
  node-fits (suc left) s g =
      let ih : (s : Work) → Ranged s tt → Yields (Fits left s tt) (node left s) = λ s g. node-fits left s g in
      settle-sound (Unit {0}) _ Ranged Any (Fits (suc left)) (solving-fits (suc left) _ (branches-fit left (node left) ih)) plenty s tt g

-- ---- the work that a solve starts from
within-take : (m n : ℕ) (xs : List ℤ) → AllWithin m xs → AllWithin m (take n xs)
within-take m zero xs a k = omega arith
within-take m (suc n) [] a k = omega arith
within-take m (suc n) (x ∷ xs) a zero = a 0
within-take m (suc n) (x ∷ xs) a (suc k) = within-take m n xs (λ l. a (suc l)) k

within-form : (m p : ℕ) (g : List ℤ) → AllWithin m g → AllWithin m (form_of p g)
within-form m p g a = within-append m (take p g) _ (within-take m p g a) (within-append m (zeros (9 - p)) (at g p ∷ []) (within-zeros m (9 - p)) one)
  where
    one : AllWithin m (at g p ∷ [])
    one zero = a p
    one (suc k) = omega arith

within_wider : (xs : List ℤ) → AllWithin 1000000 xs → AllWithin (2 ^ 30) xs
within_wider xs a k = omega (arith, a k)

-- the numbers of a system within the limits
abbrev AllSmall : List (List ℤ) → Type 0
AllSmall [] = Unit {0}
AllSmall (row ∷ rows) = AllWithin (2 ^ 30) row × AllSmall rows

answered-none : (i : ℕ) (o : Option ℕ) → refused_at i o ≡ Ok tt → o ≡ None
answered-none i None e = refl
answered-none i (Some j) e = absurd (subst (λ (r : Result (Unit {0}) Refusal). elim r as (λ _. Type 0) [ Ok y ↦ ⊥ | Err y ↦ Unit {0} ]) e tt)

all_small : (i : ℕ) (rows : List (List ℤ)) → numbers_fit i rows ≡ Ok tt → AllSmall rows
all_small i [] e = tt
all_small i (row ∷ rows) e =
    (within_wider row (none-outside 0 row (answered-none i (first_outside 0 row) (then-first (numbers_answer i row) (numbers_fit (i + 1) rows) tt e))), all_small (i + 1) rows (then-second (numbers_answer i row) (numbers_fit (i + 1) rows) tt e))

units-sound : (h k : ℕ) → AllSound (unit_rows h k)
units-sound h zero = tt
units-sound h (suc k) = (sound-one (unit_row h).coefs (unit_row h).form (within-set (2 ^ 30) (zeros 9) h (pos 1) (omega arith) (within-zeros (2 ^ 30) 9)) (within-zeros (2 ^ 30) 10), units-sound (suc h) k)

rows-sound : (n p : ℕ) (rows : List (List ℤ)) → AllSmall rows → AllSound (map (row_of n p) rows)
rows-sound n p [] a = tt
rows-sound n p (row ∷ rows) a =
    (sound-one (take n row ++ zeros (9 - n)) (form_of p (drop n row)) (within-append (2 ^ 30) (take n row) (zeros (9 - n)) (within-take (2 ^ 30) n row a.0) (within-zeros (2 ^ 30) (9 - n))) (within-form (2 ^ 30) p (drop n row) (within-drop (2 ^ 30) n row a.0)), rows-sound n p rows a.1)

keeps_fit : (p : ℕ) (rows : List (List ℤ)) → p ≤ 4 → AllSmall (map (fitted (p + 1)) rows) → AllFormsFit p 0 (map (λ row. form_of p (fitted (p + 1) row)) rows)
keeps_fit p [] few a = tt
keeps_fit p (row ∷ rows) few a = (form-fits p 0 (form_of p (fitted (p + 1) row)) (context-uses p 0 (row ∷ rows) few).0 (within-form (2 ^ 30) p (fitted (p + 1) row) a.0), keeps_fit p rows few a.1)

-- ---- the run
begun-fits : (n : ℕ) (s : Work) → Ranged n s tt → (b : Bool) → Yields (TreeFits n s.parameters s.made 12) (begun s b)
unfolding begun
begun-fits n s g true = y-then _ _ _ (y-then _ _ _ (node-fits n 12 s g))
begun-fits n s g false = y-fail _ NoParameterPoint

run_fits : (n : ℕ) (s : Work) → Ranged n s tt → Yields (TreeFits n s.parameters s.made 12) (run s)
unfolding run
run_fits n s g = y-bind (λ _. Unit {0}) _ _ _ (y-any _) (λ b _. begun-fits n s g b)

pub tree-limits : TreeLimits
tree-limits S fuel room t c e =
    let fit = system-fits S fuel room t c e in
    let k = counted S fit in
    let numbers = then-second (counts_answer S.n S.p (length S.rows) (length S.context)) _ tt fit in
    let rows : AllSmall (rows_of S) = all_small 0 (rows_of S) (then-first (numbers_fit 0 (rows_of S)) _ tt numbers) in
    let context : AllSmall (map (fitted (S.p + 1)) S.context) = all_small (length S.rows) (map (fitted (S.p + 1)) S.context) (then-second (numbers_fit 0 (rows_of S)) _ tt numbers) in
    let g : Ranged S.n (start S) tt = record { formed = start-formed S k; size = length-units 0 S.n; top_sound = units-sound 0 S.n; rest-sound = rows-sound S.n S.p (rows_of S) rows } in
    record {
      unknowns_least = k.unknowns_least;
      unknowns_most = k.unknowns_most;
      parameters_most = k.parameters_most;
      keeps_most = omega (arith, length-map S.context (λ row. form_of S.p (fitted (S.p + 1) row)), k.context_most);
      keeps_fit = keeps_fit S.p S.context k.parameters_most context;
      tree_fits = (run_fits S.n (start S) g).law (limits (nat_abs fuel) room) nothing t c (run_of S fuel room t c e);
    }
