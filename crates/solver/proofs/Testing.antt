-- A test, a turn at a time.
use Rattle.std.proofs.Common.{◌≡◌, ℕ, zero, suc, ◌+◌, ◌-◌, ◌<◌, ◌≤◌, Bool, true, false, cond, List, [], ◌∷◌, ◌++◌, map, get_or, take, drop, ℤ, pos, negsuc, Some, None, Ok, Err, Result, sym, refl, ap, ◌∙◌, arith}
use lib.Signed.{lt_z}
use Rattle.std.proofs.lemmas.List.{drop_at, get_or-take, take_at, take-take}
use Rattle.std.proofs.lemmas.Bool.{le-ltb}
use Rattle.base.specs.declared.refusal.Place.TheVariants.{Test}
use Rattle.base.specs.Numbers.{at, quot_by}
use Rattle.tableau.specs.declared.table.Row.{Row}
use Rattle.tableau.specs.declared.table.Table.{Table}
use Rattle.tableau.specs.Columns.{entering}
use Rattle.tableau.specs.Cuts.{cut_of, first_fraction, whole}
use Rattle.tableau.specs.Tables.{in_use, no_row, rest, top, unit_rows}
use Rattle.tree.specs.Trees.{Tree, leaf, none}
use Rattle.solver.specs.declared.context.Context.{Context}
use Rattle.solver.specs.declared.count.Count.{Count}
use Rattle.solver.specs.declared.count.Stopped.{Stopped}
use Rattle.solver.specs.Bounds.{in_force}
use Rattle.solver.specs.Runs.{Limits, Outcome, refuse, return, next, ◌>>=◌, ◌>>◌, write, stopped_at}
use Rattle.base.specs.declared.refusal.Refusal.TheVariants.{Range}
use Rattle.base.specs.Numbers.{within}
use Rattle.solver.specs.Rules.{Scan, Way, Work, act, below, clear, cut, finish, fraction, has_point, lift, scan, scanned, settle, ranged, sign_of, test, test_with, test_work, testing, turn}
use Rattle.solver.specs.Tests.{test_row}
use Rattle.solver.specs.Ties.{KnownAs, after_cut, first_negative, moved, test_of, tested}
use Rattle.tableau.proofs.Units.{length-units}
use Rattle.tableau.specs.Columns.{pivot_place}
use Rattle.solver.proofs.Turning.{place_none, place-some}
use Rattle.tableau.proofs.Parts.{both_used}

-- ---- signs of constants
abbrev neg_scan : List Row → Scan
neg_scan [] = clear
neg_scan (r ∷ rs) = cond (lt_z (at r.form 9) (pos 0)) (below r) (neg_scan rs)

not-below : (n : ℕ) → lt_z (pos n) (pos 0) ≡ false
not-below n = le-ltb n 0 (omega arith)

scan-const : (rs : List Row) (l : Limits) (c : Count) → scan (λ C. return (sign_of (at C 9))) rs l c ≡ Ok (neg_scan rs, c)
unfolding scan scanned return ◌>>=◌
scan-const [] l c = refl
scan-const (r ∷ rs) l c = go (scan-const rs l c) (at r.form 9)
  where
    go : scan (λ C. return (sign_of (at C 9))) rs l c ≡ Ok (neg_scan rs, c) → (z : ℤ) → (return (sign_of z) >>= scanned r (scan (λ C. return (sign_of (at C 9))) rs)) l c ≡ Ok (cond (lt_z z (pos 0)) (below r) (neg_scan rs), c)
    go ih (pos n) = ih ∙ ap (λ b. Ok (cond b (below r) (neg_scan rs), c)) (sym (not-below n))
    go ih (negsuc n) = refl

neg-some : (k : ℕ) (rs : List Row) (h : ℕ) → first_negative k rs ≡ Some h → (k ≤ h) × (neg_scan rs ≡ below (get_or rs (h - k) no_row))
neg-some k [] h e = absurd (let z : ◌≡◌ {A = ℕ} 0 1 = cc in let no : ⊥ = omega arith in no)
neg-some k (r ∷ rs) h e = go (neg-some (k + 1) rs h) (lt_z (at r.form 9) (pos 0)) e
  where
    shift : (k + 1 ≤ h) → get_or (r ∷ rs) (h - k) no_row ≡ get_or rs (h - (k + 1)) no_row
    shift le = let e : h - k ≡ suc (h - (k + 1)) = omega arith in ap (λ n. get_or (r ∷ rs) n no_row) e

    here : k ≡ h → get_or (r ∷ rs) (h - k) no_row ≡ r
    here q = let e : h - k ≡ 0 = omega arith in ap (λ n. get_or (r ∷ rs) n no_row) e

    go : (first_negative (k + 1) rs ≡ Some h → (k + 1 ≤ h) × (neg_scan rs ≡ below (get_or rs (h - (k + 1)) no_row))) → (b : Bool) → cond b (Some k) (first_negative (k + 1) rs) ≡ Some h → (k ≤ h) × (cond b (below r) (neg_scan rs) ≡ below (get_or (r ∷ rs) (h - k) no_row))
    go ih true e = let q : k ≡ h = cc in (omega arith, ap below (sym (here q)))
    go ih false e = let v = ih e in (omega (arith, v.0), v.1 ∙ ap below (sym (shift v.0)))

neg-none : (k : ℕ) (rs : List Row) → first_negative k rs ≡ None → neg_scan rs ≡ clear
neg-none k [] e = refl
neg-none k (r ∷ rs) e = go (neg-none (k + 1) rs) (lt_z (at r.form 9) (pos 0)) e
  where
    go : (first_negative (k + 1) rs ≡ None → neg_scan rs ≡ clear) → (b : Bool) → cond b (Some k) (first_negative (k + 1) rs) ≡ None → cond b (below r) (neg_scan rs) ≡ clear
    go ih true e = absurd (let z : ◌≡◌ {A = ℕ} 0 1 = cc in let no : ⊥ = omega arith in no)
    go ih false e = ih e

-- ---- the row to cut, by its place and by itself
frac-some : (k : ℕ) (rs : List Row) (h : ℕ) → first_fraction k rs ≡ Some h → (k ≤ h) × (fraction rs ≡ Some (get_or rs (h - k) no_row))
frac-some k [] h e = absurd (let z : ◌≡◌ {A = ℕ} 0 1 = cc in let no : ⊥ = omega arith in no)
frac-some k (r ∷ rs) h e = go (frac-some (k + 1) rs h) (whole r) e
  where
    shift : (k + 1 ≤ h) → get_or (r ∷ rs) (h - k) no_row ≡ get_or rs (h - (k + 1)) no_row
    shift le = let e : h - k ≡ suc (h - (k + 1)) = omega arith in ap (λ n. get_or (r ∷ rs) n no_row) e

    here : k ≡ h → get_or (r ∷ rs) (h - k) no_row ≡ r
    here q = let e : h - k ≡ 0 = omega arith in ap (λ n. get_or (r ∷ rs) n no_row) e

    go : (first_fraction (k + 1) rs ≡ Some h → (k + 1 ≤ h) × (fraction rs ≡ Some (get_or rs (h - (k + 1)) no_row))) → (b : Bool) → cond b (first_fraction (k + 1) rs) (Some k) ≡ Some h → (k ≤ h) × (cond b (fraction rs) (Some r) ≡ Some (get_or (r ∷ rs) (h - k) no_row))
    go ih false e = let q : k ≡ h = cc in (omega arith, ap Some (sym (here q)))
    go ih true e = let v = ih e in (omega (arith, v.0), v.1 ∙ ap Some (sym (shift v.0)))

pub frac-none : (k : ℕ) (rs : List Row) → first_fraction k rs ≡ None → fraction rs ≡ None
frac-none k [] e = refl
frac-none k (r ∷ rs) e = go (frac-none (k + 1) rs) (whole r) e
  where
    go : (first_fraction (k + 1) rs ≡ None → fraction rs ≡ None) → (b : Bool) → cond b (first_fraction (k + 1) rs) (Some k) ≡ None → cond b (fraction rs) (Some r) ≡ None
    go ih false e = absurd (let z : ◌≡◌ {A = ℕ} 0 1 = cc in let no : ⊥ = omega arith in no)
    go ih true e = ih e

-- the row to cut of a table
pub fraction-at : (t : Table) (h : ℕ) → h < t.unknowns → first_fraction 0 (top t) ≡ Some h → fraction (top t) ≡ Some (get_or t.rows h no_row)
fraction-at t h lt e =
    let z : h - 0 ≡ h = omega arith in
    (frac-some 0 (top t) h e).1 ∙ ap (λ n. Some (get_or (top t) n no_row)) z ∙ ap Some (get_or-take t.unknowns t.rows h no_row lt)

-- ---- a turn of the rules
pub settle_is : (w : Way) (g : ℕ) (s : Work) (l : Limits) (c : Count) → settle w (suc g) s l c ≡ next (scan (w.sign s) (s.top ++ s.rest) l c) (act w (settle w g) s) l
unfolding settle ◌>>=◌
settle_is w g s l c = refl

module _ (g : ℕ) (t : Table) (cuts : ℕ) (inside : t.unknowns ≤ t.count) (l : Limits) (c : Count) where
  scanned-is : settle testing (suc g) (test_of t cuts) l c ≡ act testing (settle testing g) (test_of t cuts) (neg_scan (in_use t)) l c
  scanned-is =
      settle_is testing g (test_of t cuts) l c ∙ ap (λ o. next o (act testing (settle testing g) (test_of t cuts)) l) (scan-const (top t ++ rest t) l c)
      ∙ ap (λ rs. act testing (settle testing g) (test_of t cuts) (neg_scan rs) l c) (both_used t inside)

  module _ (i : ℕ) (lt : i < t.count) (e : first_negative 0 (in_use t) ≡ Some i) where
    negative-is : settle testing (suc g) (test_of t cuts) l c ≡ lift Test (settle testing g) (test_of t cuts) (get_or t.rows i no_row) (entering (top t) (get_or t.rows i no_row)) l c
    unfolding act
    negative-is =
        let z : i - 0 ≡ i = omega arith in
        scanned-is ∙ ap (λ x. act testing (settle testing g) (test_of t cuts) x l c) ((neg-some 0 (in_use t) i e).1 ∙ ap (λ n. below (get_or (in_use t) n no_row)) z ∙ ap below (get_or-take t.count t.rows i no_row lt))

    pub test-none : entering (top t) (get_or t.rows i no_row) ≡ None → settle testing (suc g) (test_of t cuts) l c ≡ Ok (none, c)
    unfolding lift write ◌>>◌ return
    test-none k = negative-is ∙ ap (λ o. lift Test (settle testing g) (test_of t cuts) (get_or t.rows i no_row) o l c) k

    pub test-turn : (j : ℕ) → entering (top t) (get_or t.rows i no_row) ≡ Some j → (o : Outcome Work) → turn Test (get_or t.rows i no_row) j (test_of t cuts) l c ≡ o → settle testing (suc g) (test_of t cuts) l c ≡ next o (settle testing g) l
    unfolding lift ◌>>=◌
    test-turn j k o m = negative-is ∙ ap (λ x. lift Test (settle testing g) (test_of t cuts) (get_or t.rows i no_row) x l c) k ∙ ap (λ x. next x (settle testing g) l) m

  module _ (e : first_negative 0 (in_use t) ≡ None) where
    clear-is : settle testing (suc g) (test_of t cuts) l c ≡ finish Test (settle testing g) (test_of t cuts) (fraction (top t)) l c
    unfolding act
    clear-is = scanned-is ∙ ap (λ x. act testing (settle testing g) (test_of t cuts) x l c) (neg-none 0 (in_use t) e)

    pub test-leaf : first_fraction 0 (top t) ≡ None → settle testing (suc g) (test_of t cuts) l c ≡ Ok (leaf (map (λ r. map (quot_by r.div) r.form) (top t)), c)
    unfolding finish write ◌>>◌ return
    test-leaf k = clear-is ∙ ap (λ o. finish Test (settle testing g) (test_of t cuts) o l c) (frac-none 0 (top t) k)

    pub test-cut : (h : ℕ) → h < t.unknowns → first_fraction 0 (top t) ≡ Some h → settle testing (suc g) (test_of t cuts) l c ≡ cut Test (settle testing g) (test_of t cuts) (cut_of (get_or t.rows h no_row)) l c
    unfolding finish
    test-cut h lt k = clear-is ∙ ap (λ o. finish Test (settle testing g) (test_of t cuts) o l c) (fraction-at t h lt k)

-- ---- where a test begins and ends
pub test-begins : (x : Context) (t : Table) → t.unknowns ≡ x.parameters + x.made → t.unknowns ≤ t.count → in_use t ≡ unit_rows 0 (x.parameters + x.made) ++ map (test_row x.parameters x.made) (in_force x) → test_of t 0 ≡ test_work x.parameters x.made (in_force x)
test-begins x t e inside rows =
    λ k. record { top = tops k; rest = rests k; context = []; parameters = 0; made = 0; cuts = 0 }
  where
    n : ℕ
    n = x.parameters + x.made

    tops : top t ≡ unit_rows 0 n
    tops = sym (take-take t.unknowns t.count t.rows inside) ∙ ap (take t.unknowns) rows ∙ take_at (unit_rows 0 n) _ t.unknowns (length-units 0 n ∙ sym e)

    rests : rest t ≡ map (test_row x.parameters x.made) (in_force x)
    rests = ap (drop t.unknowns) rows ∙ drop_at (unit_rows 0 n) _ t.unknowns (length-units 0 n ∙ sym e)

pub test-is : (p made : ℕ) (forms : List (List ℤ)) (l : Limits) (c : Count) → test p made forms l c ≡ next (settle testing 100_001 (test_work p made forms) l c) (λ t. return (has_point t)) l
unfolding test ◌>>=◌
test-is p made forms l c = refl

pub tested-is : (t u : Table) (cuts : ℕ) (r : Result Count Stopped) → moved u (after_cut (test_of t cuts) [] 0) r ≡ tested u (suc cuts) r
tested-is t u cuts (Ok c) = refl
tested-is t u cuts (Err e) = refl

-- ---- a test with one more row
with-is : (s : Work) (C : List ℤ) (l : Limits) (c : Count) → test_with s C l c ≡ cond (within C) (test s.parameters s.made (s.context ++ C ∷ []) l c) (Err (stopped_at Range Test c))
unfolding test_with ◌>>◌ ranged return refuse
with-is s C l c = go (within C)
  where
    go : (b : Bool) → next {A = Unit {0}} (cond b (return (tt {0})) (refuse Range Test) l c) (λ _. test s.parameters s.made (s.context ++ C ∷ [])) l ≡ cond b (test s.parameters s.made (s.context ++ C ∷ []) l c) (Err (stopped_at Range Test c))
    go true = refl
    go false = refl

pub with-row-out : (s : Work) (C : List ℤ) (l : Limits) (c : Count) → within C ≡ false → test_with s C l c ≡ Err (stopped_at Range Test c)
with-row-out s C l c e = with-is s C l c ∙ ap (λ b. cond b (test s.parameters s.made (s.context ++ C ∷ []) l c) (Err (stopped_at Range Test c))) e

pub with-row-in : (s : Work) (C : List ℤ) (l : Limits) (c : Count) (x : Context) → KnownAs x s → (p made : ℕ) (forms : List (List ℤ)) → p ≡ x.parameters → made ≡ x.made → forms ≡ in_force x ++ C ∷ [] → within C ≡ true → test_with s C l c ≡ test p made forms l c
with-row-in s C l c x k p made forms e f g h =
    with-is s C l c ∙ ap (λ b. cond b (test s.parameters s.made (s.context ++ C ∷ []) l c) (Err (stopped_at Range Test c))) h
    ∙ ap (λ p. test p s.made (s.context ++ C ∷ []) l c) (k.parameters ∙ sym e) ∙ ap (λ m. test p m (s.context ++ C ∷ []) l c) (k.made ∙ sym f)
    ∙ ap (λ fs. test p made fs l c) (ap (λ fs. fs ++ C ∷ []) k.context ∙ sym g)

-- ---- the turns of the loop
-- gas is left
pub gas-less : (gas fuel steps : ℕ) → fuel < gas + steps → steps ≤ fuel → (g : ℕ) × (gas ≡ suc g)
gas-less zero fuel steps h k = absurd (let no : ⊥ = omega arith in no)
gas-less (suc g) fuel steps h k = (g, refl)

module _ (gas : ℕ) (t : Table) (cuts : ℕ) (inside : t.unknowns ≤ t.count) (l : Limits) (c : Count) (g : ℕ) (some : gas ≡ suc g) where
  pub turn_on : (i : ℕ) → i < t.count → Some i ≡ first_negative 0 (in_use t) → (spot : ℕ × ℕ) → Some spot ≡ pivot_place t i → (o : Outcome Work) → turn Test (get_or t.rows spot.0 no_row) spot.1 (test_of t cuts) l c ≡ o → settle testing gas (test_of t cuts) l c ≡ next o (settle testing g) l
  turn_on i lt e spot p o m =
      let q = place-some t i spot p in
      ap (λ n. settle testing n (test_of t cuts) l c) some
      ∙ test-turn g t cuts inside l c i lt (sym e) spot.1 q.1 o (ap (λ k. turn Test (get_or t.rows k no_row) spot.1 (test_of t cuts) l c) (sym q.0) ∙ m)

  pub none-on : (i : ℕ) → i < t.count → Some i ≡ first_negative 0 (in_use t) → None ≡ pivot_place t i → settle testing gas (test_of t cuts) l c ≡ Ok (none, c)
  none-on i lt e p = ap (λ n. settle testing n (test_of t cuts) l c) some ∙ test-none g t cuts inside l c i lt (sym e) (place_none t i p)

  pub leaf-on : None ≡ first_negative 0 (in_use t) → None ≡ first_fraction 0 (top t) → settle testing gas (test_of t cuts) l c ≡ Ok (leaf (map (λ r. map (quot_by r.div) r.form) (top t)), c)
  leaf-on e p = ap (λ n. settle testing n (test_of t cuts) l c) some ∙ test-leaf g t cuts inside l c (sym e) (sym p)

  pub cut_on : None ≡ first_negative 0 (in_use t) → (h : ℕ) → h < t.unknowns → Some h ≡ first_fraction 0 (top t) → (o : Outcome Work) → cut Test (settle testing g) (test_of t cuts) (cut_of (get_or t.rows h no_row)) l c ≡ next o (settle testing g) l → settle testing gas (test_of t cuts) l c ≡ next o (settle testing g) l
  cut_on e h lt p o m = ap (λ n. settle testing n (test_of t cuts) l c) some ∙ test-cut g t cuts inside l c (sym e) h lt (sym p) ∙ m

-- what a test answers, from what the rules' test comes to
pub test-from : (p made : ℕ) (forms : List (List ℤ)) (l : Limits) (c : Count) (o : Outcome Tree) → o ≡ settle testing 100_001 (test_work p made forms) l c → test p made forms l c ≡ next o (λ t. return (has_point t)) l
test-from p made forms l c o e = test-is p made forms l c ∙ ap (λ o. next o (λ t. return (has_point t)) l) (sym e)
