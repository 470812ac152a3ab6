-- What holds of the words, and passes from one computation to the next, holds of all the rules.
use Rattle.std.proofs.Common.{◌≡◌, ℕ, zero, suc, Bool, true, false, cond, ◌&&◌, eqb, List, [], ◌∷◌, ◌++◌, ℤ, pos, negsuc, Some, None, Option, refl, arith}
use lib.Signed.{lt_z}
use Rattle.base.specs.declared.refusal.Met.{Met}
use Rattle.base.specs.declared.refusal.Place.{Place}
use Rattle.base.specs.declared.refusal.Place.TheVariants.{Node, Test}
use Rattle.base.specs.declared.refusal.Refusal.{Refusal}
use Rattle.base.specs.declared.refusal.Refusal.TheVariants.{Cuts, Depth, FuelSpent, NewParameters, NoParameterPoint, Range, WorkFull}
use Rattle.base.specs.Forms.{opposite}
use Rattle.base.specs.Numbers.{at}
use Rattle.tableau.specs.declared.table.Row.{Row}
use Rattle.tableau.specs.Cuts.{CutNumbers, is_constant}
use Rattle.tree.specs.Trees.{Tree, leaf, new, none, split}
use Rattle.solver.specs.declared.sign.Sign.{Sign}
use Rattle.solver.specs.declared.sign.Sign.TheVariants.{NonNegative, Negative, Unknown}
use Rattle.solver.specs.Runs.{Run, bar, fail, refuse, return, tick, write, ◌>>=◌, ◌>>◌}
use Rattle.solver.specs.Rules.{Scan, Way, Work, act, added, after_above, after_below, below, branch, branches, clear, cut, cut_new, cut_plain, finish, has_point, lift, node, none_above, none_below, plenty, ranged, scan, scanned, settle, sign_in, sign_of, solving, test, test_with, testing, turn, unsure, with_row}
use Rattle.solver.specs.Solves.{begun, keeps, run}

-- a property of computations
abbrev pub Property : Type 1
Property = (A : Type 0) → Run A → Type 0

-- one of computations of a tree, at a node or in a test, with so much gas
abbrev pub TreeProperty : Type 1
TreeProperty = ℕ → Place → Run Tree → Type 0

-- how far the run had come, for a refusal that tells it
abbrev pub met_of : Refusal → Option Met
met_of (WorkFull m) = Some m
met_of (FuelSpent m) = Some m
met_of (Range m) = Some m
met_of (Cuts m) = Some m
met_of (NewParameters m) = Some m
met_of (Depth m) = Some m
met_of _ = None

-- refusals on the way, and those for another reason than fuel
abbrev pub OnTheWay : (Met → Refusal) → Type 0
OnTheWay why = (m : Met) → met_of (why m) ≡ Some m

abbrev pub Other : (Met → Refusal) → Type 0
Other why = (m : Met) → ((m' : Met) → ¬ (why m ≡ FuelSpent m')) × (met_of (why m) ≡ Some m)

-- the property holds of the words that write nothing, and passes from one computation to the next
pub record Passes (P : Property) : Type 1 where
  pub returned : (A : Type 0) (a : A) → P A (return a)
  pub refused : (A : Type 0) (why : Met → Refusal) (place : Place) → Other why → P A (refuse why place)
  pub ticked : (place : Place) → P (Unit {0}) (tick place)
  pub bound : (A B : Type 0) (m : Run A) (k : A → Run B) → P A m → ((a : A) → P B (k a)) → P B (m >>= k)
  pub followed : (A B : Type 0) (m : Run A) (k : Run B) → P A m → P B k → P B (m >> k)

-- each way to make a tree gives the property of trees; a step makes up for one gas
pub record Grows (P : Property) (T : TreeProperty) : Type 1 where
  pub passes : Passes P
  pub gone : (place : Place) → T 0 place (refuse FuelSpent place)
  pub fewer : (n : ℕ) (place : Place) (m : Run Tree) → T (suc n) place m → T n place m
  pub enough : (n : ℕ) (place : Place) (m : Run Tree) → T plenty place m → T n place m
  pub barred : (n : ℕ) (place : Place) (why : Met → Refusal) → Other why → T n place (bar why place)
  pub bound : (A : Type 0) (n : ℕ) (place : Place) (m : Run A) (k : A → Run Tree) → P A m → ((a : A) → T n place (k a)) → T n place (m >>= k)
  pub followed : (A : Type 0) (n : ℕ) (place : Place) (m : Run A) (k : Run Tree) → P A m → T n place k → T n place (m >> k)
  pub step_bound : (A : Type 0) (n : ℕ) (place : Place) (m : Run A) (k : A → Run Tree) → P A m → ((a : A) → T n place (k a)) → T (suc n) place ((tick place >> m) >>= k)
  pub step_followed : (n : ℕ) (place : Place) (k : Run Tree) → T n place k → T (suc n) place (tick place >> k)
  pub no_point : (n : ℕ) (place : Place) → T n place (write place >> return none)
  pub point : (n : ℕ) (place : Place) (forms : List (List ℤ)) → T n place (write place >> return (leaf forms))
  pub new_below : (n : ℕ) (place : Place) (d : ℤ) (C : List ℤ) (m : Run (Unit {0})) (k : Run Tree) → P (Unit {0}) m → T n place k → T n place (write place >> (m >> (k >>= λ t. return (new d C t))))
  pub split_below : (n : ℕ) (C : List ℤ) (m k : Run Tree) → T n Node m → T n Node k → T n Node (write Node >> (m >>= λ t. k >>= λ u. return (split C t u)))
  pub looked : (m : Run Tree) → T plenty Test m → P Bool (m >>= λ t. return (has_point t))

-- ---- refusals of the rules that are not for fuel
pub no-path : ◌≡◌ {A = ℕ} 0 1 → ⊥
no-path z = omega arith

other-range : Other Range
other-range m = (λ m' e. no-path cc, refl)

other-cuts : Other Cuts
other-cuts m = (λ m' e. no-path cc, refl)

other-new : Other NewParameters
other-new m = (λ m' e. no-path cc, refl)

other-depth : Other Depth
other-depth m = (λ m' e. no-path cc, refl)

-- ---- the signs of constants are known at once
abbrev Sure : Scan → Type 0
Sure (below i) = Unit {0}
Sure (unsure i) = ⊥
Sure clear = Unit {0}

constants : (rs : List Row) → (f : Scan) × Sure f × (scan (λ C. return (sign_of (at C 9))) rs ≡ return f)
unfolding scan scanned return ◌>>=◌
constants [] = (clear, tt, refl)
constants (r ∷ rs) = go (constants rs) (at r.form 9)
  where
    go : ((f : Scan) × Sure f × (scan (λ C. return (sign_of (at C 9))) rs ≡ return f)) → (z : ℤ) → (f : Scan) × Sure f × ((return (sign_of z) >>= scanned r (scan (λ C. return (sign_of (at C 9))) rs)) ≡ return f)
    go ih (pos n) = ih
    go ih (negsuc n) = (below r, tt, refl)

return-bound : (A B : Type 0) (a : A) (k : A → Run B) → (return a >>= k) ≡ k a
unfolding return ◌>>=◌
return-bound A B a k = refl

-- ---- the rules
module _ (P : Property) (T : TreeProperty) (g : Grows P T) where
  cond-run : (A : Type 0) (b : Bool) (m k : Run A) → P A m → P A k → P A (cond b m k)
  cond-run A true m k p q = p
  cond-run A false m k p q = q

  cond-tree : (n : ℕ) (place : Place) (b : Bool) (m k : Run Tree) → T n place m → T n place k → T n place (cond b m k)
  cond-tree n place true m k p q = p
  cond-tree n place false m k p q = q

  of-ranged : (place : Place) (b : Bool) → P (Unit {0}) (ranged place b)
  unfolding ranged
  of-ranged place b = cond-run _ b _ _ (g.passes.returned _ tt) (g.passes.refused _ Range place other-range)

  of-scanned : (r : Row) (rest : Run Scan) → P Scan rest → (s : Sign) → P Scan (scanned r rest s)
  unfolding scanned
  of-scanned r rest p NonNegative = p
  of-scanned r rest p Negative = g.passes.returned _ _
  of-scanned r rest p Unknown = g.passes.bound _ _ rest _ p (λ _. g.passes.returned _ _)

  of-scan : (sign : List ℤ → Run Sign) → ((C : List ℤ) → P Sign (sign C)) → (rs : List Row) → P Scan (scan sign rs)
  unfolding scan
  of-scan sign p [] = g.passes.returned _ _
  of-scan sign p (r ∷ rs) = g.passes.bound _ _ (sign r.form) _ (p r.form) (of-scanned r (scan sign rs) (of-scan sign p rs))

  -- a turn is a step, and what comes after it has one gas less
  module _ (n : ℕ) (place : Place) (again : Work → Run Tree) (on : (s : Work) → T n place (again s)) where
    of-turn : (i : Row) (j : ℕ) (s : Work) → T (suc n) place (turn place i j s >>= again)
    unfolding turn
    of-turn i j s = g.step_bound _ n place _ again (g.passes.followed _ _ (ranged place _) _ (of-ranged place _) (g.passes.returned _ _)) on

    of-lift : (s : Work) (i : Row) (j : Option ℕ) → T (suc n) place (lift place again s i j)
    unfolding lift
    of-lift s i None = g.no_point (suc n) place
    of-lift s i (Some j) = of-turn i j s

    of-added : (s : Work) (i : Row) (j : Option ℕ) → T n place (added place again s i j)
    unfolding added
    of-added s i None = on s
    of-added s i (Some j) = g.fewer n place _ (of-turn i j s)

    of_row : (s : Work) (context : List (List ℤ)) (q : ℕ) (r : Row) → T n place (with_row place again s context q r)
    unfolding with_row
    of_row s context q r = g.followed _ n place (ranged place _) _ (of-ranged place _) (of-added _ r _)

    of_plain : (s : Work) (c : CutNumbers) → T (suc n) place (cut_plain place again s c)
    unfolding cut_plain
    of_plain s c = g.step_followed n place _ (of_row s _ _ _)

    of-new : (s : Work) (c : CutNumbers) → T (suc n) place (cut_new place again s c)
    unfolding cut_new
    of-new s c = g.step_followed n place _ (g.new_below n place _ _ (ranged place _) _ (of-ranged place _) (of_row s _ _ _))

    of_cut : (s : Work) (c : CutNumbers) → T (suc n) place (cut place again s c)
    unfolding cut
    of_cut s c =
        let named : Run Tree = cond (eqb s.made 5) (bar NewParameters place) (cut_new place again s c) in
        let few : Run Tree = cond (is_constant c) (cut_plain place again s c) named in
        cond-tree (suc n) place (eqb s.cuts 24) (bar Cuts place) few (g.barred (suc n) place Cuts other-cuts)
        (cond-tree (suc n) place (is_constant c) (cut_plain place again s c) named (of_plain s c)
        (cond-tree (suc n) place (eqb s.made 5) (bar NewParameters place) (cut_new place again s c) (g.barred (suc n) place NewParameters other-new) (of-new s c)))

    of-finish : (s : Work) (r : Option Row) → T (suc n) place (finish place again s r)
    unfolding finish
    of-finish s None = g.point (suc n) place _
    of-finish s (Some r) = of_cut s _

  -- what a scan may find, and what a split does then
  module _ (w : Way) (Found : Scan → Type 0)
      (scans : (n : ℕ) (s : Work) (k : Scan → Run Tree) → ((f : Scan) → Found f → T n w.place (k f)) → T n w.place (scan (w.sign s) (s.top ++ s.rest) >>= k))
      (splits : (n : ℕ) (s : Work) (i : Row) → Found (unsure i) → T n w.place (w.split s i.form)) where
    of-act : (n : ℕ) (again : Work → Run Tree) → ((s : Work) → T n w.place (again s)) → (s : Work) (f : Scan) → Found f → T (suc n) w.place (act w again s f)
    unfolding act
    of-act n again on s (below i) h = of-lift n w.place again on s i _
    of-act n again on s (unsure i) h = splits (suc n) s i h
    of-act n again on s clear h = of-finish n w.place again on s _

    of-settle : (gas : ℕ) (s : Work) → T gas w.place (settle w gas s)
    unfolding settle
    of-settle zero s = g.gone w.place
    of-settle (suc gas) s = scans (suc gas) s _ (of-act gas (settle w gas) (of-settle gas) s)

  test-scans : (n : ℕ) (s : Work) (k : Scan → Run Tree) → ((f : Scan) → Sure f → T n Test (k f)) → T n Test (scan (λ C. return (sign_of (at C 9))) (s.top ++ s.rest) >>= k)
  test-scans n s k h = let f = constants (s.top ++ s.rest) in rw (f.2, return-bound Scan Tree f.0 k) (h f.0 f.1)

  pub of_test : (p n : ℕ) (forms : List (List ℤ)) → P Bool (test p n forms)
  unfolding test
  of_test p n forms = g.looked (settle testing _ _) (of-settle testing Sure test-scans (λ n s i h. absurd h) plenty _)

  of-with : (s : Work) (C : List ℤ) → P Bool (test_with s C)
  unfolding test_with
  of-with s C = g.passes.followed _ _ (ranged Test _) _ (of-ranged Test _) (of_test _ _ _)

  of-above : (b : Bool) → P Sign (after_above b)
  unfolding after_above
  of-above true = g.passes.returned _ _
  of-above false = g.passes.returned _ _

  of-below : (s : Work) (C : List ℤ) (b : Bool) → P Sign (after_below s C b)
  unfolding after_below
  of-below s C true = g.passes.bound _ _ (test_with s C) after_above (of-with s C) of-above
  of-below s C false = g.passes.returned _ _

  of-sign : (s : Work) (C : List ℤ) → P Sign (sign_in s C)
  unfolding sign_in
  of-sign s C =
      let tests : Run Sign = test_with s (opposite C) >>= after_below s C in
      let second : Run Sign = cond (lt_z (at C 9) (pos 0) && none_above C) (return Negative) tests in
      cond-run Sign (none_below C) (return NonNegative) second (g.passes.returned _ NonNegative)
      (cond-run Sign (lt_z (at C 9) (pos 0) && none_above C) (return Negative) tests (g.passes.returned _ Negative)
      (g.passes.bound _ _ (test_with s (opposite C)) (after_below s C) (of-with s (opposite C)) (of-below s C)))

  module _ (n : ℕ) (deeper : Work → Run Tree) (on : (s : Work) → T n Node (deeper s)) where
    of-branch : (s : Work) (C : List ℤ) → T n Node (branch deeper s C)
    unfolding branch
    of-branch s C = g.followed _ n Node (ranged Node _) _ (of-ranged Node _) (on _)

    of-branches : (s : Work) (C : List ℤ) → T n Node (branches deeper s C)
    unfolding branches
    of-branches s C = g.fewer n Node _ (g.step_followed n Node _ (g.split_below n C (branch deeper s C) (branch deeper s (opposite C)) (of-branch s C) (of-branch s (opposite C))))

  node-scans : (n : ℕ) (s : Work) (k : Scan → Run Tree) → ((f : Scan) → Unit {0} → T n Node (k f)) → T n Node (scan (sign_in s) (s.top ++ s.rest) >>= k)
  node-scans n s k h = g.bound _ n Node (scan (sign_in s) (s.top ++ s.rest)) k (of-scan (sign_in s) (of-sign s) (s.top ++ s.rest)) (λ f. h f tt)

  pub of_node : (left : ℕ) (s : Work) → T plenty Node (node left s)
  unfolding node
  of_node zero s = of-settle (solving _) (λ _. Unit {0}) node-scans (λ n s i _. g.barred n Node Depth other-depth) plenty s
  of_node (suc left) s =
      of-settle (solving (branches (node left))) (λ _. Unit {0}) node-scans (λ n s i _. of-branches n (node left) (λ s. g.enough n Node (node left s) (of_node left s)) s i.form) plenty s

-- ---- a property of trees made at a node that is one of computations gives that of a whole run
pub record Roots (P : Property) (T : TreeProperty) : Type 1 where
  pub grows : Grows P T
  pub rooted : (m : Run Tree) → T plenty Node m → P Tree m
  pub wrote : P (Unit {0}) (write Node)
  pub no_parameters : P Tree (fail NoParameterPoint)

of-keeps : (P : Property) → Passes P → P (Unit {0}) (write Node) → (Cs : List (List ℤ)) → P (Unit {0}) (keeps Cs)
unfolding keeps
of-keeps P h wrote [] = h.returned _ _
of-keeps P h wrote (C ∷ Cs) = h.followed _ _ (write Node) _ wrote (of-keeps P h wrote Cs)

module _ (P : Property) (T : TreeProperty) (g : Roots P T) where
  of-begun : (s : Work) (b : Bool) → P Tree (begun s b)
  unfolding begun
  of-begun s true =
      g.grows.passes.followed _ _ (write Node) _ g.wrote (g.grows.passes.followed _ _ (keeps s.context) _ (of-keeps P g.grows.passes g.wrote s.context) (g.rooted (node 12 s) (of_node P T g.grows 12 s)))
  of-begun s false = g.no_parameters

  pub of-run : (s : Work) → P Tree (run s)
  unfolding run
  of-run s = g.grows.passes.bound _ _ (test _ _ _) (begun s) (of_test P T g.grows _ _ _) (of-begun s)

-- ---- a property of all the words is one of every test and node, and with that of refusal 13 one of every run, whatever the gas
pub record Words (P : Property) : Type 1 where
  pub returned : (A : Type 0) (a : A) → P A (return a)
  pub refused : (A : Type 0) (why : Met → Refusal) (place : Place) → OnTheWay why → P A (refuse why place)
  pub ticked : (place : Place) → P (Unit {0}) (tick place)
  pub barred : (A : Type 0) (why : Met → Refusal) (place : Place) → OnTheWay why → P A (bar why place)
  pub wrote : (place : Place) → P (Unit {0}) (write place)
  pub bound : (A B : Type 0) (m : Run A) (k : A → Run B) → P A m → ((a : A) → P B (k a)) → P B (m >>= k)
  pub followed : (A B : Type 0) (m : Run A) (k : Run B) → P A m → P B k → P B (m >> k)

spent-on-the-way : OnTheWay FuelSpent
spent-on-the-way m = refl

module _ (P : Property) (w : Words P) where
  abbrev of-trees : TreeProperty
  of-trees n place m = P Tree m

  words-pass : Passes P
  words-pass = record { returned = w.returned; refused = λ A why place other. w.refused A why place (λ m. (other m).1); ticked = w.ticked; bound = w.bound; followed = w.followed }

  words-grow : Grows P of-trees
  words-grow =
      record {
        passes = words-pass;
        gone = λ place. w.refused Tree FuelSpent place spent-on-the-way;
        fewer = λ n place m p. p;
        enough = λ n place m p. p;
        barred = λ n place why other. w.barred Tree why place (λ m. (other m).1);
        bound = λ A n place m k. w.bound A Tree m k;
        followed = λ A n place m k. w.followed A Tree m k;
        step_bound = λ A n place m k p q. w.bound _ _ (tick place >> m) k (w.followed _ _ (tick place) m (w.ticked place) p) q;
        step_followed = λ n place k q. w.followed _ _ (tick place) k (w.ticked place) q;
        no_point = λ n place. w.followed _ _ (write place) _ (w.wrote place) (w.returned _ _);
        point = λ n place forms. w.followed _ _ (write place) _ (w.wrote place) (w.returned _ _);
        new_below = λ n place d C m k p q. w.followed _ _ (write place) _ (w.wrote place) (w.followed _ _ m _ p (w.bound _ _ k _ q (λ t. w.returned _ _)));
        split_below = λ n C m k p q. w.followed _ _ (write Node) _ (w.wrote Node) (w.bound _ _ m _ p (λ t. w.bound _ _ k _ q (λ u. w.returned _ _)));
        looked = λ m p. w.bound _ _ m _ p (λ t. w.returned _ _);
      }

  pub words-test : (p n : ℕ) (forms : List (List ℤ)) → P Bool (test p n forms)
  words-test = of_test P of-trees words-grow

  -- the head, the keeps and the tree
  pub words-begun : (s : Work) → P Tree (begun s true)
  unfolding begun
  words-begun s = w.followed _ _ (write Node) _ (w.wrote Node) (w.followed _ _ (keeps s.context) _ (of-keeps P words-pass (w.wrote Node) s.context) (of_node P of-trees words-grow 12 s))

  pub of_words : P Tree (fail NoParameterPoint) → (s : Work) → P Tree (run s)
  of_words thirteen = of-run P of-trees (record { grows = words-grow; rooted = λ m p. p; wrote = w.wrote Node; no_parameters = thirteen })
