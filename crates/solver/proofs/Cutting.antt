-- A cut, as the rules have it.
use Rattle.std.proofs.Common.{◌≡◌, ℕ, suc, ◌+◌, ◌<◌, Bool, true, false, cond, ◌&&◌, eqb, ltb, MatchBool, List, [], ◌∷◌, ◌++◌, length, ℤ, Some, None, Ok, Err, Result, sym, refl, ap, ◌∙◌, inl, inr, arith}
use Rattle.std.proofs.lemmas.Bool.{eq-eqb, ne_eqb}
use Rattle.base.specs.declared.refusal.Met.{Met}
use Rattle.base.specs.declared.refusal.Place.{Place}
use Rattle.base.specs.declared.refusal.Refusal.{Refusal}
use Rattle.base.specs.declared.refusal.Refusal.TheVariants.{FuelSpent, Cuts, NewParameters}
use Rattle.tableau.specs.Cuts.{CutNumbers, cut_row, is_constant}
use Rattle.tree.specs.Trees.{Tree}
use Rattle.solver.specs.declared.count.Count.{Count}
use Rattle.solver.specs.declared.count.Stopped.{Stopped}
use Rattle.solver.specs.Runs.{Limits, Outcome, Run, next, ◌>>◌, bar, stepped, tick, stopped_at, stopped}
use Rattle.solver.specs.Rules.{Work, cut, cut_new, cut_plain, with_row}
use Rattle.base.specs.declared.refusal.Refusal.TheVariants.{Range}
use Rattle.base.specs.declared.refusal.Place.TheVariants.{Node}
use Rattle.base.specs.Numbers.{within}
use Rattle.tableau.specs.Cuts.{lower, upper}
use Rattle.tree.specs.Trees.{new}
use Rattle.solver.specs.declared.state.State.{State}
use Rattle.solver.specs.Ends.{NewMade, below_new}
use Rattle.solver.specs.Runs.{◌>>=◌, refuse, return, write}
use Rattle.solver.specs.Rules.{ranged}
use Rattle.tree.specs.declared.node.Node.{Node as TreeNode}
use Rattle.solver.specs.Bounds.{in_force}
use Rattle.solver.specs.Ties.{counted, limits, noted_in, ticked, work_of}
use Rattle.solver.proofs.Writing.{write_then}

-- what follows a step that may be refused
abbrev pub once_ticked : {A : Type 0} → Result Count Stopped → (Count → Outcome A) → Outcome A
once_ticked (Ok c) k = k c
once_ticked (Err e) k = Err e

pub tick-then : {A : Type 0} (place : Place) (m : Run A) (fuel room : ℕ) (c : Count) → (tick place >> m) (limits fuel room) c ≡ once_ticked (ticked place fuel c) (m (limits fuel room))
unfolding tick ◌>>◌
tick-then {A} place m fuel room c = go (ltb c.steps fuel)
  where
    go : (b : Bool) → next {A = Unit {0}} (cond b (Ok (tt {0}, stepped c)) (Err (stopped_at FuelSpent place c))) (λ _. m) (limits fuel room) ≡ once_ticked (cond b (Ok (stepped c)) (Err (stopped_at FuelSpent place c))) (m (limits fuel room))
    go true = refl
    go false = refl

pub bar-is : {A : Type 0} (why : Met → Refusal) (place : Place) (fuel room : ℕ) (c : Count) → bar {A = A} why place (limits fuel room) c ≡ Err (cond (ltb c.steps fuel) (stopped_at why place c) (stopped_at FuelSpent place c))
unfolding bar
bar-is {A} why place fuel room c = go (ltb c.steps fuel)
  where
    go : (b : Bool) → ◌≡◌ {A = Outcome A} (cond b (Err (stopped_at why place c)) (Err (stopped_at FuelSpent place c))) (Err (cond b (stopped_at why place c) (stopped_at FuelSpent place c)))
    go true = refl
    go false = refl

-- the refusal that the code gives there
pub barred-is : (M : Type 0) (b : Bool) (r : Stopped) (why spent : Refusal) (c : Count) → MatchBool b (M × (r.why ≡ why)) (r.why ≡ spent) → r.count ≡ c → cond b (stopped why c) (stopped spent c) ≡ r
barred-is M true r why spent c h k = λ m. record { why = sym h.1 m; count = sym k m }
barred-is M false r why spent c h k = λ m. record { why = sym h m; count = sym k m }

module _ (place : Place) (again : Work → Run Tree) (s : Work) (x : CutNumbers) (fuel room : ℕ) (c : Count) where
  pub cut-many : s.cuts ≡ 24 → cut place again s x (limits fuel room) c ≡ Err (cond (ltb c.steps fuel) (stopped_at Cuts place c) (stopped_at FuelSpent place c))
  unfolding cut
  cut-many h = ap (λ b. cond b (bar Cuts place) (cond (is_constant x) (cut_plain place again s x) (cond (eqb s.made 5) (bar NewParameters place) (cut_new place again s x))) (limits fuel room) c) (eq-eqb s.cuts 24 h) ∙ bar-is Cuts place fuel room c

  pub cut-plain : s.cuts < 24 → is_constant x ≡ true → cut place again s x (limits fuel room) c ≡ once_ticked (ticked place fuel c) (with_row place again s s.context s.made (cut_row x None) (limits fuel room))
  unfolding cut cut_plain
  cut-plain h k =
      ap (λ b. cond b (bar Cuts place) (cond (is_constant x) (cut_plain place again s x) (cond (eqb s.made 5) (bar NewParameters place) (cut_new place again s x))) (limits fuel room) c) (ne_eqb s.cuts 24 (λ e. let no : ⊥ = omega (arith, e) in no))
      ∙ ap (λ b. cond b (cut_plain place again s x) (cond (eqb s.made 5) (bar NewParameters place) (cut_new place again s x)) (limits fuel room) c) k
      ∙ tick-then place (with_row place again s s.context s.made (cut_row x None)) fuel room c

-- ---- a cut with a new parameter, at a node
once-next : {A : Type 0} (r : Result Count Stopped) (m : Run A) (l : Limits) → next (counted r) (λ _. m) l ≡ once_ticked r (m l)
once-next (Ok c) m l = refl
once-next (Err e) m l = refl

pub ranged-then : {A : Type 0} (place : Place) (b : Bool) (m : Run A) (l : Limits) (c : Count) → (ranged place b >> m) l c ≡ cond b (m l c) (Err (stopped_at Range place c))
unfolding ranged ◌>>◌ return refuse
ranged-then place true m l c = refl
ranged-then place false m l c = refl

ticked-ext : {A : Type 0} (o : Result Count Stopped) (k m : Count → Outcome A) → ((d : Count) → k d ≡ m d) → once_ticked o k ≡ once_ticked o m
ticked-ext (Ok c) k m h = h c
ticked-ext (Err e) k m h = refl

new_then : (d : ℤ) (T : List ℤ) (o : Outcome Tree) (l : Limits) → next o (λ t. return (new d T t)) l ≡ below_new d T o
unfolding return
new_then d T (Ok v) l = refl
new_then d T (Err e) l = refl

module _ (again : Work → Run Tree) (s : Work) (x : CutNumbers) (fuel room : ℕ) (c : Count) (few : s.cuts < 24) (k : is_constant x ≡ false) where
  named : cut Node again s x (limits fuel room) c ≡ cond (eqb s.made 5) (bar NewParameters Node) (cut_new Node again s x) (limits fuel room) c
  unfolding cut
  named =
      ap (λ b. cond b (bar Cuts Node) (cond (is_constant x) (cut_plain Node again s x) (cond (eqb s.made 5) (bar NewParameters Node) (cut_new Node again s x))) (limits fuel room) c) (ne_eqb s.cuts 24 (λ e. let no : ⊥ = omega (arith, e) in no))
      ∙ ap (λ b. cond b (cut_plain Node again s x) (cond (eqb s.made 5) (bar NewParameters Node) (cut_new Node again s x)) (limits fuel room) c) k

  pub cut-fifth : s.made ≡ 5 → cut Node again s x (limits fuel room) c ≡ Err (cond (ltb c.steps fuel) (stopped_at NewParameters Node c) (stopped_at FuelSpent Node c))
  cut-fifth h = named ∙ ap (λ b. cond b (bar NewParameters Node) (cut_new Node again s x) (limits fuel room) c) (eq-eqb s.made 5 h) ∙ bar-is NewParameters Node fuel room c

  -- the rows of the new parameter join the context, and the cut row the table
  abbrev pub rows_join : Count → Outcome Tree
  rows_join d =
      cond (within (lower x (4 + s.made)) && within (upper x (4 + s.made)))
      (below_new x.div x.form (with_row Node again s (s.context ++ (lower x (4 + s.made) ∷ (upper x (4 + s.made) ∷ []))) (suc s.made) (cut_row x (Some (4 + s.made))) (limits fuel room) d))
      (Err (stopped_at Range Node d))

  last-part : Run Tree
  last-part = with_row Node again s (s.context ++ (lower x (4 + s.made) ∷ (upper x (4 + s.made) ∷ []))) (suc s.made) (cut_row x (Some (4 + s.made))) >>= (λ t. return (new x.div x.form t))

  joins : (d : Count) → (ranged Node (within (lower x (4 + s.made)) && within (upper x (4 + s.made))) >> last-part) (limits fuel room) d ≡ rows_join d
  unfolding last-part ◌>>=◌
  joins d =
      ranged-then Node (within (lower x (4 + s.made)) && within (upper x (4 + s.made))) last-part (limits fuel room) d
      ∙ ap (λ o. cond (within (lower x (4 + s.made)) && within (upper x (4 + s.made))) o (Err (stopped_at Range Node d))) (new_then x.div x.form (with_row Node again s (s.context ++ (lower x (4 + s.made) ∷ (upper x (4 + s.made) ∷ []))) (suc s.made) (cut_row x (Some (4 + s.made))) (limits fuel room) d) (limits fuel room))

  pub cut-new : s.made < 5 → cut Node again s x (limits fuel room) c ≡ once_ticked (ticked Node fuel c) (λ d. once_ticked (noted_in room d) rows_join)
  unfolding cut_new last-part
  cut-new h =
      named ∙ ap (λ b. cond b (bar NewParameters Node) (cut_new Node again s x) (limits fuel room) c) (ne_eqb s.made 5 (λ e. let no : ⊥ = omega (arith, e) in no))
      ∙ tick-then Node (write Node >> (ranged Node (within (lower x (4 + s.made)) && within (upper x (4 + s.made))) >> last-part)) fuel room c
      ∙ ticked-ext (ticked Node fuel c) ((write Node >> (ranged Node (within (lower x (4 + s.made)) && within (upper x (4 + s.made))) >> last-part)) (limits fuel room)) (λ d. once_ticked (noted_in room d) rows_join)
      (λ d. write_then (ranged Node (within (lower x (4 + s.made)) && within (upper x (4 + s.made))) >> last-part) (limits fuel room) d
      ∙ once-next (noted_in room d) (ranged Node (within (lower x (4 + s.made)) && within (upper x (4 + s.made))) >> last-part) (limits fuel room)
      ∙ ticked-ext (noted_in room d) ((ranged Node (within (lower x (4 + s.made)) && within (upper x (4 + s.made))) >> last-part) (limits fuel room)) rows_join joins)

-- ---- the same at a state, with what the code found on the way
module _ (again : Work → Run Tree) (x : State) (k : CutNumbers) (fuel : ℕ) (before : List TreeNode) (c : Count) (few : x.cuts < 24) (named : is_constant k ≡ false) (new : x.context.made < 5) where
  l : Limits
  l = limits fuel (length before)

  pub new-spent : (e : Stopped) → ticked Node fuel c ≡ Err e → cut Node again (work_of x) k (limits fuel (length before)) c ≡ Err e
  new-spent e h = cut-new again (work_of x) k fuel (length before) c few named new ∙ ap (λ o. once_ticked o (λ d. once_ticked (noted_in (length before) d) (rows_join again (work_of x) k fuel (length before) c few named))) h

  module _ (d : Count) (h : ticked Node fuel c ≡ Ok d) where
    stepped-on : cut Node again (work_of x) k (limits fuel (length before)) c ≡ once_ticked (noted_in (length before) d) (rows_join again (work_of x) k fuel (length before) c few named)
    stepped-on = cut-new again (work_of x) k fuel (length before) c few named new ∙ ap (λ o. once_ticked o (λ d. once_ticked (noted_in (length before) d) (rows_join again (work_of x) k fuel (length before) c few named))) h

    pub new-refused : (y : State) (after : List TreeNode) (e : Stopped) → NewMade x k before d y after (Err e) → cut Node again (work_of x) k (limits fuel (length before)) c ≡ Err e
    new-refused y after e (inl p) = stepped-on ∙ ap (λ o. once_ticked o (rows_join again (work_of x) k fuel (length before) c few named)) (sym p)
    new-refused y after e (inr p) =
        stepped-on ∙ ap (λ o. once_ticked o (rows_join again (work_of x) k fuel (length before) c few named)) (sym p.1)
        ∙ ap (λ b. cond b (below_new k.div k.form (with_row Node again (work_of x) (in_force x.context ++ (lower k (4 + x.context.made) ∷ (upper k (4 + x.context.made) ∷ []))) (suc x.context.made) (cut_row k (Some (4 + x.context.made))) (limits fuel (length before)) p.0)) (Err (stopped_at Range Node p.0))) p.2
        ∙ ap Err (sym p.3)

    pub new_row : (y : State) (after : List TreeNode) (f : Count) → NewMade x k before d y after (Ok f) → cut Node again (work_of x) k (limits fuel (length before)) c ≡ below_new k.div k.form (with_row Node again (work_of x) (in_force y.context) y.context.made (cut_row k (Some (4 + x.context.made))) (limits fuel (length before)) f)
    new_row y after f p =
        stepped-on ∙ ap (λ o. once_ticked o (rows_join again (work_of x) k fuel (length before) c few named)) (sym p.0)
        ∙ ap (λ b. cond b (below_new k.div k.form (with_row Node again (work_of x) (in_force x.context ++ (lower k (4 + x.context.made) ∷ (upper k (4 + x.context.made) ∷ []))) (suc x.context.made) (cut_row k (Some (4 + x.context.made))) (limits fuel (length before)) f)) (Err (stopped_at Range Node f))) p.1
        ∙ ap (λ fs. below_new k.div k.form (with_row Node again (work_of x) fs (suc x.context.made) (cut_row k (Some (4 + x.context.made))) (limits fuel (length before)) f)) (sym p.2)
        ∙ ap (λ n. below_new k.div k.form (with_row Node again (work_of x) (in_force y.context) n (cut_row k (Some (4 + x.context.made))) (limits fuel (length before)) f)) (sym p.4)
