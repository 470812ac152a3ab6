-- One induction over the work at a node and in a test: what each move keeps, and what each end makes, holds of the tree.
use Rattle.std.proofs.Common.{◌≡◌, ℕ, zero, suc, ◌+◌, Bool, true, false, cond, ◌&&◌, eqb, List, [], ◌∷◌, ◌++◌, map, ℤ, Some, None, Option, sym, refl, ap, subst, inl, inr}
use Rattle.base.specs.declared.refusal.Place.{Place}
use Rattle.base.specs.declared.refusal.Refusal.TheVariants.{Cuts, FuelSpent, NewParameters}
use Rattle.base.specs.Numbers.{within}
use Rattle.solver.proofs.Turning.{plus_row, turned_work}
use Rattle.tableau.specs.declared.table.Row.{Row}
use Rattle.tableau.specs.Columns.{entering}
use Rattle.tableau.specs.Cuts.{cut_of, cut_row, is_constant, lower, upper, whole}
use Rattle.tableau.specs.Rows.{fits, pivoted}
use Rattle.tableau.specs.Tables.{all_fit}
use Rattle.tableau_laws.specs.Ends.{leaf_forms}
use Rattle.tableau_laws.specs.Lines.{In}
use Rattle.tableau_laws.proofs.Rows.{in_right}
use Rattle.tree.specs.Trees.{Tree, new, leaf, none}
use Rattle.solver.specs.declared.sign.Sign.{Sign}
use Rattle.solver.specs.declared.sign.Sign.TheVariants.{NonNegative, Negative, Unknown}
use Rattle.solver.specs.Runs.{Run, ◌>>=◌}
use Rattle.solver.specs.Rules.{Scan, Way, Work, act, added, below, clear, cut, cut_new, cut_plain, finish, fraction, lift, recall, scan, scanned, settle, turn, unsure, with_row}
use Rattle.solver_laws.specs.Meaning.{Yields}
use Rattle.solver_laws.proofs.Yields.{y-bar, y-bind, y-cond, y-ranged, y-refuse, y-return, y-seq, y-then, y-weaken}

-- the rows of the table
abbrev pub rows_in : Work → List Row
rows_in s = s.top ++ s.rest

-- after a cut, without and with a new parameter
abbrev pub plain_work : Work → Row → Work
plain_work s r = plus_row s s.context s.made (cut_row (cut_of r) None)

abbrev pub new_work : Work → Row → Work
new_work s r = plus_row s (s.context ++ (lower (cut_of r) (4 + s.made) ∷ (upper (cut_of r) (4 + s.made) ∷ []))) (suc s.made) (cut_row (cut_of r) (Some (4 + s.made)))

-- each row's form has this sign
abbrev pub AllSigned : (List ℤ → Sign → Type 0) → List Row → Type 0
AllSigned V [] = Unit {0}
AllSigned V (r ∷ rs) = V r.form NonNegative × AllSigned V rs

-- x stands for where the table is looked at; I holds of the work there, V of a form and its sign, R of the tree
pub record Sound (X : Type 0) (w : Way) (I : Work → X → Type 0) (V : Work → X → List ℤ → Sign → Type 0) (R : Work → X → Tree → Type 0) : Type 0 where
  pub signs : (s : Work) (x : X) (r : Row) → I s x → In r (rows_in s) → Yields (V s x r.form) (w.sign s r.form)
  pub turns : (s : Work) (x : X) (i : Row) (j : ℕ) → I s x → In i (rows_in s) → entering s.top i ≡ Some j → all_fit (map (pivoted i j) s.top ++ map (pivoted i j) s.rest) ≡ true → I (turned_work i j s) x × ((t : Tree) → R (turned_work i j s) x t → R s x t)
  pub nones : (s : Work) (x : X) (i : Row) → I s x → In i (rows_in s) → V s x i.form Negative → entering s.top i ≡ None → R s x none
  pub leaves : (s : Work) (x : X) → I s x → AllSigned (V s x) (rows_in s) → fraction s.top ≡ None → R s x (leaf (leaf_forms s.top))
  pub splits : (s : Work) (x : X) (i : Row) → I s x → In i (rows_in s) → V s x i.form Unknown → Yields (R s x) (w.split s i.form)
  pub plains : (s : Work) (x : X) (r : Row) → I s x → In r (rows_in s) → is_constant (cut_of r) ≡ true → fits (cut_row (cut_of r) None) ≡ true → I (plain_work s r) x × ((t : Tree) → R (plain_work s r) x t → R s x t)
  pub news : (s : Work) (x : X) (r : Row) → I s x → In r (rows_in s) → is_constant (cut_of r) ≡ false → eqb s.made 5 ≡ false → (within (lower (cut_of r) (4 + s.made)) && within (upper (cut_of r) (4 + s.made))) ≡ true → fits (cut_row (cut_of r) (Some (4 + s.made))) ≡ true → (y : X) × I (new_work s r) y × ((t : Tree) → R (new_work s r) y t → R s x (new r.div (cut_of r).form t))

-- ---- the scan
abbrev ScanSays : (List ℤ → Sign → Type 0) → List Row → Scan → Type 0
ScanSays V rs (below i) = In i rs × V i.form Negative
ScanSays V rs (unsure i) = In i rs × V i.form Unknown
ScanSays V rs clear = AllSigned V rs

scan-more : (V : List ℤ → Sign → Type 0) (r : Row) (rs : List Row) → V r.form NonNegative → (f : Scan) → ScanSays V rs f → ScanSays V (r ∷ rs) f
scan-more V r rs h (below i) k = (inr k.0, k.1)
scan-more V r rs h (unsure i) k = (inr k.0, k.1)
scan-more V r rs h clear k = (h, k)

recalled : (V : List ℤ → Sign → Type 0) (r : Row) (rs : List Row) → V r.form Unknown → (f : Scan) → ScanSays V rs f → ScanSays V (r ∷ rs) (recall r f)
recalled V r rs h (below i) k = (inr k.0, k.1)
recalled V r rs h (unsure i) k = (inl refl, h)
recalled V r rs h clear k = (inl refl, h)

y-scanned : (V : List ℤ → Sign → Type 0) (r : Row) (rs : List Row) (rest : Run Scan) → Yields (ScanSays V rs) rest → (g : Sign) → V r.form g → Yields (ScanSays V (r ∷ rs)) (scanned r rest g)
unfolding scanned
y-scanned V r rs rest h NonNegative k = y-weaken _ _ rest (scan-more V r rs k) h
y-scanned V r rs rest h Negative k = y-return _ (below r) (inl refl, k)
y-scanned V r rs rest h Unknown k = y-bind (ScanSays V rs) _ rest _ h (λ f ok. y-return _ (recall r f) (recalled V r rs k f ok))

y-scan : (V : List ℤ → Sign → Type 0) (sign : List ℤ → Run Sign) (rs : List Row) → ((r : Row) → In r rs → Yields (V r.form) (sign r.form)) → Yields (ScanSays V rs) (scan sign rs)
unfolding scan
y-scan V sign [] h = y-return _ clear tt
y-scan V sign (r ∷ rs) h = let ih = y-scan V sign rs (λ x m. h x (inr m)) in y-bind (V r.form) _ (sign r.form) _ (h r (inl refl)) (λ g k. y-scanned V r rs (scan sign rs) ih g k)

-- ---- the moves
y-turn : (place : Place) (i : Row) (j : ℕ) (s : Work) → Yields (λ s'. (s' ≡ turned_work i j s) × (all_fit (map (pivoted i j) s.top ++ map (pivoted i j) s.rest) ≡ true)) (turn place i j s)
unfolding turn
y-turn place i j s = y-then _ _ _ (y-seq _ _ _ _ (y-ranged place _) (λ _ fit. y-return _ _ (refl, fit)))

fraction-in : (r : Row) (xs ys : List Row) → fraction xs ≡ Some r → In r (xs ++ ys)
fraction-in r [] ys h = absurd (subst (λ (o : Option Row). elim o as (λ _. Type 0) [ Some x ↦ ⊥ | None ↦ Unit {0} ]) h tt)
fraction-in r (x ∷ xs) ys h = go (fraction-in r xs ys) (whole x) h
  where
    go : (fraction xs ≡ Some r → In r (xs ++ ys)) → (b : Bool) → cond b (fraction xs) (Some x) ≡ Some r → In r (x ∷ (xs ++ ys))
    go f true h = inr (f h)
    go f false h = inl (ap (λ (o : Option Row). elim o as (λ _. Row) [ Some y ↦ y | None ↦ x ]) h)

module _ (X : Type 0) (w : Way) (I : Work → X → Type 0) (V : Work → X → List ℤ → Sign → Type 0) (R : Work → X → Tree → Type 0) (S : Sound X w I V R)
    (again : Work → Run Tree) (ih : (s : Work) (x : X) → I s x → Yields (R s x) (again s)) where
  turn-sound : (s : Work) (x : X) (i : Row) (j : ℕ) → I s x → In i (rows_in s) → entering s.top i ≡ Some j → Yields (R s x) (turn w.place i j s >>= again)
  turn-sound s x i j e m q = y-bind _ _ (turn w.place i j s) again (y-turn w.place i j s)
      (λ s' k. subst (λ (u : Work). Yields (R s x) (again u)) (sym k.0) (let o = S.turns s x i j e m q k.1 in y-weaken _ _ (again (turned_work i j s)) o.1 (ih (turned_work i j s) x o.0)))

  lift-sound : (s : Work) (x : X) (i : Row) (o : Option ℕ) → I s x → In i (rows_in s) → V s x i.form Negative → entering s.top i ≡ o → Yields (R s x) (lift w.place again s i o)
  unfolding lift
  lift-sound s x i None e m v q = y-then _ _ _ (y-return _ _ (S.nones s x i e m v q))
  lift-sound s x i (Some j) e m v q = turn-sound s x i j e m q

  added-sound : (s : Work) (x : X) (i : Row) (o : Option ℕ) → I s x → In i (rows_in s) → entering s.top i ≡ o → Yields (R s x) (added w.place again s i o)
  unfolding added
  added-sound s x i None e m q = ih s x e
  added-sound s x i (Some j) e m q = turn-sound s x i j e m q

  -- P is what is wanted of the tree in the end
  row-sound : (s : Work) (context : List (List ℤ)) (made : ℕ) (r : Row) (P : Tree → Type 0) → (fits r ≡ true → (x : X) × I (plus_row s context made r) x × ((t : Tree) → R (plus_row s context made r) x t → P t)) → Yields P (with_row w.place again s context made r)
  unfolding with_row
  row-sound s context made r P h =
      y-seq _ _ _ _ (y-ranged w.place _)
      (λ _ fit. let o = h fit in y-weaken _ _ _ o.2 (added-sound (plus_row s context made r) o.0 r (entering s.top r) o.1 (in_right r s.top (s.rest ++ r ∷ []) (in_right r s.rest (r ∷ []) (inl refl))) refl))

  plain-sound : (s : Work) (x : X) (r : Row) → I s x → In r (rows_in s) → is_constant (cut_of r) ≡ true → Yields (R s x) (cut_plain w.place again s (cut_of r))
  unfolding cut_plain
  plain-sound s x r e m c = y-then _ _ _ (row-sound s s.context s.made (cut_row (cut_of r) None) (R s x) (λ fit. let o = S.plains s x r e m c fit in (x, o.0, o.1)))

  new-sound : (s : Work) (x : X) (r : Row) → I s x → In r (rows_in s) → is_constant (cut_of r) ≡ false → eqb s.made 5 ≡ false → Yields (R s x) (cut_new w.place again s (cut_of r))
  unfolding cut_new
  new-sound s x r e m c k =
      y-then _ _ _ (y-then _ _ _ (y-seq _ _ _ _ (y-ranged w.place _)
      (λ _ two. y-bind (λ t. R s x (new r.div (cut_of r).form t)) _ _ _ (row-sound s _ (suc s.made) (cut_row (cut_of r) (Some (4 + s.made))) (λ t. R s x (new r.div (cut_of r).form t)) (λ fit. S.news s x r e m c k two fit)) (λ t h. y-return _ _ h))))

  cut-sound : (s : Work) (x : X) (r : Row) → I s x → In r (rows_in s) → Yields (R s x) (cut w.place again s (cut_of r))
  unfolding cut
  cut-sound s x r e m =
      y-cond _ (eqb s.cuts 24) _ _ (λ _. y-bar _ Cuts w.place) (λ _.
      y-cond _ (is_constant (cut_of r)) _ _ (λ c. plain-sound s x r e m c) (λ c.
      y-cond _ (eqb s.made 5) _ _ (λ _. y-bar _ NewParameters w.place) (λ k. new-sound s x r e m c k)))

  finish-sound : (s : Work) (x : X) (o : Option Row) → I s x → AllSigned (V s x) (rows_in s) → fraction s.top ≡ o → Yields (R s x) (finish w.place again s o)
  unfolding finish
  finish-sound s x None e v q = y-then _ _ _ (y-return _ _ (S.leaves s x e v q))
  finish-sound s x (Some r) e v q = cut-sound s x r e (fraction-in r s.top s.rest q)

  act-sound : (s : Work) (x : X) (f : Scan) → I s x → ScanSays (V s x) (rows_in s) f → Yields (R s x) (act w again s f)
  unfolding act
  act-sound s x (below i) e k = lift-sound s x i (entering s.top i) e k.0 k.1 refl
  act-sound s x (unsure i) e k = S.splits s x i e k.0 k.1
  act-sound s x clear e k = finish-sound s x (fraction s.top) e k refl

pub settle-sound : (X : Type 0) (w : Way) (I : Work → X → Type 0) (V : Work → X → List ℤ → Sign → Type 0) (R : Work → X → Tree → Type 0) → Sound X w I V R → (gas : ℕ) (s : Work) (x : X) → I s x → Yields (R s x) (settle w gas s)
unfolding settle
settle-sound X w I V R S zero s x e = y-refuse _ FuelSpent w.place
settle-sound X w I V R S (suc gas) s x e =
    let ih : (s : Work) (x : X) → I s x → Yields (R s x) (settle w gas s) = λ s x e. settle-sound X w I V R S gas s x e in
    y-bind (ScanSays (V s x) (rows_in s)) _ _ _ (y-scan (V s x) (w.sign s) (rows_in s) (λ r m. S.signs s x r e m)) (λ f k. act-sound X w I V R S (settle w gas) ih s x f e k)
