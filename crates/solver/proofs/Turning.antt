-- The moves on a table, as the rules have them.
use Rattle.std.proofs.Common.{◌≡◌, ℕ, suc, ◌+◌, ◌<◌, ◌≤◌, Bool, true, false, cond, ltb, List, [], ◌∷◌, ◌++◌, map, length, get_or, drop, ℤ, Some, None, Ok, Err, Option, Result, sym, refl, ap, ◌∙◌, arith}
use Rattle.std.proofs.lemmas.List.{at_drop_more, get_or-take, length-take, map-append}
use Rattle.base.specs.declared.refusal.Place.{Place}
use Rattle.base.specs.declared.refusal.Refusal.TheVariants.{FuelSpent, Range}
use Rattle.tableau.specs.declared.table.Row.{Row}
use Rattle.tableau.specs.declared.table.Table.{Table}
use Rattle.tableau.specs.Rows.{fits, pivoted}
use Rattle.tableau.specs.Columns.{entering, pivot_place, with_row as place_at}
use Rattle.tableau.proofs.Parts.{both_used, rest-mapped, top-mapped}
use Rattle.tableau.specs.Tables.{all_fit, in_use, no_row, rest, top}
use Rattle.tree.specs.Trees.{Tree}
use Rattle.solver.specs.declared.count.Count.{Count}
use Rattle.solver.specs.declared.count.Stopped.{Stopped}
use Rattle.solver.specs.Runs.{Limits, Outcome, Run, return, next, ◌>>=◌, ◌>>◌, refuse, tick, stepped, stopped_at}
use Rattle.solver.specs.Rules.{Work, added, ranged, turn, with_row}
use Rattle.solver.specs.Ties.{after_cut, limits, ticked, with_table}

-- a search through the rows in use: row h comes next
pub used-more : {Y : Type 0} (F : List Row → Y) (t : Table) (h : ℕ) → h < length (in_use t) → F (drop h (in_use t)) ≡ F (get_or t.rows h no_row ∷ drop (h + 1) (in_use t))
used-more F t h lt =
    at_drop_more F (in_use t) h no_row lt ∙ ap (λ r. F (r ∷ drop (h + 1) (in_use t))) (get_or-take t.count t.rows h no_row (omega (arith, length-take t.count t.rows)))

-- ---- a pivot
-- the work with its rows pivoted
abbrev pub turned_work : Row → ℕ → Work → Work
turned_work i j s = record { top = map (pivoted i j) s.top; rest = map (pivoted i j) s.rest; context = s.context; parameters = s.parameters; made = s.made; cuts = s.cuts }

-- what is left to do once the step is counted
abbrev pub after_tick : Place → Row → ℕ → Work → Result Count Stopped → Outcome Work
after_tick place i j s (Err e) = Err e
after_tick place i j s (Ok c) = cond (all_fit (map (pivoted i j) s.top ++ map (pivoted i j) s.rest)) (Ok (turned_work i j s, c)) (Err (stopped_at Range place c))

pub turn_is : (place : Place) (i : Row) (j : ℕ) (s : Work) (fuel room : ℕ) (c : Count) → turn place i j s (limits fuel room) c ≡ after_tick place i j s (ticked place fuel c)
unfolding turn ◌>>◌ tick ranged return refuse
turn_is place i j s fuel room c = go (ltb c.steps fuel) (all_fit (map (pivoted i j) s.top ++ map (pivoted i j) s.rest))
  where
    go : (b a : Bool) → next {A = Unit {0}} (cond b (Ok (tt {0}, stepped c)) (Err (stopped_at FuelSpent place c))) (λ _. cond a (return (tt {0})) (refuse Range place) >> return (turned_work i j s)) (limits fuel room) ≡ elim (cond b (Ok (stepped c)) (Err (stopped_at FuelSpent place c))) [ Ok c ↦ cond a (Ok (turned_work i j s, c)) (Err (stopped_at Range place c)) | Err e ↦ Err e ]
    go true true = refl
    go true false = refl
    go false a = refl

module _ (place : Place) (i : Row) (j : ℕ) (t : Table) (s : Work) (fuel room : ℕ) (c : Count) where
  pub turn-left : (e : Stopped) → ticked place fuel c ≡ Err e → turn place i j (with_table t s) (limits fuel room) c ≡ Err e
  turn-left e h = turn_is place i j (with_table t s) fuel room c ∙ ap (after_tick place i j (with_table t s)) h

  module _ (u : Table) (h : t.unknowns ≤ t.count) (counts : (u.count ≡ t.count) × (u.unknowns ≡ t.unknowns)) (rows : in_use u ≡ map (pivoted i j) (in_use t)) (d : Count) (k : ticked place fuel c ≡ Ok d) where
    all-rows : map (pivoted i j) (top t) ++ map (pivoted i j) (rest t) ≡ in_use u
    all-rows = sym (map-append (pivoted i j) (top t) (rest t)) ∙ ap (map (pivoted i j)) (both_used t h) ∙ sym rows

    step : (b : Bool) → all_fit (in_use u) ≡ b → turn place i j (with_table t s) (limits fuel room) c ≡ cond b (Ok (turned_work i j (with_table t s), d)) (Err (stopped_at Range place d))
    step b e =
        turn_is place i j (with_table t s) fuel room c ∙ ap (after_tick place i j (with_table t s)) k
        ∙ ap (λ a. cond a (Ok (turned_work i j (with_table t s), d)) (Err (stopped_at Range place d))) (ap all_fit all-rows ∙ e)

    pub turn-broken : all_fit (in_use u) ≡ false → turn place i j (with_table t s) (limits fuel room) c ≡ Err (stopped_at Range place d)
    turn-broken e = step false e

    turned-table : turned_work i j (with_table t s) ≡ with_table u s
    turned-table =
        λ m. record {
          top = sym (top-mapped (pivoted i j) t u h counts.0 counts.1 rows) m;
          rest = sym (rest-mapped (pivoted i j) t u h counts.0 counts.1 rows) m;
          context = s.context;
          parameters = s.parameters;
          made = s.made;
          cuts = s.cuts;
        }

    pub turn-made : all_fit (in_use u) ≡ true → turn place i j (with_table t s) (limits fuel room) c ≡ Ok (with_table u s, d)
    turn-made e = step true e ∙ ap (λ w. Ok (w, d)) turned-table

-- ---- a row added
abbrev pub plus_row : Work → List (List ℤ) → ℕ → Row → Work
plus_row s context made r = record { top = s.top; rest = s.rest ++ r ∷ []; context = context; parameters = s.parameters; made = made; cuts = suc s.cuts }

with-row-is : (place : Place) (again : Work → Run Tree) (s : Work) (context : List (List ℤ)) (n : ℕ) (r : Row) (l : Limits) (c : Count) → with_row place again s context n r l c ≡ cond (fits r) (added place again (plus_row s context n r) r (entering s.top r) l c) (Err (stopped_at Range place c))
unfolding with_row ◌>>◌ ranged return refuse
with-row-is place again s context n r l c = go (fits r)
  where
    go : (b : Bool) → next {A = Unit {0}} (cond b (return (tt {0})) (refuse Range place) l c) (λ _. added place again (plus_row s context n r) r (entering s.top r)) l ≡ cond b (added place again (plus_row s context n r) r (entering s.top r) l c) (Err (stopped_at Range place c))
    go true = refl
    go false = refl

module _ (place : Place) (again : Work → Run Tree) (t : Table) (s : Work) (context : List (List ℤ)) (n : ℕ) (r : Row) (fuel room : ℕ) (c : Count) where
  pub row-broken : fits r ≡ false → with_row place again (with_table t s) context n r (limits fuel room) c ≡ Err (stopped_at Range place c)
  row-broken e = with-row-is place again (with_table t s) context n r (limits fuel room) c ∙ ap (λ b. cond b (added place again (plus_row (with_table t s) context n r) r (entering (top t) r) (limits fuel room) c) (Err (stopped_at Range place c))) e

  module _ (u : Table) (tops : top u ≡ top t) (rests : rest u ≡ rest t ++ r ∷ []) (h : fits r ≡ true) where
    grown : plus_row (with_table t s) context n r ≡ with_table u (after_cut s context n)
    grown = λ m. record { top = sym tops m; rest = sym rests m; context = context; parameters = s.parameters; made = n; cuts = suc s.cuts }

    added_is : (o : Option ℕ) → entering (top u) r ≡ o → with_row place again (with_table t s) context n r (limits fuel room) c ≡ added place again (with_table u (after_cut s context n)) r o (limits fuel room) c
    added_is o e =
        with-row-is place again (with_table t s) context n r (limits fuel room) c
        ∙ ap (λ b. cond b (added place again (plus_row (with_table t s) context n r) r (entering (top t) r) (limits fuel room) c) (Err (stopped_at Range place c))) h
        ∙ ap (λ w. added place again w r (entering (top t) r) (limits fuel room) c) grown
        ∙ ap (λ x. added place again (with_table u (after_cut s context n)) r x (limits fuel room) c) (ap (λ x. entering x r) (sym tops) ∙ e)

    pub row-alone : entering (top u) r ≡ None → with_row place again (with_table t s) context n r (limits fuel room) c ≡ again (with_table u (after_cut s context n)) (limits fuel room) c
    unfolding added
    row-alone e = added_is None e

    pub row-turned : (j : ℕ) → entering (top u) r ≡ Some j → (o : Outcome Work) → turn place r j (with_table u (after_cut s context n)) (limits fuel room) c ≡ o → with_row place again (with_table t s) context n r (limits fuel room) c ≡ next o again (limits fuel room)
    unfolding added ◌>>=◌
    row-turned j e o k = added_is (Some j) e ∙ ap (λ x. next x again (limits fuel room)) k

-- the pivot place of row i is in row i, in its entering column
pub place-some : (t : Table) (i : ℕ) (spot : ℕ × ℕ) → Some spot ≡ pivot_place t i → (spot.0 ≡ i) × (entering (top t) (get_or t.rows i no_row) ≡ Some spot.1)
place-some t i spot e = go (entering (top t) (get_or t.rows i no_row)) e
  where
    go : (o : Option ℕ) → Some spot ≡ place_at i o → (spot.0 ≡ i) × (o ≡ Some spot.1)
    go (Some j) e = let k : spot ≡ (i, j) = cc in (ap (λ p. p.0) k, ap (λ p. Some p.1) (sym k))
    go None e = absurd (let z : ◌≡◌ {A = ℕ} 0 1 = cc in let no : ⊥ = omega arith in no)

pub place_none : (t : Table) (i : ℕ) → None ≡ pivot_place t i → entering (top t) (get_or t.rows i no_row) ≡ None
place_none t i e = go (entering (top t) (get_or t.rows i no_row)) e
  where
    go : (o : Option ℕ) → None ≡ place_at i o → o ≡ None
    go (Some j) e = absurd (let z : ◌≡◌ {A = ℕ} 0 1 = cc in let no : ⊥ = omega arith in no)
    go None e = refl
