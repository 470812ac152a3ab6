-- Fuel that is spent is spent to the last step; so the gas of the rules is never used up.
use Rattle.std.proofs.Common.{◌≡◌, ℕ, suc, ◌+◌, ◌<◌, ◌≤◌, Bool, true, false, cond, ltb, List, [], ◌∷◌, map, length, ℤ, pos, nat_abs, Some, None, Ok, Err, Option, Result, sym, refl, ap, ◌∙◌, subst, arith}
use Rattle.std.proofs.lemmas.Bool.{ltb-false, ltb-true}
use Rattle.base.specs.declared.refusal.Met.{Met}
use Rattle.base.specs.declared.refusal.Place.{Place}
use Rattle.base.specs.declared.refusal.Place.TheVariants.{Node, Test}
use Rattle.base.specs.declared.refusal.Refusal.{Refusal}
use Rattle.base.specs.declared.refusal.Refusal.TheVariants.{Counts, Fuel, FuelSpent, NoParameterPoint, Number, WorkFull}
use Rattle.source.specs.Limits.{counts_answer, counts_fit, first_outside, numbers_answer, refused_at}
use Rattle.source.specs.Systems.{System}
use Rattle.tree.specs.Trees.{Tree}
use Rattle.solver.specs.declared.count.Count.{Count}
use Rattle.solver.specs.declared.count.Stopped.{Stopped}
use Rattle.solver.specs.Runs.{Limits, Outcome, Run, bar, fail, met_at, next, noted, refuse, return, stepped, stopped, stopped_at, tick, write, ◌>>=◌, ◌>>◌}
use Rattle.solver.specs.Rules.{plenty}
use Rattle.solver.specs.Solves.{fitted, fuel_fits, nothing, numbers_fit, rows_of, run, run_if, solved, start, system_fits}
use Rattle.base.specs.Refusals.{and_then}
use Rattle.solver_laws.specs.Fuel.{SpentWhole}
use Rattle.solver_laws.proofs.FuelRange.{fits-ok}
use Rattle.solver.specs.Ties.{limits}
use Rattle.solver_laws.proofs.Closed.{Grows, Other, Passes, Roots, no-path, of-run}

-- an outcome from s steps on: steps only grow, and fuel is spent only where every step is made
abbrev Exactly : (A : Type 0) → Limits → ℕ → Outcome A → Type 0
Exactly A l s (Ok v) = (s ≤ v.1.steps) × (v.1.steps ≤ l.fuel)
Exactly A l s (Err e) = (m : Met) → e.why ≡ FuelSpent m → m.steps ≡ l.fuel

-- so it is where the fuel that is left is less than the gas
abbrev Exact : (A : Type 0) → ℕ → Run A → Type 0
Exact A n m = (l : Limits) (c : Count) → c.steps ≤ l.fuel → l.fuel < plenty → l.fuel < n + c.steps → Exactly A l c.steps (m l c)

abbrev Always : (A : Type 0) → Run A → Type 0
Always A m = Exact A plenty m

abbrev ExactTree : ℕ → Place → Run Tree → Type 0
ExactTree n place m = Exact Tree n m

always : (A : Type 0) (n : ℕ) (m : Run A) → Always A m → Exact A n m
always A n m p = λ l c h u g. p l c h u (omega arith)

-- ---- the words
exact-return : (A : Type 0) (n : ℕ) (a : A) → Exact A n (return a)
unfolding return
exact-return A n a = λ l c h u g. (omega arith, h)

exact-refuse : (A : Type 0) (n : ℕ) (why : Met → Refusal) (place : Place) → Other why → Exact A n (refuse why place)
unfolding refuse
exact-refuse A n why place other = λ l c h u g m e. absurd ((other (met_at place c)).0 m e)

no-gas : (A : Type 0) (place : Place) → Exact A 0 (refuse FuelSpent place)
unfolding refuse
no-gas A place = λ l c h u g. absurd (let none : ⊥ = omega arith in none)

-- where no step is left, all are made
all_made : (l : Limits) (c : Count) (place : Place) → c.steps ≤ l.fuel → l.fuel ≤ c.steps → (m : Met) → FuelSpent (met_at place c) ≡ FuelSpent m → m.steps ≡ l.fuel
all_made l c place h k m e = let q : met_at place c ≡ m = cc in let s : c.steps ≡ m.steps = ap (λ x. x.steps) q in omega arith

module _ (A : Type 0) (l : Limits) (c : Count) (place : Place) (s : ℕ) (h : c.steps ≤ l.fuel) (o : Outcome A) (made : c.steps < l.fuel → Exactly A l s o) where
  where-left : (b : Bool) → ltb c.steps l.fuel ≡ b → Exactly A l s (cond b o (Err (stopped_at FuelSpent place c)))
  where-left true e = made (ltb-true c.steps l.fuel e)
  where-left false e = all_made l c place h (ltb-false c.steps l.fuel e)

exact-tick : (n : ℕ) (place : Place) → Exact (Unit {0}) n (tick place)
unfolding tick
exact-tick n place = λ l c h u g. where-left (Unit {0}) l c place c.steps h (Ok (tt, stepped c)) (λ k. (omega arith, k)) (ltb c.steps l.fuel) refl

exact-bar : (A : Type 0) (n : ℕ) (why : Met → Refusal) (place : Place) → Other why → Exact A n (bar why place)
unfolding bar
exact-bar A n why place other = λ l c h u g. where-left A l c place c.steps h (Err (stopped_at why place c)) (λ k m e. absurd ((other (met_at place c)).0 m e)) (ltb c.steps l.fuel) refl

exact-write : (n : ℕ) (place : Place) → Exact (Unit {0}) n (write place)
unfolding write
exact-write n Test = λ l c h u g. (omega arith, h)
exact-write n Node = λ l c h u g. go l c h (ltb c.nodes l.room)
  where
    go : (l : Limits) (c : Count) → c.steps ≤ l.fuel → (b : Bool) → Exactly (Unit {0}) l c.steps (cond b (Ok (tt, noted c)) (Err (stopped_at WorkFull Node c)))
    go l c h true = (omega arith, h)
    go l c h false = λ m e. absurd (no-path cc)

exact-fail : (A : Type 0) (n : ℕ) → Exact A n (fail NoParameterPoint)
unfolding fail
exact-fail A n = λ l c h u g m e. absurd (no-path cc)

-- ---- one after the other
earlier : (A : Type 0) (l : Limits) (s s' : ℕ) (o : Outcome A) → s ≤ s' → Exactly A l s' o → Exactly A l s o
earlier A l s s' (Ok v) h k = (omega (arith, k.0), k.1)
earlier A l s s' (Err e) h k = k

exact-next : (A B : Type 0) (l : Limits) (s : ℕ) (o : Outcome A) (k : A → Run B) → Exactly A l s o → ((a : A) (d : Count) → s ≤ d.steps → d.steps ≤ l.fuel → Exactly B l d.steps (k a l d)) → Exactly B l s (next o k l)
exact-next A B l s (Ok v) k h q = earlier B l s v.1.steps (k v.0 l v.1) h.0 (q v.0 v.1 h.0 h.1)
exact-next A B l s (Err e) k h q = h

module _ (A B : Type 0) (n : ℕ) where
  exact-bind : (m : Run A) (k : A → Run B) → Exact A n m → ((a : A) → Exact B n (k a)) → Exact B n (m >>= k)
  unfolding ◌>>=◌
  exact-bind m k p q = λ l c h u g. exact-next A B l c.steps (m l c) k (p l c h u g) (λ a d i j. q a l d j u (omega arith))

  exact-then : (m : Run A) (k : Run B) → Exact A n m → Exact B n k → Exact B n (m >> k)
  unfolding ◌>>◌
  exact-then m k p q = λ l c h u g. exact-next A B l c.steps (m l c) (λ _. k) (p l c h u g) (λ a d i j. q l d j u (omega arith))

-- after a step one gas less will do
step_then : (A : Type 0) (n : ℕ) (place : Place) (k : Run A) → Exact A n k → (l : Limits) (c : Count) → c.steps ≤ l.fuel → l.fuel < plenty → l.fuel < suc n + c.steps → Exactly A l (suc c.steps) ((tick place >> k) l c)
unfolding tick ◌>>◌
step_then A n place k q = λ l c h u g. go l c h u g (ltb c.steps l.fuel) refl
  where
    go : (l : Limits) (c : Count) → c.steps ≤ l.fuel → l.fuel < plenty → l.fuel < suc n + c.steps → (b : Bool) → ltb c.steps l.fuel ≡ b → Exactly A l (suc c.steps) (next {A = Unit {0}} (cond b (Ok (tt, stepped c)) (Err (stopped_at FuelSpent place c))) (λ _. k) l)
    go l c h u g true e = q l (stepped c) (ltb-true c.steps l.fuel e) u (omega arith)
    go l c h u g false e = all_made l c place h (ltb-false c.steps l.fuel e)

exact-step : (n : ℕ) (place : Place) (k : Run Tree) → Exact Tree n k → Exact Tree (suc n) (tick place >> k)
exact-step n place k q = λ l c h u g. earlier Tree l c.steps (suc c.steps) _ (omega arith) (step_then Tree n place k q l c h u g)

exact-turn : (A : Type 0) (n : ℕ) (place : Place) (m : Run A) (k : A → Run Tree) → Always A m → ((a : A) → Exact Tree n (k a)) → Exact Tree (suc n) ((tick place >> m) >>= k)
unfolding ◌>>=◌
exact-turn A n place m k p q = λ l c h u g.
    earlier Tree l c.steps (suc c.steps) _ (omega arith)
    (exact-next A Tree l (suc c.steps) ((tick place >> m) l c) k (step_then A n place m (always A n m p) l c h u g) (λ a d i j. q a l d j u (omega arith)))

exact-passes : Passes Always
exact-passes =
    record {
      returned = λ A a. exact-return A plenty a;
      refused = λ A why place other. exact-refuse A plenty why place other;
      ticked = exact-tick plenty;
      bound = λ A B m k p q. exact-bind A B plenty m k p q;
      followed = λ A B m k p q. exact-then A B plenty m k p q;
    }

exact-grows : Grows Always ExactTree
exact-grows =
    record {
      passes = exact-passes;
      gone = no-gas Tree;
      fewer = λ n place m p l c h u g. p l c h u (omega arith);
      enough = λ n place m p. always Tree n m p;
      barred = λ n place why other. exact-bar Tree n why place other;
      bound = λ A n place m k p q. exact-bind A Tree n m k (always A n m p) q;
      followed = λ A n place m k p q. exact-then A Tree n m k (always A n m p) q;
      step_bound = exact-turn;
      step_followed = exact-step;
      no_point = λ n place. exact-then _ _ n (write place) _ (exact-write n place) (exact-return _ n _);
      point = λ n place forms. exact-then _ _ n (write place) _ (exact-write n place) (exact-return _ n _);
      new_below = λ n place d C m k p q. exact-then _ _ n (write place) _ (exact-write n place) (exact-then _ _ n m _ (always _ n m p) (exact-bind _ _ n k _ q (λ t. exact-return _ n _)));
      split_below = λ n C m k p q. exact-then _ _ n (write Node) _ (exact-write n Node) (exact-bind _ _ n m _ p (λ t. exact-bind _ _ n k _ q (λ u. exact-return _ n _)));
      looked = λ m p. exact-bind _ _ plenty m _ p (λ t. exact-return _ plenty _);
    }

exact-roots : Roots Always ExactTree
exact-roots = record { grows = exact-grows; rooted = λ m p. p; wrote = exact-write plenty Node; no_parameters = exact-fail Tree plenty }

-- ---- the refusals before a run are others
abbrev pub Early : Refusal → Type 0
Early Counts = Unit {0}
Early (Number row column) = Unit {0}
Early Fuel = Unit {0}
Early _ = ⊥

pub early-spent : (e : Refusal) (m : Met) → Early e → ¬ (e ≡ FuelSpent m)
early-spent e m h q = subst Early q h

pub early-thirteen : (e : Refusal) → Early e → ¬ (e ≡ NoParameterPoint)
early-thirteen e h q = subst Early q h

abbrev pub Others : Result (Unit {0}) Refusal → Type 0
Others (Ok _) = Unit {0}
Others (Err e) = Early e

both_others : (a b : Result (Unit {0}) Refusal) → Others a → Others b → Others (and_then a b)
both_others (Ok _) b p q = q
both_others (Err e) b p q = p

others-counts : (b : Bool) → Others (cond b (Ok tt) (Err Counts))
others-counts true = tt
others-counts false = tt

pub others-fuel : (b : Bool) → Others (cond b (Ok tt) (Err Fuel))
others-fuel true = tt
others-fuel false = tt

others-row : (i : ℕ) (j : Option ℕ) → Others (refused_at i j)
others-row i None = tt
others-row i (Some j) = tt

others-numbers : (i : ℕ) (rows : List (List ℤ)) → Others (numbers_fit i rows)
others-numbers i [] = tt
others-numbers i (row ∷ rows) = both_others (numbers_answer i row) (numbers_fit (i + 1) rows) (others-row i (first_outside 0 row)) (others-numbers (i + 1) rows)

pub others-system : (S : System) → Others (system_fits S)
others-system S =
    both_others (counts_answer S.n S.p (length S.rows) (length S.context)) _ (others-counts (counts_fit S.n S.p (length S.rows) (length S.context)))
    (both_others (numbers_fit 0 (rows_of S)) _ (others-numbers 0 (rows_of S)) (others-numbers (length S.rows) (map (fitted (S.p + 1)) S.context)))

-- ---- solves
-- why an outcome was refused
pub why-is : {A : Type 0} (s t : Stopped) → ◌≡◌ {A = Outcome A} (Err s) (Err t) → s.why ≡ t.why
why-is s t e = let q : s ≡ t = cc in ap (λ x. x.why) q

module _ (fuel : ℤ) (m : Met) (c : Count) where
  whole-after : (a b : Result (Unit {0}) Refusal) (o : Outcome Tree) → Others a → Others b → (b ≡ Ok tt → o ≡ Err (stopped (FuelSpent m) c) → fuel ≡ pos m.steps) → run_if a (run_if b o) ≡ Err (stopped (FuelSpent m) c) → fuel ≡ pos m.steps
  whole-after (Ok _) (Ok _) o p q h e = h refl e
  whole-after (Ok _) (Err r) o p q h e = absurd (early-spent r m q (why-is (stopped r nothing) (stopped (FuelSpent m) c) e))
  whole-after (Err r) b o p q h e = absurd (early-spent r m p (why-is (stopped r nothing) (stopped (FuelSpent m) c) e))

pub spent-whole : SpentWhole
unfolding solved
spent-whole S room fuel m c e = whole-after fuel m c (system_fits S) (fuel_fits fuel) _ (others-system S) (others-fuel _) after e
  where
    after : fuel_fits fuel ≡ Ok tt → run (start S) (limits (nat_abs fuel) room) nothing ≡ Err (stopped (FuelSpent m) c) → fuel ≡ pos m.steps
    after fits r =
        let k = fits-ok fuel fits in
        let size : nat_abs fuel ≡ k.0 = ap nat_abs k.1 in
        let most : k.0 ≤ 100_000 = k.2 in
        let law = of-run Always ExactTree exact-roots (start S) (limits (nat_abs fuel) room) nothing (omega arith) (omega arith) (omega arith) in
        let all : m.steps ≡ nat_abs fuel = subst (Exactly Tree (limits (nat_abs fuel) room) 0) r law m refl in
        k.1 ∙ ap pos (sym size ∙ sym all)
