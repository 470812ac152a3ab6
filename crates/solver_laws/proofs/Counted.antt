-- An accepted solve counts the nodes that its tree is written in.
use Rattle.std.proofs.Common.{◌≡◌, ℕ, ◌+◌, Bool, true, false, cond, ltb, List, [], ◌∷◌, map, length, ℤ, IfOk, Ok, Err, Result, refl, subst, arith}
use Rattle.std.proofs.lemmas.List.{length-append, length-map}
use Rattle.base.specs.declared.refusal.Met.{Met}
use Rattle.base.specs.declared.refusal.Place.{Place}
use Rattle.base.specs.declared.refusal.Place.TheVariants.{Node, Test}
use Rattle.base.specs.declared.refusal.Refusal.{Refusal}
use Rattle.base.specs.declared.refusal.Refusal.TheVariants.{FuelSpent, WorkFull}
use Rattle.source.specs.Systems.{System}
use Rattle.tree.specs.declared.node.Node.TheVariants.{Keep}
use Rattle.tree.specs.Trees.{Tree, leaf, new, nodes, none, split}
use Rattle.solver.specs.declared.count.Count.{Count}
use Rattle.solver.specs.Runs.{Limits, Outcome, Run, bar, fail, next, noted, refuse, return, stepped, stopped_at, tick, write, ◌>>=◌, ◌>>◌}
use Rattle.solver.specs.Rules.{Work, has_point, node, test}
use Rattle.solver.specs.Solves.{begun, context_of, fuel_fits, keeps, run, run_if, solved, start, system_fits}
use Rattle.solver_laws.specs.Laws.{NodesCounted}
use Rattle.solver_laws.proofs.Closed.{Grows, Passes, of_node, of_test}

-- the answer stands for so many nodes, and n of them were written before
abbrev Adds : (A : Type 0) → ℕ → (A → ℕ) → Run A → Type 0
Adds A n size m = (l : Limits) (c : Count) → IfOk (m l c) (λ v. v.1.nodes + n ≡ c.nodes + size v.0)

abbrev AddsNone : (A : Type 0) → Run A → Type 0
AddsNone A m = Adds A 0 (λ _. 0) m

-- the nodes of one write, and those of a tree: a test writes none
abbrev one : Place → ℕ
one Test = 0
one Node = 1

abbrev size : Place → Tree → ℕ
size Test t = 0
size Node t = length (nodes t)

abbrev AddsTree : ℕ → Place → Run Tree → Type 0
AddsTree gas place m = Adds Tree 0 (size place) m

-- ---- the words
module _ (A : Type 0) where
  adds-return : (n : ℕ) (f : A → ℕ) (a : A) → n ≡ f a → Adds A n f (return a)
  unfolding return
  adds-return n f a e = λ l c. omega arith

  adds-refuse : (n : ℕ) (f : A → ℕ) (why : Met → Refusal) (place : Place) → Adds A n f (refuse why place)
  unfolding refuse
  adds-refuse n f why place = λ l c. tt

  adds-fail : (n : ℕ) (f : A → ℕ) (e : Refusal) → Adds A n f (fail e)
  unfolding fail
  adds-fail n f e = λ l c. tt

  adds-bar : (n : ℕ) (f : A → ℕ) (why : Met → Refusal) (place : Place) → Adds A n f (bar why place)
  unfolding bar
  adds-bar n f why place = λ l c. go l c (ltb c.steps l.fuel)
    where
      go : (l : Limits) (c : Count) (b : Bool) → IfOk (cond b (Err (stopped_at why place c)) (Err (stopped_at FuelSpent place c))) (λ (v : A × Count). v.1.nodes + n ≡ c.nodes + f v.0)
      go l c true = tt
      go l c false = tt

adds-tick : (place : Place) → AddsNone (Unit {0}) (tick place)
unfolding tick
adds-tick place = λ l c. go c (ltb c.steps l.fuel)
  where
    go : (c : Count) (b : Bool) → IfOk {T = Unit {0} × Count} (cond b (Ok (tt {0}, stepped c)) (Err (stopped_at FuelSpent place c))) (λ v. v.1.nodes + 0 ≡ c.nodes + 0)
    go c true = refl
    go c false = tt

adds-write : (place : Place) → Adds (Unit {0}) 0 (λ _. one place) (write place)
unfolding write
adds-write Test = λ l c. refl
adds-write Node = λ l c. go c (ltb c.nodes l.room)
  where
    go : (c : Count) (b : Bool) → IfOk {T = Unit {0} × Count} (cond b (Ok (tt {0}, noted c)) (Err (stopped_at WorkFull Node c))) (λ v. v.1.nodes + 0 ≡ c.nodes + 1)
    go c true = omega arith
    go c false = tt

-- ---- one after the other: what the first adds was written before the second
module _ (A B : Type 0) (n : ℕ) (f : A → ℕ) (g : B → ℕ) where
  counted-on : (c d : Count) (a : A) (o : Outcome B) → d.nodes + 0 ≡ c.nodes + f a → IfOk o (λ v. v.1.nodes + (n + f a) ≡ d.nodes + g v.0) → IfOk o (λ v. v.1.nodes + n ≡ c.nodes + g v.0)
  counted-on c d a (Ok v) h k = omega arith
  counted-on c d a (Err e) h k = tt

  adds-next : (c : Count) (o : Outcome A) (k : A → Run B) (l : Limits) → IfOk o (λ v. v.1.nodes + 0 ≡ c.nodes + f v.0) → ((a : A) → Adds B (n + f a) g (k a)) → IfOk (next o k l) (λ v. v.1.nodes + n ≡ c.nodes + g v.0)
  adds-next c (Ok v) k l h q = counted-on c v.1 v.0 (k v.0 l v.1) h (q v.0 l v.1)
  adds-next c (Err e) k l h q = tt

  adds-bind : (m : Run A) (k : A → Run B) → Adds A 0 f m → ((a : A) → Adds B (n + f a) g (k a)) → Adds B n g (m >>= k)
  unfolding ◌>>=◌
  adds-bind m k p q = λ l c. adds-next c (m l c) k l (p l c) q

  adds_then : (m : Run A) (k : Run B) → Adds A 0 f m → ((a : A) → Adds B (n + f a) g k) → Adds B n g (m >> k)
  unfolding ◌>>◌
  adds_then m k p q = λ l c. adds-next c (m l c) (λ _. k) l (p l c) q

-- the same computation, some more nodes having been written before
module _ (A : Type 0) (f g : A → ℕ) (n : ℕ) (more : (a : A) → n + f a ≡ g a) where
  shifted : (c : Count) (o : Outcome A) → IfOk o (λ v. v.1.nodes + 0 ≡ c.nodes + f v.0) → IfOk o (λ v. v.1.nodes + n ≡ c.nodes + g v.0)
  shifted c (Ok v) h = omega (arith, more v.0)
  shifted c (Err e) h = tt

  adds-after : (m : Run A) → Adds A 0 f m → Adds A n g m
  adds-after m p = λ l c. shifted c (m l c) (p l c)

adds-passes : Passes AddsNone
adds-passes =
    record {
      returned = λ A a. adds-return A 0 _ a refl;
      refused = λ A why place _. adds-refuse A 0 _ why place;
      ticked = adds-tick;
      bound = λ A B m k p q. adds-bind A B 0 _ _ m k p q;
      followed = λ A B m k p q. adds_then A B 0 _ _ m k p (λ _. q);
    }

-- ---- the ways to make a tree
adds_none : (n : ℕ) (place : Place) → AddsTree n place (write place >> return none)
adds_none n place = adds_then _ _ 0 _ _ (write place) _ (adds-write place) (λ _. adds-return Tree _ _ none (is place))
  where
    is : (place : Place) → 0 + one place ≡ size place none
    is Test = refl
    is Node = refl

adds-leaf : (n : ℕ) (place : Place) (forms : List (List ℤ)) → AddsTree n place (write place >> return (leaf forms))
adds-leaf n place forms = adds_then _ _ 0 _ _ (write place) _ (adds-write place) (λ _. adds-return Tree _ _ (leaf forms) (is place))
  where
    is : (place : Place) → 0 + one place ≡ size place (leaf forms)
    is Test = refl
    is Node = refl

adds-new : (n : ℕ) (place : Place) (d : ℤ) (C : List ℤ) (m : Run (Unit {0})) (k : Run Tree) → AddsNone (Unit {0}) m → AddsTree n place k → AddsTree n place (write place >> (m >> (k >>= λ t. return (new d C t))))
adds-new n place d C m k p q =
    adds_then _ _ 0 _ _ (write place) _ (adds-write place) (λ _. adds_then _ _ _ _ _ m _ p (λ _. adds-bind _ _ _ _ _ k _ q (λ t. adds-return Tree _ _ (new d C t) (is place t))))
  where
    is : (place : Place) (t : Tree) → 0 + one place + 0 + size place t ≡ size place (new d C t)
    is Test t = refl
    is Node t = omega arith

adds-split : (n : ℕ) (C : List ℤ) (m k : Run Tree) → AddsTree n Node m → AddsTree n Node k → AddsTree n Node (write Node >> (m >>= λ t. k >>= λ u. return (split C t u)))
adds-split n C m k p q =
    adds_then _ _ 0 _ _ (write Node) _ (adds-write Node) (λ _. adds-bind _ _ _ _ _ m _ p (λ t. adds-bind _ _ _ _ _ k _ q (λ u. adds-return Tree _ _ (split C t u) (omega (arith, length-append (nodes t) (nodes u))))))

adds-grows : Grows AddsNone AddsTree
adds-grows =
    record {
      passes = adds-passes;
      gone = λ place. adds-refuse Tree 0 (size place) FuelSpent place;
      fewer = λ n place m p. p;
      enough = λ n place m p. p;
      barred = λ n place why _. adds-bar Tree 0 (size place) why place;
      bound = λ A n place m k p q. adds-bind A Tree 0 _ _ m k p q;
      followed = λ A n place m k p q. adds_then A Tree 0 _ _ m k p (λ _. q);
      step_bound = λ A n place m k p q. adds-bind A Tree 0 _ _ (tick place >> m) k (adds_then _ _ 0 _ _ (tick place) m (adds-tick place) (λ _. p)) q;
      step_followed = λ n place k q. adds_then _ Tree 0 _ _ (tick place) k (adds-tick place) (λ _. q);
      no_point = adds_none;
      point = adds-leaf;
      new_below = adds-new;
      split_below = adds-split;
      looked = λ m p. adds-bind Tree Bool 0 (size Test) _ m _ p (λ t. adds-return Bool _ (λ _. 0) (has_point t) refl);
    }

-- ---- solves
adds-keeps : (Cs : List (List ℤ)) → Adds (Unit {0}) 0 (λ _. length Cs) (keeps Cs)
unfolding keeps
adds-keeps [] = adds-return _ 0 _ tt refl
adds-keeps (C ∷ Cs) = adds_then _ _ 0 _ _ (write Node) _ (adds-write Node) (λ _. adds-after _ (λ _. length Cs) _ _ (λ _. omega arith) (keeps Cs) (adds-keeps Cs))

-- the head, the keeps, the tree
abbrev whole : Work → Tree → ℕ
whole s t = 1 + length s.context + length (nodes t)

adds-begun : (s : Work) (b : Bool) → Adds Tree 0 (whole s) (begun s b)
unfolding begun
adds-begun s true =
    adds_then _ _ 0 _ _ (write Node) _ (adds-write Node) (λ _. adds_then _ _ _ _ _ (keeps s.context) _ (adds-keeps s.context)
    (λ _. adds-after Tree (size Node) _ _ (λ t. omega arith) (node 12 s) (of_node AddsNone AddsTree adds-grows 12 s)))
adds-begun s false = adds-fail Tree 0 _ _

adds_run : (s : Work) → Adds Tree 0 (whole s) (run s)
unfolding run
adds_run s = adds-bind _ _ 0 _ _ (test _ _ _) (begun s) (of_test AddsNone AddsTree adds-grows _ _ _) (adds-begun s)

counted-solved : (S : System) (fuel : ℤ) (room : ℕ) → IfOk (solved S fuel room) (λ v. v.1.nodes + 0 ≡ 0 + whole (start S) v.0)
unfolding solved
counted-solved S fuel room = go (system_fits S) (fuel_fits fuel) _ (adds_run (start S) _ _)
  where
    go : (a b : Result (Unit {0}) Refusal) (o : Outcome Tree) → IfOk o (λ v. v.1.nodes + 0 ≡ 0 + whole (start S) v.0) → IfOk (run_if a (run_if b o)) (λ v. v.1.nodes + 0 ≡ 0 + whole (start S) v.0)
    go (Ok _) (Ok _) o h = h
    go (Ok _) (Err e) o h = tt
    go (Err e) b o h = tt

pub nodes-counted : NodesCounted
nodes-counted S fuel room t c e =
    let k : c.nodes + 0 ≡ 0 + whole (start S) t = subst (λ o. IfOk o (λ v. v.1.nodes + 0 ≡ 0 + whole (start S) v.0)) e (counted-solved S fuel room) in
    omega (arith, length-append (map Keep (context_of S)) (nodes t), length-map (context_of S) Keep)
