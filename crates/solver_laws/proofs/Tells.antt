-- A refusal of a test or of node work tells the steps made, and is none of those that tell none.
use Rattle.std.proofs.Common.{◌≡◌, ℕ, Bool, true, false, cond, ltb, List, ℤ, Some, None, Ok, Err, Option, sym, refl, ap, ◌∙◌, subst}
use Rattle.base.specs.declared.refusal.Met.{Met}
use Rattle.base.specs.declared.refusal.Place.{Place}
use Rattle.base.specs.declared.refusal.Place.TheVariants.{Node, Test}
use Rattle.base.specs.declared.refusal.Refusal.{Refusal}
use Rattle.base.specs.declared.refusal.Refusal.TheVariants.{FuelSpent, NoParameterPoint, WorkFull}
use Rattle.tree.specs.Trees.{Tree}
use Rattle.solver.specs.declared.count.Count.{Count}
use Rattle.solver.specs.declared.count.Stopped.{Stopped}
use Rattle.solver.specs.Runs.{Limits, Outcome, Run, bar, met_at, next, noted, refuse, return, stepped, stopped_at, tick, write, ◌>>=◌, ◌>>◌}
use Rattle.solver.specs.Rules.{Work, test}
use Rattle.solver.specs.Solves.{begun}
use Rattle.solver_laws.proofs.Closed.{OnTheWay, Words, met_of, words-begun, words-test}

abbrev pub TellsSteps : Stopped → Type 0
TellsSteps s = (place : Place) × (met_of s.why ≡ Some (met_at place s.count))

abbrev pub Tells : {A : Type 0} → Outcome A → Type 0
Tells (Ok v) = Unit {0}
Tells (Err s) = TellsSteps s

abbrev pub Telling : (A : Type 0) → Run A → Type 0
Telling A m = (l : Limits) (c : Count) → Tells (m l c)

-- ---- the words
telling-return : (A : Type 0) (a : A) → Telling A (return a)
unfolding return
telling-return A a = λ l c. tt

telling-refuse : (A : Type 0) (why : Met → Refusal) (place : Place) → OnTheWay why → Telling A (refuse why place)
unfolding refuse
telling-refuse A why place way = λ l c. (place, way (met_at place c))

either : {A : Type 0} (b : Bool) (x y : Outcome A) → Tells x → Tells y → Tells (cond b x y)
either true x y p q = p
either false x y p q = q

telling-tick : (place : Place) → Telling (Unit {0}) (tick place)
unfolding tick
telling-tick place = λ l c. either (ltb c.steps l.fuel) (Ok (tt, stepped c)) (Err (stopped_at FuelSpent place c)) tt (place, refl)

telling-bar : (A : Type 0) (why : Met → Refusal) (place : Place) → OnTheWay why → Telling A (bar why place)
unfolding bar
telling-bar A why place way = λ l c. either (ltb c.steps l.fuel) (Err (stopped_at why place c)) (Err (stopped_at FuelSpent place c)) (place, way (met_at place c)) (place, refl)

telling-write : (place : Place) → Telling (Unit {0}) (write place)
unfolding write
telling-write Test = λ l c. tt
telling-write Node = λ l c. either (ltb c.nodes l.room) (Ok (tt, noted c)) (Err (stopped_at WorkFull Node c)) tt (Node, refl)

telling-next : (A B : Type 0) (o : Outcome A) (k : A → Run B) (l : Limits) → Tells o → ((a : A) → Telling B (k a)) → Tells (next o k l)
telling-next A B (Ok v) k l p q = q v.0 l v.1
telling-next A B (Err s) k l p q = p

telling-bind : (A B : Type 0) (m : Run A) (k : A → Run B) → Telling A m → ((a : A) → Telling B (k a)) → Telling B (m >>= k)
unfolding ◌>>=◌
telling-bind A B m k p q = λ l c. telling-next A B (m l c) k l (p l c) q

telling-then : (A B : Type 0) (m : Run A) (k : Run B) → Telling A m → Telling B k → Telling B (m >> k)
unfolding ◌>>◌
telling-then A B m k p q = λ l c. telling-next A B (m l c) (λ _. k) l (p l c) (λ _. q)

-- ---- the rules
telling-words : Words Telling
telling-words = record { returned = telling-return; refused = telling-refuse; ticked = telling-tick; barred = telling-bar; wrote = telling-write; bound = telling-bind; followed = telling-then }

pub test-tells : (p n : ℕ) (forms : List (List ℤ)) → Telling Bool (test p n forms)
test-tells = words-test Telling telling-words

pub begun-tells : (s : Work) → Telling Tree (begun s true)
begun-tells = words-begun Telling telling-words

-- so none of these says that the context has no parameter point
pub none-some : (m : Met) → ¬ (◌≡◌ {A = Option Met} None (Some m))
none-some m e = subst (λ (o : Option Met). elim o as (λ _. Type 0) [ None ↦ Unit {0} | Some x ↦ ⊥ ]) e tt

pub not-thirteen : (s : Stopped) → TellsSteps s → ¬ (s.why ≡ NoParameterPoint)
not-thirteen s t e = none-some (met_at t.0 s.count) (sym (ap met_of e) ∙ t.1)
