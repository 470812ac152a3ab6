-- Steps stay within the fuel, and nodes within the work table: each word of the rules keeps a count within its limits.
use Rattle.std.proofs.Common.{◌≡◌, ℕ, ◌≤◌, Bool, true, false, cond, ltb, ℤ, nat_abs, Ok, Err, Result, refl, arith}
use Rattle.std.proofs.lemmas.Bool.{ltb-true}
use Rattle.base.specs.declared.refusal.Met.{Met}
use Rattle.base.specs.declared.refusal.Place.{Place}
use Rattle.base.specs.declared.refusal.Place.TheVariants.{Node, Test}
use Rattle.base.specs.declared.refusal.Refusal.{Refusal}
use Rattle.base.specs.declared.refusal.Refusal.TheVariants.{FuelSpent, NoParameterPoint, WorkFull}
use Rattle.tree.specs.Trees.{Tree}
use Rattle.source.specs.Systems.{System}
use Rattle.solver.specs.declared.count.Count.{Count}
use Rattle.solver.specs.Runs.{Limits, Outcome, Run, bar, fail, end_count, next, noted, refuse, return, stepped, stopped_at, tick, write, ◌>>=◌, ◌>>◌}
use Rattle.solver.specs.Solves.{fuel_fits, nothing, run_if, solved, start, system_fits}
use Rattle.solver.specs.Ties.{limits}
use Rattle.solver_laws.specs.Laws.{WithinFuel, WithinRoom}
use Rattle.solver_laws.proofs.Closed.{Words, of_words}

abbrev Inside : Limits → Count → Type 0
Inside l c = (c.steps ≤ l.fuel) × (c.nodes ≤ l.room)

abbrev Kept : (A : Type 0) → Run A → Type 0
Kept A m = (l : Limits) (c : Count) → Inside l c → Inside l (end_count (m l c))

-- ---- the words
kept-return : (A : Type 0) (a : A) → Kept A (return a)
unfolding return
kept-return A a = λ l c h. h

kept-refuse : (A : Type 0) (why : Met → Refusal) (place : Place) → Kept A (refuse why place)
unfolding refuse
kept-refuse A why place = λ l c h. h

kept-fail : (A : Type 0) (e : Refusal) → Kept A (fail e)
unfolding fail
kept-fail A e = λ l c h. h

kept_next : (A B : Type 0) (o : Outcome A) (k : A → Run B) (l : Limits) → Inside l (end_count o) → ((a : A) → Kept B (k a)) → Inside l (end_count (next o k l))
kept_next A B (Ok v) k l h q = q v.0 l v.1 h
kept_next A B (Err s) k l h q = h

kept-bind : (A B : Type 0) (m : Run A) (k : A → Run B) → Kept A m → ((a : A) → Kept B (k a)) → Kept B (m >>= k)
unfolding ◌>>=◌
kept-bind A B m k p q = λ l c h. kept_next A B (m l c) k l (p l c h) q

kept_then : (A B : Type 0) (m : Run A) (k : Run B) → Kept A m → Kept B k → Kept B (m >> k)
unfolding ◌>>◌
kept_then A B m k p q = λ l c h. kept_next A B (m l c) (λ _. k) l (p l c h) (λ _. q)

kept-tick : (place : Place) → Kept (Unit {0}) (tick place)
unfolding tick
kept-tick place = λ l c h. go l c h (ltb c.steps l.fuel) refl
  where
    go : (l : Limits) (c : Count) → (c.steps ≤ l.fuel) × (c.nodes ≤ l.room) → (b : Bool) → ltb c.steps l.fuel ≡ b → Inside l (end_count {A = Unit {0}} (cond b (Ok (tt {0}, stepped c)) (Err (stopped_at FuelSpent place c))))
    go l c h true e = (ltb-true c.steps l.fuel e, h.1)
    go l c h false e = h

kept-write : (place : Place) → Kept (Unit {0}) (write place)
unfolding write
kept-write Test = λ l c h. h
kept-write Node = λ l c h. go l c h (ltb c.nodes l.room) refl
  where
    go : (l : Limits) (c : Count) → (c.steps ≤ l.fuel) × (c.nodes ≤ l.room) → (b : Bool) → ltb c.nodes l.room ≡ b → Inside l (end_count {A = Unit {0}} (cond b (Ok (tt {0}, noted c)) (Err (stopped_at WorkFull Node c))))
    go l c h true e = (h.0, ltb-true c.nodes l.room e)
    go l c h false e = h

kept-bar : (A : Type 0) (why : Met → Refusal) (place : Place) → Kept A (bar why place)
unfolding bar
kept-bar A why place = λ l c h. go l c h (ltb c.steps l.fuel)
  where
    go : (l : Limits) (c : Count) → (c.steps ≤ l.fuel) × (c.nodes ≤ l.room) → (b : Bool) → Inside l (end_count {A = A} (cond b (Err (stopped_at why place c)) (Err (stopped_at FuelSpent place c))))
    go l c h true = h
    go l c h false = h

kept-words : Words Kept
kept-words =
    record {
      returned = kept-return;
      refused = λ A why place _. kept-refuse A why place;
      ticked = kept-tick;
      barred = λ A why place _. kept-bar A why place;
      wrote = kept-write;
      bound = kept-bind;
      followed = kept_then;
    }

-- ---- solves
inside-solved : (S : System) (fuel : ℤ) (room : ℕ) → Inside (limits (nat_abs fuel) room) (end_count (solved S fuel room))
unfolding solved
inside-solved S fuel room = go (system_fits S) (fuel_fits fuel) _ (of_words Kept kept-words (kept-fail Tree NoParameterPoint) (start S) (limits (nat_abs fuel) room) nothing (omega arith, omega arith))
  where
    go : (a b : Result (Unit {0}) Refusal) (o : Outcome Tree) → Inside (limits (nat_abs fuel) room) (end_count o) → Inside (limits (nat_abs fuel) room) (end_count (run_if a (run_if b o)))
    go (Ok _) (Ok _) o h = h
    go (Ok _) (Err e) o h = (omega arith, omega arith)
    go (Err e) b o h = (omega arith, omega arith)

pub within-fuel : WithinFuel
within-fuel S fuel room = (inside-solved S fuel room).0

pub within-room : WithinRoom
within-room S fuel room = (inside-solved S fuel room).1
