-- A computation that counts: it is given the limits and the count so far, and answers a value, or a refusal. Either way it ends with the count by then.
use Rattle.std.specs.Prelude.{ℕ, suc, cond, Ok, Err, Result, nat_lt}
use Rattle.base.specs.declared.refusal.Met.{Met}
use Rattle.base.specs.declared.refusal.Place.{Place}
use Rattle.base.specs.declared.refusal.Place.TheVariants.{Node, Test}
use Rattle.base.specs.declared.refusal.Refusal.{Refusal}
use Rattle.base.specs.declared.refusal.Refusal.TheVariants.{FuelSpent, WorkFull}
use Rattle.solver.specs.declared.count.Count.{Count}
use Rattle.solver.specs.declared.count.Stopped.{Stopped}

-- the fuel, and the length of the work table
pub record Limits : Type 0 where
  pub fuel : ℕ
  pub room : ℕ

abbrev pub Outcome : Type 0 → Type 0
Outcome A = Result (A × Count) Stopped

-- the count that it ends with, and the steps made, however it ends
abbrev pub end_count : {A : Type 0} → Outcome A → Count
end_count (Ok v) = v.1
end_count (Err s) = s.count

abbrev pub steps_of : {A : Type 0} → Outcome A → ℕ
steps_of o = (end_count o).steps

abbrev pub Run : Type 0 → Type 0
Run A = Limits → Count → Outcome A

unfoldable pub return : {A : Type 0} → A → Run A
return a l c = Ok (a, c)

-- one after the other; a refusal ends it
abbrev pub next : {A B : Type 0} → Outcome A → (A → Run B) → Limits → Outcome B
next (Ok v) k l = k v.0 l v.1
next (Err s) k l = Err s

infixl 10 ◌>>=◌ ◌>>◌
unfoldable pub ◌>>=◌ : {A B : Type 0} → Run A → (A → Run B) → Run B
◌>>=◌ m k l c = next (m l c) k l

unfoldable pub ◌>>◌ : {A B : Type 0} → Run A → Run B → Run B
◌>>◌ m k l c = next (m l c) (λ _. k) l

-- how far a run has come
abbrev pub met_at : Place → Count → Met
met_at place c = record { steps = c.steps; place = place }

-- refused there
abbrev pub stopped : Refusal → Count → Stopped
stopped why c = record { why = why; count = c }

abbrev pub stopped_at : (Met → Refusal) → Place → Count → Stopped
stopped_at why place c = stopped (why (met_at place c)) c

unfoldable pub refuse : {A : Type 0} → (Met → Refusal) → Place → Run A
refuse why place l c = Err (stopped_at why place c)

-- a refusal that says nothing of the run
unfoldable pub fail : {A : Type 0} → Refusal → Run A
fail why l c = Err (stopped why c)

-- a step, where fuel is left
abbrev pub stepped : Count → Count
stepped c = record { steps = suc c.steps; nodes = c.nodes }

unfoldable pub tick : Place → Run (Unit {0})
tick place l c = cond (nat_lt c.steps l.fuel) (Ok (tt, stepped c)) (Err (stopped_at FuelSpent place c))

-- a step that may not be made: fuel that is spent is said first
unfoldable pub bar : {A : Type 0} → (Met → Refusal) → Place → Run A
bar why place l c = cond (nat_lt c.steps l.fuel) (Err (stopped_at why place c)) (Err (stopped_at FuelSpent place c))

-- a node in the work table, where there is room; a test writes none
abbrev pub noted : Count → Count
noted c = record { steps = c.steps; nodes = suc c.nodes }

unfoldable pub write : Place → Run (Unit {0})
write Test l c = Ok (tt, c)
write Node l c = cond (nat_lt c.nodes l.room) (Ok (tt, noted c)) (Err (stopped_at WorkFull Node c))
