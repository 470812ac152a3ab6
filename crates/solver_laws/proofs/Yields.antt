-- What a computation answers, by what its parts answer.
use Rattle.std.proofs.Common.{◌≡◌, Bool, true, false, cond, ltb, IfOk, Ok, Err, refl, subst}
use Rattle.base.specs.declared.refusal.Met.{Met}
use Rattle.base.specs.declared.refusal.Place.{Place}
use Rattle.base.specs.declared.refusal.Refusal.{Refusal}
use Rattle.base.specs.declared.refusal.Refusal.TheVariants.{FuelSpent}
use Rattle.solver.specs.declared.count.Count.{Count}
use Rattle.solver.specs.declared.count.Stopped.{Stopped}
use Rattle.solver.specs.Runs.{Limits, Outcome, Run, bar, fail, next, refuse, return, stopped_at, ◌>>=◌, ◌>>◌}
use Rattle.solver.specs.Rules.{ranged}
use Rattle.solver_laws.specs.Meaning.{Yields}

-- P of the value of an outcome, if it has one
abbrev Says : {A : Type 0} → (A → Type 0) → Outcome A → Type 0
Says P o = IfOk o (λ v. P v.0)

says : {A : Type 0} (P : A → Type 0) (o : Outcome A) (a : A) (c : Count) → o ≡ Ok (a, c) → Says P o → P a
says P o a c e h = subst (Says P) e h

asks : {A : Type 0} (P : A → Type 0) (o : Outcome A) → ((a : A) (c : Count) → o ≡ Ok (a, c) → P a) → Says P o
asks P (Ok v) h = h v.0 v.1 refl
asks P (Err r) h = tt

yields : {A : Type 0} (P : A → Type 0) (m : Run A) → ((l : Limits) (c : Count) → Says P (m l c)) → Yields P m
yields P m h = record { law = λ l c a d e. says P (m l c) a d e (h l c) }

answers : {A : Type 0} (P : A → Type 0) (m : Run A) → Yields P m → (l : Limits) (c : Count) → Says P (m l c)
answers P m h l c = asks P (m l c) (λ a d e. h.law l c a d e)

pub y-return : {A : Type 0} (P : A → Type 0) (a : A) → P a → Yields P (return a)
unfolding return
y-return P a h = yields P (return a) (λ l c. h)

pub y-refuse : {A : Type 0} (P : A → Type 0) (why : Met → Refusal) (place : Place) → Yields P (refuse why place)
unfolding refuse
y-refuse P why place = yields P (refuse why place) (λ l c. tt)

pub y-fail : {A : Type 0} (P : A → Type 0) (e : Refusal) → Yields P (fail e)
unfolding fail
y-fail P e = yields P (fail e) (λ l c. tt)

pub y-bar : {A : Type 0} (P : A → Type 0) (why : Met → Refusal) (place : Place) → Yields P (bar why place)
unfolding bar
y-bar {A} P why place = yields P (bar why place) (λ l c. go (ltb c.steps l.fuel) (stopped_at why place c) (stopped_at FuelSpent place c))
  where
    go : (b : Bool) (r r' : Stopped) → IfOk (cond b (Err r) (Err r')) (λ (v : A × Count). P v.0)
    go true r r' = tt
    go false r r' = tt

after : {A B : Type 0} (P : A → Type 0) (Q : B → Type 0) (o : Outcome A) (k : A → Run B) (l : Limits) → Says P o → ((a : A) → P a → Yields Q (k a)) → Says Q (next o k l)
after P Q (Ok v) k l h g = answers Q (k v.0) (g v.0 h) l v.1
after P Q (Err r) k l h g = tt

pub y-bind : {A B : Type 0} (P : A → Type 0) (Q : B → Type 0) (m : Run A) (k : A → Run B) → Yields P m → ((a : A) → P a → Yields Q (k a)) → Yields Q (m >>= k)
unfolding ◌>>=◌
y-bind P Q m k h g = yields Q (m >>= k) (λ l c. after P Q (m l c) k l (answers P m h l c) g)

-- with what the first part says
pub y-seq : {A B : Type 0} (P : A → Type 0) (Q : B → Type 0) (m : Run A) (k : Run B) → Yields P m → ((a : A) → P a → Yields Q k) → Yields Q (m >> k)
unfolding ◌>>◌
y-seq P Q m k h g = yields Q (m >> k) (λ l c. after P Q (m l c) (λ _. k) l (answers P m h l c) g)

pub y-any : {A : Type 0} (m : Run A) → Yields (λ _. Unit {0}) m
y-any m = record { law = λ l c a d e. tt }

-- whatever the first part says
pub y-then : {A B : Type 0} (Q : B → Type 0) (m : Run A) (k : Run B) → Yields Q k → Yields Q (m >> k)
y-then Q m k g = y-seq (λ _. Unit {0}) Q m k (y-any m) (λ a h. g)

pub y-cond : {A : Type 0} (P : A → Type 0) (b : Bool) (m k : Run A) → (b ≡ true → Yields P m) → (b ≡ false → Yields P k) → Yields P (cond b m k)
y-cond P true m k h g = h refl
y-cond P false m k h g = g refl

pub y-weaken : {A : Type 0} (P Q : A → Type 0) (m : Run A) → ((a : A) → P a → Q a) → Yields P m → Yields Q m
y-weaken P Q m f h = record { law = λ l c a d e. f a (h.law l c a d e) }

-- what is past a look at the range is in range
pub y-ranged : (place : Place) (b : Bool) → Yields (λ _. b ≡ true) (ranged place b)
unfolding ranged
y-ranged place b = y-cond _ b _ _ (λ e. y-return _ tt e) (λ e. y-refuse _ _ place)
