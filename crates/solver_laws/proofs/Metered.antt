-- What fuel does to a computation: the words obey it, and so do all the rules.
use Rattle.std.proofs.Common.{◌≡◌, ℕ, ◌<◌, ◌≤◌, Bool, true, false, cond, ltb, Ok, Err, refl, ap, arith}
use native.Mathlib.Decide.{dec_le}
use Rattle.std.proofs.lemmas.Bool.{ltb-true, ltb-false}
use Rattle.base.specs.declared.refusal.Met.{Met}
use Rattle.base.specs.declared.refusal.Place.{Place}
use Rattle.base.specs.declared.refusal.Place.TheVariants.{Node, Test}
use Rattle.base.specs.declared.refusal.Refusal.{Refusal}
use Rattle.base.specs.declared.refusal.Refusal.TheVariants.{FuelSpent, WorkFull}
use Rattle.solver.specs.declared.count.Count.{Count}
use Rattle.solver.specs.declared.count.Stopped.{Stopped}
use Rattle.solver.specs.Runs.{Limits, Outcome, Run, bar, fail, met_at, next, noted, refuse, return, stepped, stopped, stopped_at, tick, write, ◌>>=◌, ◌>>◌}
use Rattle.solver_laws.proofs.Closed.{Words}
use Rattle.solver.specs.Ties.{limits}

abbrev pub IsSpent : Stopped → Type 0
IsSpent s = (m : Met) × (s.why ≡ FuelSpent m)

abbrev pub SpentOut : (A : Type 0) → Outcome A → Type 0
SpentOut A o = (m : Met) × (c : Count) × (o ≡ Err (stopped (FuelSpent m) c))

-- the outcome under the fuel f, from s steps on, and the outcome under f'
abbrev pub Fuelled : (A : Type 0) → ℕ → ℕ → ℕ → Outcome A → Outcome A → Type 0
Fuelled A s f f' (Ok v) o' = (s ≤ v.1.steps) × (v.1.steps ≤ f) × (v.1.steps ≤ f' → o' ≡ Ok v) × (f' < v.1.steps → SpentOut A o')
Fuelled A s f f' (Err e) o' = (IsSpent e → f' ≤ f → SpentOut A o') × (¬ IsSpent e → f ≤ f' → o' ≡ Err e)

abbrev pub Metered : (A : Type 0) → Run A → Type 0
Metered A m = (f f' room : ℕ) (c : Count) → c.steps ≤ f → c.steps ≤ f' → Fuelled A c.steps f f' (m (limits f room) c) (m (limits f' room) c)

-- ---- the words
-- a refusal is as it is, whatever the fuel
pub same-refusal : (A : Type 0) (s f f' : ℕ) (e : Stopped) → Fuelled A s f f' (Err e) (Err e)
same-refusal A s f f' e = (λ h _. (h.0, e.count, λ i. Err (stopped (h.1 i) e.count)), λ _ _. refl)

-- a result with no step made
same-steps : (A : Type 0) (a : A) (c d : Count) (f f' : ℕ) → d.steps ≡ c.steps → c.steps ≤ f → c.steps ≤ f' → Fuelled A c.steps f f' (Ok (a, d)) (Ok (a, d))
same-steps A a c d f f' e h h' = (omega arith, omega arith, λ _. refl, λ k. absurd (let none : ⊥ = omega arith in none))

metered-return : (A : Type 0) (a : A) → Metered A (return a)
unfolding return
metered-return A a = λ f f' room c h h'. same-steps A a c c f f' refl h h'

metered-refuse : (A : Type 0) (why : Met → Refusal) (place : Place) → Metered A (refuse why place)
unfolding refuse
metered-refuse A why place = λ f f' room c h h'. same-refusal A c.steps f f' (stopped_at why place c)

pub metered-fail : (A : Type 0) (e : Refusal) → Metered A (fail e)
unfolding fail
metered-fail A e = λ f f' room c h h'. same-refusal A c.steps f f' (stopped e c)

noted-same : (b : Bool) (c : Count) (f f' : ℕ) → c.steps ≤ f → c.steps ≤ f' →
    let o : Outcome (Unit {0}) = cond b (Ok (tt, noted c)) (Err (stopped_at WorkFull Node c)) in Fuelled (Unit {0}) c.steps f f' o o
noted-same true c f f' h h' = same-steps (Unit {0}) tt c (noted c) f f' refl h h'
noted-same false c f f' h h' = same-refusal (Unit {0}) c.steps f f' (stopped_at WorkFull Node c)

metered-write : (place : Place) → Metered (Unit {0}) (write place)
unfolding write
metered-write Test = λ f f' room c h h'. same-steps (Unit {0}) tt c c f f' refl h h'
metered-write Node = λ f f' room c h h'. noted-same (ltb c.nodes room) c f f' h h'

-- o where a step is left, else spent
module _ (A : Type 0) (place : Place) (o : Outcome A) (c : Count) (f f' : ℕ) where
  abbrev spending : Bool → Outcome A
  spending b = cond b o (Err (stopped_at FuelSpent place c))

  where-left :
      (c.steps < f → c.steps < f' → Fuelled A c.steps f f' o o) →
      (c.steps < f → f' ≤ c.steps → Fuelled A c.steps f f' o (Err (stopped_at FuelSpent place c))) →
      (b b' : Bool) → ltb c.steps f ≡ b → ltb c.steps f' ≡ b' → Fuelled A c.steps f f' (spending b) (spending b')
  where-left both one true true e e' = both (ltb-true c.steps f e) (ltb-true c.steps f' e')
  where-left both one true false e e' = one (ltb-true c.steps f e) (ltb-false c.steps f' e')
  where-left both one false true e e' =
      let k : f ≤ c.steps = ltb-false c.steps f e in
      let k' : c.steps < f' = ltb-true c.steps f' e' in
      (λ _ h. absurd (let none : ⊥ = omega arith in none), λ h _. absurd (h (met_at place c, refl)))
  where-left both one false false e e' = (λ _ _. (met_at place c, c, refl), λ h _. absurd (h (met_at place c, refl)))

metered-tick : (place : Place) → Metered (Unit {0}) (tick place)
unfolding tick
metered-tick place = λ f f' room c h h'.
    where-left (Unit {0}) place (Ok (tt, stepped c)) c f f'
    (λ k k'. (omega arith, k, λ _. refl, λ l. absurd (let none : ⊥ = omega arith in none)))
    (λ k k'. (omega arith, k, λ l. absurd (let none : ⊥ = omega arith in none), λ _. (met_at place c, c, refl)))
    (ltb c.steps f) (ltb c.steps f') refl refl

metered-bar : (A : Type 0) (why : Met → Refusal) (place : Place) → Metered A (bar why place)
unfolding bar
metered-bar A why place = λ f f' room c h h'.
    where-left A place (Err (stopped_at why place c)) c f f'
    (λ k k'. same-refusal A c.steps f f' (stopped_at why place c))
    (λ k k'. (λ _ _. (met_at place c, c, refl), λ _ l. absurd (let none : ⊥ = omega arith in none)))
    (ltb c.steps f) (ltb c.steps f') refl refl

-- ---- one after the other
spent-next : (A B : Type 0) (o : Outcome A) (k : A → Run B) (l : Limits) → SpentOut A o → SpentOut B (next o k l)
spent-next A B o k l h = (h.0, h.1, ap (λ x. next x k l) h.2)

module _ (A B : Type 0) (s f f' room : ℕ) (o' : Outcome A) (k : A → Run B) where
  -- what comes after a result a at the count c
  after : (a : A) (c : Count) (o : Outcome B) → c.steps ≤ f → s ≤ c.steps → (c.steps ≤ f' → o' ≡ Ok (a, c)) → (f' < c.steps → SpentOut A o') →
      (c.steps ≤ f' → Fuelled B c.steps f f' o (k a (limits f' room) c)) → Fuelled B c.steps f f o o → Fuelled B s f f' o (next o' k (limits f' room))
  after a c (Ok v) h g same short law own =
      let more : c.steps ≤ v.1.steps = own.0 in (
        omega arith,
        own.1,
        λ q. let w : c.steps ≤ f' = omega arith in rw (same w) ((law w).2 q),
        λ q. elim (dec_le c.steps f') [ yes w ↦ rw (same w) ((law w).3 q) | no w ↦ spent-next A B o' k (limits f' room) (short (omega arith)) ],
      )
  after a c (Err e) h g same short law own = (
    λ p q. elim (dec_le c.steps f') [ yes w ↦ rw (same w) ((law w).0 p q) | no w ↦ spent-next A B o' k (limits f' room) (short (omega arith)) ],
    λ p q. let w : c.steps ≤ f' = omega arith in rw (same w) ((law w).1 p q),
  )

  metered-next : (o : Outcome A) → ((a : A) → Metered B (k a)) → Fuelled A s f f' o o' → Fuelled B s f f' (next o k (limits f room)) (next o' k (limits f' room))
  metered-next (Ok v) mk law =
      after v.0 v.1 (k v.0 (limits f room) v.1) law.1 law.0 law.2 law.3 (λ w. mk v.0 f f' room v.1 law.1 w) (mk v.0 f f room v.1 law.1 law.1)
  metered-next (Err e) mk law = (λ p q. spent-next A B o' k (limits f' room) (law.0 p q), λ p q. rw (law.1 p q))

metered-bind : (A B : Type 0) (m : Run A) (k : A → Run B) → Metered A m → ((a : A) → Metered B (k a)) → Metered B (m >>= k)
unfolding ◌>>=◌
metered-bind A B m k mm mk = λ f f' room c h h'. metered-next A B c.steps f f' room (m (limits f' room) c) k (m (limits f room) c) mk (mm f f' room c h h')

metered-then : (A B : Type 0) (m : Run A) (k : Run B) → Metered A m → Metered B k → Metered B (m >> k)
unfolding ◌>>◌
metered-then A B m k mm mk = λ f f' room c h h'. metered-next A B c.steps f f' room (m (limits f' room) c) (λ _. k) (m (limits f room) c) (λ _. mk) (mm f f' room c h h')

pub metered-words : Words Metered
metered-words =
    record {
      returned = metered-return;
      refused = λ A why place _. metered-refuse A why place;
      ticked = metered-tick;
      barred = λ A why place _. metered-bar A why place;
      wrote = metered-write;
      bound = metered-bind;
      followed = metered-then;
    }
