-- Every arrangement is right.
use Rattle.std.proofs.Common.{◌≡◌, ℕ, List, [], ◌∷◌, ◌++◌, None, inl, inr, sym, refl, ap, ap₂, ◌∙◌, subst}
use Rattle.sheet.specs.Sheets.{emptied}
use Rattle.store.specs.Stores.{Costs, Meaning, fresh}
use Rattle.sheet.specs.Events.{Event, Find, Solve, find, solve}
use Rattle.sheet.specs.Arrangements.{Gives, LeadsTo, Made, Reached, after, after_all}
use Rattle.sheet.specs.Laws.{ArrangementsRight, LeadsOn, NextFind, NextSolve}
use Rattle.std.proofs.Math.Logic.{∥∥₁_map}
use Rattle.sheet.proofs.Alike.{Among, Same, among-of, given, of_among, solves-right, steady}
use Rattle.sheet.proofs.Running.{after-append, made-append}
use Rattle.sheet.proofs.Standing.{all-stands, find-right}

-- what comes before a call, and the call itself
made-before : (m : Meaning) (before later : List Event) (e : Event) → Made m (before ++ e ∷ later) → Made m before × Gives (after_all m before) e
made-before m [] later e h = (tt, h.0)
made-before m (x ∷ xs) later e h = let k = made-before (after m x) xs later e h.1 in ((h.0, k.0), k.1)

pub arrangements-right : ArrangementsRight
arrangements-right capacity costs events h =
    let m = fresh capacity costs in
    record {
      finds = λ before later f e.
          let k = made-before m before later (find f) (subst (Made m) e h) in
          find-right _ (after_all m before) (all-stands m None before k.0 refl) f k.1;
      solves = λ s r i j a.
          let q : Same m m = record { capacity = refl; costs = refl } in
          solves-right m s r (given m m q events h s (among-of events (solve s) i)) (given m m q events h r (among-of events (solve r) j)) a;
      as_solved = λ s i. let q : Same m m = record { capacity = refl; costs = refl } in given m m q events h s (among-of events (solve s) i);
    }

-- ---- further calls
steady-all : (m : Meaning) (events : List Event) → Same (after_all m events) m
steady-all m [] = record { capacity = refl; costs = refl }
steady-all m (e ∷ es) = let k = steady-all (after m e) es in let l = steady m e in record { capacity = k.capacity ∙ l.capacity; costs = k.costs ∙ l.costs }

leads-at : (m : Meaning) (capacity : ℕ) (costs : Costs) (events : List Event) → capacity ≡ m.capacity → costs ≡ m.costs → Made (fresh capacity costs) events → after_all (fresh capacity costs) events ≡ m → LeadsTo events m
leads-at m capacity costs events p q h e =
    record {
      made = subst (λ k. Made k events) (ap₂ fresh p q) h;
      now = ap (λ k. after_all k events) (sym (ap₂ fresh p q)) ∙ e;
    }

-- a sheet as it is made
pub fresh-leads : (m : Meaning) → LeadsTo [] (emptied m)
fresh-leads m = record { made = tt; now = refl }

pub leads-on : (m : Meaning) (events : List Event) (n : Meaning) → Made m events → n ≡ after_all m events → LeadsOn m events n
leads-on m events n h is before l =
    let start = fresh m.capacity m.costs in
    let made : Made start (before ++ events) = made-append start before events l.made (subst (λ k. Made k events) (sym l.now) h) in
    let k = steady-all m events in (
      leads-at n m.capacity m.costs (before ++ events)
          (sym (ap (λ (x : Meaning). x.capacity) is ∙ k.capacity)) (sym (ap (λ (x : Meaning). x.costs) is ∙ k.costs))
          made (after-append start before events ∙ ap (λ x. after_all x events) l.now ∙ sym is),
      arrangements-right m.capacity m.costs (before ++ events) made,
    )

pub next : (m : Meaning) (e : Event) (n : Meaning) → Gives m e → n ≡ after m e → LeadsOn m (e ∷ []) n
next m e n g is = leads-on m (e ∷ []) n (g, tt) is

-- and some arrangement still leads there
pub reach : (m : Meaning) (e : Event) (n : Meaning) → Gives m e → n ≡ after m e → ∥ Reached m ∥₁ → ∥ Reached n ∥₁
reach m e n g is r = ∥∥₁_map r (λ k. (k.0 ++ e ∷ [], (next m e n g is k.0 k.1).0))

pub reach-on : (m : Meaning) (events : List Event) (n : Meaning) → LeadsOn m events n → ∥ Reached m ∥₁ → ∥ Reached n ∥₁
reach-on m events n h r = ∥∥₁_map r (λ k. (k.0 ++ events, (h k.0 k.1).0))

pub reach-first : (m : Meaning) → ∥ Reached (emptied m) ∥₁
reach-first m = ∣ ([], fresh-leads m) ∣₁

-- ---- the next find, and the next solve
pub next-find : (m : Meaning) (f : Find) → Gives m (find f) → NextFind m f
next-find m f g events l = (next m (find f) m g refl events l).1.finds events [] f refl

among-before : (x e : Event) (events : List Event) → Among x events → Among x (events ++ e ∷ [])
among-before x e [] h = absurd h
among-before x e (y ∷ ys) (inl h) = inl h
among-before x e (y ∷ ys) (inr h) = inr (among-before x e ys h)

among-last : (e : Event) (events : List Event) → Among e (events ++ e ∷ [])
among-last e [] = inl refl
among-last e (y ∷ ys) = inr (among-last e ys)

pub next-solve : (m : Meaning) (r : Solve) (n : Meaning) → Gives m (solve r) → n ≡ after m (solve r) → NextSolve m r
next-solve m r n g is events l s i a =
    let right = (next m (solve r) n g is events l).1 in
    let j = of_among (events ++ solve r ∷ []) (solve s) (among-before (solve s) (solve r) events (among-of events (solve s) i)) in
    let k = of_among (events ++ solve r ∷ []) (solve r) (among-last (solve r) events) in
    (right.solves s r j k a, right.solves r s k j (record { systems = sym a.systems; rooms = sym a.rooms }))
