-- The fuel law of whole solves.
use Rattle.std.proofs.Common.{◌≡◌, ℕ, ◌<◌, ◌≤◌, ℤ, pos, negsuc, nat_abs, ◌≤ℤ◌, ◌<ℤ◌, Ok, Err, Result, refl, ap, ◌∙◌, subst, arith}
use native.Mathlib.Decide.{dec_le}
use borrow.Author.Differences.{ints}
use Rattle.base.specs.declared.refusal.Met.{Met}
use Rattle.base.specs.declared.refusal.Refusal.{Refusal}
use Rattle.base.specs.declared.refusal.Refusal.TheVariants.{Fuel, FuelSpent, NoParameterPoint}
use Rattle.source.specs.Systems.{System}
use Rattle.tree.specs.Trees.{Tree}
use Rattle.solver.specs.declared.count.Count.{Count}
use Rattle.solver.specs.Runs.{Outcome, steps_of, stopped}
use Rattle.solver.specs.Solves.{fuel_fits, nothing, run, run_if, solved, start, system_fits}
use Rattle.solver_laws.specs.Fuel.{Enough, FuelLaw, LessSpent, MoreRefused, Spent, TooLittle}
use Rattle.solver_laws.proofs.Closed.{of_words}
use Rattle.solver_laws.proofs.Inside.{within-fuel}
use Rattle.solver_laws.proofs.FuelRange.{fits_in, fits-ok, fits_out}
use Rattle.solver.specs.Ties.{limits}
use Rattle.solver_laws.proofs.Metered.{Fuelled, Metered, metered-fail, metered-words, same-refusal}
use Rattle.solver_laws.proofs.Spent.{early-spent, spent-whole, why-is}

-- ---- numbers that are not negative
-- a whole number that is not below a natural one
natural : (n : ℕ) (fuel : ℤ) → pos n ≤ℤ fuel → (f : ℕ) × (fuel ≡ pos f) × (n ≤ f)
natural n (pos f) h = (f, refl, omega (arith, ints))
natural n (negsuc k) h = absurd (let none : ⊥ = omega (arith, ints) in none)

at_most : (f n : ℕ) (fuel : ℤ) → fuel ≡ pos f → fuel ≤ℤ pos n → f ≤ n
at_most f n fuel e h = let k : pos f ≤ℤ pos n = rw e at h in omega (arith, ints)

less-than : (f n : ℕ) (fuel : ℤ) → fuel ≡ pos f → fuel <ℤ pos n → f < n
less-than f n fuel e h = let k : pos f <ℤ pos n = rw e at h in omega (arith, ints)

-- ---- solves under two fuels in limits
solved-in : (S : System) (f room : ℕ) → f ≤ 100_000 → solved S (pos f) room ≡ run_if (system_fits S) (run (start S) (limits f room) nothing)
unfolding solved
solved-in S f room h = ap (λ b. run_if (system_fits S) (run_if b (run (start S) (limits f room) nothing))) (fits_in f h)

fuelled-after : (f f' : ℕ) (a : Result (Unit {0}) Refusal) (o o' : Outcome Tree) → Fuelled Tree 0 f f' o o' → Fuelled Tree 0 f f' (run_if a o) (run_if a o')
fuelled-after f f' (Ok _) o o' h = h
fuelled-after f f' (Err e) o o' h = same-refusal Tree 0 f f' (stopped e nothing)

fuelled-solved : (S : System) (f f' room : ℕ) → f ≤ 100_000 → f' ≤ 100_000 → Fuelled Tree 0 f f' (solved S (pos f) room) (solved S (pos f') room)
fuelled-solved S f f' room h h' =
    rw (solved-in S f room h, solved-in S f' room h')
    (fuelled-after f f' (system_fits S) _ _ (of_words Metered metered-words (metered-fail Tree NoParameterPoint) (start S) f f' room nothing (omega arith) (omega arith)))

-- ---- accepted
second-ok : (a b : Result (Unit {0}) Refusal) (o : Outcome Tree) (v : Tree × Count) → run_if a (run_if b o) ≡ Ok v → b ≡ Ok tt
second-ok (Ok _) (Ok u) o v e = refl
second-ok (Ok _) (Err r) o v e = cc
second-ok (Err r) b o v e = cc

accepted-in : (S : System) (fuel : ℤ) (room : ℕ) (v : Tree × Count) → solved S fuel room ≡ Ok v → (f : ℕ) × (fuel ≡ pos f) × (f ≤ 100_000)
unfolding solved
accepted-in S fuel room v e = fits-ok fuel (second-ok (system_fits S) (fuel_fits fuel) _ v e)

accepted-within : (S : System) (fuel : ℤ) (room : ℕ) (t : Tree) (c : Count) → solved S fuel room ≡ Ok (t, c) → c.steps ≤ nat_abs fuel
accepted-within S fuel room t c e = subst (λ o. steps_of o ≤ nat_abs fuel) e (within-fuel S fuel room)

pub enough : Enough
enough S room fuel fuel' t c e h h' =
    let k = accepted-in S fuel room (t, c) e in
    let k' = natural c.steps fuel' h in
    let e' : solved S (pos k.0) room ≡ Ok (t, c) = rw k.1 at e in
    let law : Fuelled Tree 0 k.0 k'.0 (Ok (t, c)) (solved S (pos k'.0) room) = rw e' at (fuelled-solved S k.0 k'.0 room k.2 (at_most k'.0 100_000 fuel' k'.1 h')) in
    rw k'.1 (law.2 k'.2)

pub too-little : TooLittle
too-little S room fuel fuel' t c e h h' =
    let k = accepted-in S fuel room (t, c) e in
    let k' = natural 0 fuel' h in
    let e' : solved S (pos k.0) room ≡ Ok (t, c) = rw k.1 at e in
    let short : k'.0 < c.steps = less-than k'.0 c.steps fuel' k'.1 h' in
    let own : c.steps ≤ k.0 = rw k.1 at (accepted-within S fuel room t c e) in
    let most : k.0 ≤ 100_000 = k.2 in
    let law : Fuelled Tree 0 k.0 k'.0 (Ok (t, c)) (solved S (pos k'.0) room) = rw e' at (fuelled-solved S k.0 k'.0 room k.2 (omega arith)) in
    rw k'.1 (law.3 short)

-- ---- refused
-- a refusal of the system itself comes under any fuel
first-spent : (a : Result (Unit {0}) Refusal) (m : Met) (c : Count) (o : Outcome Tree) → run_if {A = Tree} a (Err (stopped Fuel nothing)) ≡ Err (stopped (FuelSpent m) c) → run_if a o ≡ Err (stopped (FuelSpent m) c)
first-spent (Ok _) m c o e = absurd (early-spent Fuel m tt (why-is (stopped Fuel nothing) (stopped (FuelSpent m) c) e))
first-spent (Err r) m c o e = e

over-spent : (S : System) (f room : ℕ) (fuel' : ℤ) → 100_000 < f → Spent (solved S (pos f) room) → Spent (solved S fuel' room)
unfolding solved
over-spent S f room fuel' h s =
    let e : run_if {A = Tree} (system_fits S) (Err (stopped Fuel nothing)) ≡ Err (stopped (FuelSpent s.0) s.1) = rw (fits_out f h) at s.2 in
    (s.0, s.1, first-spent (system_fits S) s.0 s.1 _ e)

pub less-spent : LessSpent
less-spent S room fuel fuel' s h h' =
    let k' = natural 0 fuel' h in
    let k = natural k'.0 fuel (rw k'.1 at h') in
    let s' : Spent (solved S (pos k.0) room) = rw k.1 at s in
    elim (dec_le k.0 100_000) [
      | yes w ↦
          (let under : k'.0 ≤ k.0 = k.2 in
          let law : Fuelled Tree 0 k.0 k'.0 (Err (stopped (FuelSpent s'.0) s'.1)) (solved S (pos k'.0) room) = rw s'.2 at (fuelled-solved S k.0 k'.0 room w (omega arith)) in
          rw k'.1 (law.0 (s'.0, refl) under))
      | no w ↦ over-spent S k.0 room fuel' (omega arith) s'
    ]

pub more-refused : MoreRefused
more-refused S room fuel fuel' r e other h le most =
    let k = natural 0 fuel h in
    let k' = natural k.0 fuel' (rw k.1 at le) in
    let e' : solved S (pos k.0) room ≡ Err r = rw k.1 at e in
    let under : k.0 ≤ k'.0 = k'.2 in
    let most' : k'.0 ≤ 100_000 = at_most k'.0 100_000 fuel' k'.1 most in
    let law : Fuelled Tree 0 k.0 k'.0 (Err r) (solved S (pos k'.0) room) = rw e' at (fuelled-solved S k.0 k'.0 room (omega arith) most') in
    rw k'.1 (law.1 (λ s. other (s.0, r.count, e ∙ (λ i. Err (stopped (s.1 i) r.count)))) under)

pub fuel-law : FuelLaw
fuel-law = (enough, too-little, less-spent, more-refused, spent-whole)
