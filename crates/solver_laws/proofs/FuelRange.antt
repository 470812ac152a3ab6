-- The limits of fuel.
use Rattle.std.proofs.Common.{◌≡◌, ℕ, ◌<◌, ◌≤◌, Bool, true, false, cond, ◌&&◌, leb, ℤ, pos, negsuc, Ok, Err, Result, refl, ap, arith}
use Rattle.std.proofs.lemmas.Bool.{and_from, and_parts, and_right, le-leb, leb-true, lt-leb}
use Rattle.base.specs.declared.refusal.Refusal.{Refusal}
use Rattle.base.specs.declared.refusal.Refusal.TheVariants.{Fuel}
use Rattle.solver.specs.Solves.{fuel_fits}

-- ---- fuel from 0 to 100,000
pub fits_in : (f : ℕ) → f ≤ 100_000 → fuel_fits (pos f) ≡ Ok tt
fits_in f h = ap (λ b. cond b (Ok tt) (Err Fuel)) (and_from (leb 0 f) (leb f 100_000) (le-leb 0 f (omega arith)) (le-leb f 100_000 h))

pub fits_out : (f : ℕ) → 100_000 < f → fuel_fits (pos f) ≡ Err Fuel
fits_out f h = ap (λ b. cond b (Ok tt) (Err Fuel)) (and_right (leb 0 f) (leb f 100_000) (lt-leb f 100_000 h))

cond-ok : (b : Bool) → cond {A = Result (Unit {0}) Refusal} b (Ok tt) (Err Fuel) ≡ Ok tt → b ≡ true
cond-ok true e = refl
cond-ok false e = cc

pub fits-ok : (fuel : ℤ) → fuel_fits fuel ≡ Ok tt → (f : ℕ) × (fuel ≡ pos f) × (f ≤ 100_000)
fits-ok (pos f) e = (f, refl, leb-true f 100_000 (and_parts (leb 0 f) (leb f 100_000) (cond-ok (leb 0 f && leb f 100_000) e)).1)
fits-ok (negsuc n) e = absurd (let z : ◌≡◌ {A = ℕ} 0 1 = cc in let none : ⊥ = omega arith in none)
