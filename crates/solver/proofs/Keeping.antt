-- What is kept as rows and forms are written: small numbers, sound rows.
use Rattle.std.proofs.Common.{◌≡◌, ℕ, zero, suc, ◌+◌, ◌^◌, ◌<◌, ◌≤◌, ◌≢◌, List, [], ◌∷◌, map, length, get_or, drop, set, replicate, ℤ, pos, negsuc, nat_abs, sym, refl, ap, ◌∙◌, subst, ⊎_elim, div-le_self, arith, w64, SFits, to_z, of_z}
use Rattle.std.proofs.lemmas.List.{get_or-set_same, get_or-set_other, get_or-drop}
use Rattle.std.proofs.lemmas.Int.{ints, to_z-of_z}
use Rattle.std.proofs.lemmas.Bool.{cases_eq}
use Rattle.base.specs.Numbers.{AllWithin, at, gcds, quot_by}
use Rattle.base.proofs.Products.{nat_abs-neg}
use Rattle.base.proofs.Gcds.{gcds-one}
use Rattle.base.proofs.Ranges.{within-set}
use Rattle.tableau.specs.declared.table.Row.{Row}
use Rattle.tableau.specs.declared.table.Table.{Table}
use Rattle.tableau.specs.Rows.{Sound}
use Rattle.tableau.specs.Tables.{Ready, no_row}
use Rattle.solver.specs.declared.context.Context.{Context}
use Rattle.solver.specs.declared.count.Count.{Count}
use Rattle.solver.specs.declared.state.State.{State}
use Rattle.solver.specs.Bounds.{SameContext, StateReady, Stepped}

-- one more at the end
pub each-push : {X : Type 0} (P : X → Type 0) (d : X) (n : ℕ) (xs : List X) (v : X) → n < length xs → P v → ((k : ℕ) → k < n → P (get_or xs k d)) → (k : ℕ) → k < n + 1 → P (get_or (set xs n v) k d)
each-push P d n xs v inside p all k below =
    ⊎_elim
    (λ (e : k ≡ n). subst (λ m. P (get_or (set xs n v) m d)) (sym e) (subst P (sym (get_or-set_same xs n v d inside)) p))
    (λ (ne : k ≢ n). subst P (sym (get_or-set_other xs n k v d ne)) (all k (omega arith)))
    (cases_eq k n)

pub within-zeros : (m n k : ℕ) → nat_abs (at (replicate n (pos 0)) k) ≤ m
within-zeros m zero k = omega arith
within-zeros m (suc n) zero = omega arith
within-zeros m (suc n) (suc k) = within-zeros m n k

-- a row with divisor 1 is in lowest terms
pub sound-one : (coefs form : List ℤ) → AllWithin (2 ^ 30) coefs → AllWithin (2 ^ 30) form → Sound (record { coefs = coefs; form = form; div = pos 1 })
sound-one coefs form c f =
    record {
      coefs_small = c;
      form_small = f;
      above = omega (arith, ints);
      below = omega (arith, ints);
      alone = ap (λ g. gcds g form) (gcds-one coefs) ∙ gcds-one form;
    }

pub ready-push : (t : Table) (row : Row) → length t.rows ≡ 64 → t.count < 64 → Ready t → Sound row → Ready (record { rows = set t.rows t.count row; count = t.count + 1; unknowns = t.unknowns })
ready-push t row long room r s =
    record {
      room = omega arith;
      few = r.few;
      inside = omega (arith, r.inside);
      sound = each-push Sound no_row t.count t.rows row (omega arith) s r.sound;
    }

pub same_refl : (c : Context) → SameContext c c
same_refl c = record { count = refl; rows = refl; parameters = refl; made = refl }

pub same-trans : (c d e : Context) → SameContext c d → SameContext d e → SameContext c e
same-trans c d e s t =
    record { count = t.count ∙ s.count; rows = t.rows ∙ s.rows; parameters = t.parameters ∙ s.parameters; made = t.made ∙ s.made }

pub stepped-refl : (fuel : ℕ) (c : Count) → c.steps ≤ fuel → Stepped fuel c c
stepped-refl fuel c h = record { more = omega arith; within = h }

pub stepped-trans : (fuel : ℕ) (c d e : Count) → Stepped fuel c d → Stepped fuel d e → Stepped fuel c e
stepped-trans fuel c d e s t = record { more = omega (arith, s.more, t.more); within = t.within }

-- a state after signs were found, and a pivot
pub state-turned : (s : State) (t : Table) (c : Context) → StateReady s → Ready t → (t.count ≡ s.table.count) × (t.unknowns ≡ s.table.unknowns) → SameContext s.context c → StateReady (record { table = t; context = c; cuts = s.cuts; left = s.left })
state-turned s t c r ready e same =
    record {
      table = ready;
      unknowns = omega (arith, e.1, r.unknowns);
      cuts = r.cuts;
      rows = omega (arith, e.0, r.rows);
      forms = omega (arith, same.count, same.made, r.forms);
    }

pub state-scanned : (s : State) (c : Context) → StateReady s → SameContext s.context c → StateReady (record { table = s.table; context = c; cuts = s.cuts; left = s.left })
state-scanned s c r same = state-turned s s.table c r r.table (refl, refl) same

-- a quotient is no larger
pub quot-within : (d x : ℤ) → nat_abs (quot_by d x) ≤ nat_abs x
quot-within (pos b) (pos a) = div-le_self a b
quot-within (negsuc b) (pos a) = rw (nat_abs-neg (pos _)) (div-le_self a (suc b))
quot-within (pos b) (negsuc a) = rw (nat_abs-neg (pos _)) (div-le_self (suc a) b)
quot-within (negsuc b) (negsuc a) = div-le_self (suc a) (suc b)

pub quots-within : (m : ℕ) (d : ℤ) (xs : List ℤ) → AllWithin m xs → AllWithin m (map (quot_by d) xs)
quots-within m d [] h k = omega arith
quots-within m d (x ∷ xs) h zero = let q = quot-within d x in omega (arith, q, h 0)
quots-within m d (x ∷ xs) h (suc k) = quots-within m d xs (λ j. h (suc j)) k

-- a number of a system is in range
pub within-written : (xs : List ℤ) (i : ℕ) (z : ℤ) → SFits w64 z → nat_abs z ≤ 1000000 → AllWithin (2 ^ 30) xs → AllWithin (2 ^ 30) (set xs i (to_z w64 (of_z w64 z)))
within-written xs i z f small all = within-set (2 ^ 30) xs i (to_z w64 (of_z w64 z)) (rw (to_z-of_z w64 z f) (omega arith)) all

pub within-drop : (m n : ℕ) (xs : List ℤ) → AllWithin m xs → AllWithin m (drop n xs)
within-drop m n xs h k = rw (get_or-drop n xs k (pos 0)) (h (n + k))
