-- Searches through the unknowns' rows.
use Rattle.std.proofs.Common.{◌≡◌, ℕ, ◌+◌, ◌<◌, Bool, true, false, cond, not, List, [], ◌∷◌, length, get_or, ℤ, Some, refl, sym, ap, ◌∙◌, subst, arith}
use lib.Signed.{lt_z}
use Rattle.std.specs.List.{position_from}
use Rattle.std.proofs.lemmas.List.{get_or_default, get_or-take, length-take}
use Rattle.std.proofs.lemmas.Int.{ints}
use Rattle.tableau.specs.declared.table.Row.{Row}
use Rattle.tableau.specs.declared.table.Table.{Table}
use Rattle.tableau.specs.Cuts.{first_fraction, whole}
use Rattle.tableau.specs.Rows.{Sound}
use Rattle.tableau.specs.Tables.{Ready, no_row, top}
use Rattle.tableau.specs.Columns.{first_less}

flip : {Y : Type 0} (b : Bool) (x y : Y) → cond (not b) x y ≡ cond b y x
flip true x y = refl
flip false x y = refl

-- the first row that is not whole, as `position` looks for it
pub first_fraction-is : (k : ℕ) (rs : List Row) → position_from (λ r. not (whole r)) k rs ≡ first_fraction k rs
first_fraction-is k [] = refl
first_fraction-is k (r ∷ rs) = flip (whole r) (Some k) _ ∙ ap (λ o. cond (whole r) o (Some k)) (first_fraction-is (k + 1) rs)

-- each of the unknowns' rows is sound
pub top-sound : (t : Table) → Ready t → (x : Row) (k : ℕ) → k < length (top t) → x ≡ get_or (top t) k x → Sound x
top-sound t ready x k lt e =
    let l : k < t.unknowns = omega (arith, length-take t.unknowns t.rows) in
    subst Sound (sym (e ∙ get_or-take t.unknowns t.rows k x l ∙ get_or_default t.rows k x no_row (omega (arith, length-take t.unknowns t.rows)))) (ready.sound k (omega (arith, ready.inside)))

pub less-differ : (x y : ℤ) (rest : Bool) → (x ≡ y → ⊥) → first_less x y rest ≡ lt_z x y
less-differ x y rest ne = grind (arith, ints)

pub less-same : (x y : ℤ) (rest : Bool) → x ≡ y → first_less x y rest ≡ rest
less-same x y rest e = grind (arith, ints)
