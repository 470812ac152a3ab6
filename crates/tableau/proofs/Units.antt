-- The rows that a table starts from.
use Rattle.std.proofs.Common.{◌≡◌, ℕ, zero, suc, length, refl, ap}
use Rattle.tableau.specs.Tables.{unit_rows}

pub length-units : (h k : ℕ) → length (unit_rows h k) ≡ k
length-units h zero = refl
length-units h (suc k) = ap suc (length-units (suc h) k)
