-- The counts of a system, and what making them answers.
use Rattle.std.specs.Prelude.{ℕ, ◌+◌, cond, Ok, Err, Result}
use Rattle.base.specs.declared.refusal.Refusal.{Refusal}
use Rattle.base.specs.declared.refusal.Refusal.TheVariants.{Counts as CountsRefused}
use Rattle.source.specs.Limits.{counts_fit}
use Rattle.source.specs.declared.counts.Counts.{Counts}

-- n unknowns, p parameters, m rows and k context rows, however many
pub record Sizes : Type 0 where
  pub n : ℕ
  pub p : ℕ
  pub m : ℕ
  pub k : ℕ

abbrev pub sizes_of : Counts → Sizes
sizes_of c = record { n = c.n; p = c.p; m = c.m; k = c.k }

abbrev pub counted : Result Counts Refusal → Result Sizes Refusal
counted (Ok c) = Ok (sizes_of c)
counted (Err e) = Err e

abbrev pub sized : ℕ → ℕ → ℕ → ℕ → Result Sizes Refusal
sized n p m k = cond (counts_fit n p m k) (Ok (record { n = n; p = p; m = m; k = k })) (Err CountsRefused)

-- a row has a number for each unknown and parameter, and one more
abbrev pub row_length : Sizes → ℕ
row_length c = c.n + c.p + 1

-- a context row has a number for each parameter, and one more
abbrev pub context_row_length : Sizes → ℕ
context_row_length c = c.p + 1
