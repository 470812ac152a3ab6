-- What a row source means, and what making one answers.
use Rattle.std.specs.Prelude.{ℕ, cond, List, [], ◌∷◌, ◌++◌, map, take, ℤ, is_ok, Ok, Err, Result}
use Rattle.base.specs.declared.refusal.Refusal.{Refusal}
use Rattle.base.specs.declared.refusal.Refusal.TheVariants.{Counts}
use Rattle.base.specs.declared.refusal.Report.{Report}
use Rattle.base.specs.declared.refusal.Values.TheVariants.{None}
use Rattle.base.specs.Refusals.{refused}
use Rattle.source.specs.Systems.{System}
use Rattle.source.specs.Limits.{counts_fit}
use Rattle.source.specs.declared.rows.table.Rows.{Rows}
use Rattle.source.specs.declared.rows.RowSource.{RowSource}

-- the rows given so far, each as wide as it was given
abbrev pub given : {W M : ℕ} → Rows W M → List (List ℤ)
given r = map (take r.width) (take r.count r.numbers)

-- a row joins the others if it is not refused
abbrev pub joined : List (List ℤ) → List ℤ → Result (Unit {0}) Refusal → List (List ℤ)
joined rows row answer = cond (is_ok answer) (rows ++ row ∷ []) rows

abbrev pub meaning_of : RowSource → System
meaning_of s = record { n = s.n; p = s.p; rows = given s.rows; context = given s.context }

abbrev pub meant : Result RowSource Refusal → Result System Refusal
meant (Ok s) = Ok (meaning_of s)
meant (Err e) = Err e

-- a system with no rows
abbrev pub bare : ℕ → ℕ → System
bare n p = record { n = n; p = p; rows = []; context = [] }

abbrev pub new_answer : ℕ → ℕ → Result System Refusal
new_answer n p = cond (counts_fit n p 0 0) (Ok (bare n p)) (Err Counts)

-- the same in numbers: 11
abbrev pub new_report : ℕ → ℕ → Result System Report
new_report n p = cond (counts_fit n p 0 0) (Ok (bare n p)) (refused 11 None)
