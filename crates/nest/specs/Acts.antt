-- What a nest means, what giving it a bound or a condition answers, and the nest that is left.
use Rattle.std.specs.Prelude.{ℕ, ◌+◌, cond, List, [], ◌∷◌, ◌++◌, length, replicate, ℤ, is_ok, Ok, Err, Result, slice_set}
use Rattle.base.specs.declared.refusal.Refusal.{Refusal}
use Rattle.base.specs.declared.refusal.Refusal.TheVariants.{Counts}
use Rattle.base.specs.declared.refusal.Report.{Report}
use Rattle.base.specs.declared.refusal.Values.TheVariants.{None}
use Rattle.base.specs.Refusals.{refused}
use Rattle.source.specs.Enters.{confine_answer as confine_system, confine_report as report_system}
use Rattle.source.specs.Limits.{counts_fit}
use Rattle.base.specs.Numbers.{zeros}
use Rattle.nest.specs.Limits.{given_answer, given_report}
use Rattle.nest.specs.Loops.{Loops, loops_of}
use Rattle.nest.specs.Tables.{system_of}
use Rattle.nest.specs.declared.nest.Nest.{Nest}

abbrev pub nest_of : Nest → Loops
nest_of s = loops_of s.kept s.bounds

abbrev pub meant_by : Result Nest Refusal → Result Loops Refusal
meant_by (Ok s) = Ok (nest_of s)
meant_by (Err e) = Err e

-- each loop runs from 0 to 0, and there is no condition
abbrev pub plain : ℕ → ℕ → Loops
plain n p = record { n = n; p = p; bounds = replicate n (zeros (p + 1)); cells = []; context = [] }

abbrev pub new_answer : ℕ → ℕ → Result Loops Refusal
new_answer n p = cond (counts_fit n p 0 0) (Ok (plain n p)) (Err Counts)

-- the same in numbers: 11
abbrev pub new_report : ℕ → ℕ → Result Loops Report
new_report n p = cond (counts_fit n p 0 0) (Ok (plain n p)) (refused 11 None)

-- a bound has a number for each parameter, and one more; it is for one of the loops
abbrev pub bound_answer : Loops → ℕ → List ℤ → Result (Unit {0}) Refusal
bound_answer L i numbers = given_answer (L.p + 1) i L.n numbers

abbrev pub bound_report : Loops → ℕ → List ℤ → Result (Unit {0}) Report
bound_report L i numbers = given_report (L.p + 1) i L.n numbers

-- a cell condition has a number for each counter and parameter, and one more; there are at most 3
abbrev pub cell_answer : Loops → List ℤ → Result (Unit {0}) Refusal
cell_answer L numbers = given_answer (L.n + L.p + 1) (length L.cells) 3 numbers

abbrev pub cell_report : Loops → List ℤ → Result (Unit {0}) Report
cell_report L numbers = given_report (L.n + L.p + 1) (length L.cells) 3 numbers

-- a context row is taken as a row source that means the same system takes it
abbrev pub confine_answer : Loops → List ℤ → Result (Unit {0}) Refusal
confine_answer L row = confine_system (system_of L) row

abbrev pub confine_report : Loops → List ℤ → Result (Unit {0}) Report
confine_report L row = report_system (system_of L) row

-- what is given joins if it is not refused; a refusal alters nothing
abbrev pub bounded : Loops → ℕ → List ℤ → Loops
bounded L i numbers =
    cond (is_ok (bound_answer L i numbers)) (record { n = L.n; p = L.p; bounds = slice_set L.bounds i numbers; cells = L.cells; context = L.context }) L

abbrev pub with_cell : Loops → List ℤ → Loops
with_cell L numbers =
    cond (is_ok (cell_answer L numbers)) (record { n = L.n; p = L.p; bounds = L.bounds; cells = L.cells ++ numbers ∷ []; context = L.context }) L

abbrev pub confined : Loops → List ℤ → Loops
confined L row =
    cond (is_ok (confine_answer L row)) (record { n = L.n; p = L.p; bounds = L.bounds; cells = L.cells; context = L.context ++ row ∷ [] }) L
