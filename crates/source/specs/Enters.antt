-- What giving a system one more row answers, and the system that it leaves.
use Rattle.std.specs.Prelude.{◌+◌, cond, List, [], ◌∷◌, ◌++◌, length, ℤ, is_ok, Result}
use Rattle.base.specs.declared.refusal.Refusal.{Refusal}
use Rattle.base.specs.declared.refusal.Report.{Report}
use Rattle.source.specs.Systems.{System}
use Rattle.source.specs.Limits.{row_answer, row_report}

-- a row has a number for each unknown and parameter, and one more; there are at most 16
abbrev pub enter_answer : System → List ℤ → Result (Unit {0}) Refusal
enter_answer S row = row_answer (S.n + S.p + 1) (length S.rows) 16 row

abbrev pub enter_report : System → List ℤ → Result (Unit {0}) Report
enter_report S row = row_report (S.n + S.p + 1) (length S.rows) 16 row

-- a context row has a number for each parameter, and one more; there are at most 8
abbrev pub confine_answer : System → List ℤ → Result (Unit {0}) Refusal
confine_answer S row = row_answer (S.p + 1) (length S.context) 8 row

abbrev pub confine_report : System → List ℤ → Result (Unit {0}) Report
confine_report S row = row_report (S.p + 1) (length S.context) 8 row

abbrev pub with_row : System → List ℤ → System
with_row S row = record { n = S.n; p = S.p; rows = S.rows ++ row ∷ []; context = S.context }

abbrev pub with_context_row : System → List ℤ → System
with_context_row S row = record { n = S.n; p = S.p; rows = S.rows; context = S.context ++ row ∷ [] }

-- the row joins if it is not refused; a refusal alters nothing
abbrev pub entered : System → List ℤ → System
entered S row = cond (is_ok (enter_answer S row)) (with_row S row) S

abbrev pub confined : System → List ℤ → System
confined S row = cond (is_ok (confine_answer S row)) (with_context_row S row) S
