use Rattle.std.proofs.Common.{◌≡◌, ℕ, drop}
use Rattle.tableau.specs.Tables.{in_use}
use Rattle.solver.specs.Bounds.{SameContext, ScanBelow, Stepped}
use Rattle.solver.specs.Rules.{Work, scan, sign_in}
use Rattle.solver.specs.Ties.{KnownAs, limits}
use Rattle.solver.proofs.Signing.{NotYet, remembered}
use Rattle.solver.proofs.sign.scan_rows.Given as goal

-- what is left of the rows gives the answer, with what was found before
abbrev pub invariant-loop-h : goal.invariant-loop-h
invariant-loop-h l =
    SameContext l.initial.ctx l.ctx × ScanBelow l.h l.found × Stepped l.fuel l.initial.count l.count × NotYet l.found
    × ((s : Work) (n : ℕ) → KnownAs l.initial.ctx s → scan (sign_in s) (in_use l.t) (limits l.fuel n) l.initial.count ≡ remembered l.t.rows l.found (scan (sign_in s) (drop l.h (in_use l.t)) (limits l.fuel n) l.count))
    × (l.count.nodes ≡ l.initial.count.nodes)
