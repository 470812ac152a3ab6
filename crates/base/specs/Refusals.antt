-- Each refusal, by its number and the values that go with it.
use Rattle.std.specs.Prelude.{ℕ, Ok, Err, Result}
use Rattle.base.specs.declared.refusal.Place.{Place}
use Rattle.base.specs.declared.refusal.Place.TheVariants.{Node, Test}
use Rattle.base.specs.declared.refusal.Met.{Met}
use Rattle.base.specs.declared.refusal.Values.{Values}
use Rattle.base.specs.declared.refusal.Values.TheVariants.{None, One, Two}
use Rattle.base.specs.declared.refusal.Report.{Report}
use Rattle.base.specs.declared.refusal.Refusal.{Refusal}
use Rattle.base.specs.declared.refusal.Refusal.TheVariants.{Counts, Number, NoParameterPoint, RowShape, NestShape, Listing, Fuel, WorkFull, StoreFull, FuelSpent, StoreClosed, Range, Cuts, NewParameters, Depth, NoTree, PointLength, PointNumber, OutsideKeep, BeyondBound, PageLength, PageKind, PageNumber, PageDepth}

-- what follows a check that may refuse
abbrev pub and_then : {A : Type 0} → Result (Unit {0}) Refusal → Result A Refusal → Result A Refusal
and_then (Ok _) r = r
and_then (Err e) r = Err e

-- 1 where it was met in a test, or in making the row that a test adds
abbrev pub flag : Place → ℕ
flag Node = 0
flag Test = 1

-- the steps made, and the flag
abbrev pub met : Met → Values
met m = Two m.steps (flag m.place)

abbrev pub report_of : Refusal → Report
report_of Counts = record { number = 11; values = None }
report_of (Number row column) = record { number = 12; values = Two row column }
report_of NoParameterPoint = record { number = 13; values = None }
report_of RowShape = record { number = 14; values = None }
report_of NestShape = record { number = 15; values = None }
report_of Listing = record { number = 16; values = None }
report_of Fuel = record { number = 21; values = None }
report_of (WorkFull m) = record { number = 22; values = met m }
report_of StoreFull = record { number = 23; values = None }
report_of (FuelSpent m) = record { number = 24; values = met m }
report_of StoreClosed = record { number = 25; values = None }
report_of (Range m) = record { number = 31; values = met m }
report_of (Cuts m) = record { number = 32; values = met m }
report_of (NewParameters m) = record { number = 33; values = met m }
report_of (Depth m) = record { number = 34; values = met m }
report_of NoTree = record { number = 41; values = None }
report_of PointLength = record { number = 42; values = None }
report_of PointNumber = record { number = 43; values = None }
report_of OutsideKeep = record { number = 44; values = None }
report_of BeyondBound = record { number = 45; values = None }
report_of (PageLength offset) = record { number = 51; values = One offset }
report_of (PageKind offset) = record { number = 52; values = One offset }
report_of (PageNumber offset) = record { number = 53; values = One offset }
report_of (PageDepth offset) = record { number = 54; values = One offset }

-- what a call answered, by the report of its refusal
abbrev pub reported : {A : Type 0} → Result A Refusal → Result A Report
reported (Ok a) = Ok a
reported (Err e) = Err (report_of e)

-- a refusal by a number with these values
abbrev pub refused : {A : Type 0} → ℕ → Values → Result A Report
refused number values = Err (record { number = number; values = values })
