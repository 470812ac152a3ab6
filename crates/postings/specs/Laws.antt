-- What holds of a question for a nest's latest posting, put to a sheet on which the nest stands.
use Rattle.std.specs.Prelude.{◌≡◌, ◌≢◌, ℕ, ◌↔◌, List, map, ℤ, pos, Some, Ok, IsOk}
use Rattle.base.specs.Numbers.{zeros}
use Rattle.tree.specs.declared.walk.Found.TheVariants.{Point as APosting, None as NoPosting}
use Rattle.tree.specs.Finds.{six_numbers}
use Rattle.store.specs.Stores.{Meaning}
use Rattle.nest.specs.Loops.{Loops}
use Rattle.nest.specs.Tables.{system_of}
use Rattle.nest_laws.specs.Postings.{LatestOf, Posting}
use Rattle.sheet.specs.Arrangements.{LeadsTo}
use Rattle.sheet.specs.Events.{Event, Find, standing}
use Rattle.sheet.specs.Laws.{RefusedRight}

-- the place of six has the counters of the latest posting at the parameters asked, zeros after them
pub record NamesLatest (L : Loops) (point place : List ℤ) : Type 0 where
  pub parameters : List ℕ
  pub counters : List ℕ
  pub asked : point ≡ map pos parameters
  pub named : place ≡ six_numbers (map pos counters)
  pub latest : LatestOf L parameters counters

-- the loops never post to the cell at the parameters z
abbrev pub NeverPosted : Loops → List ℕ → Type 0
NeverPosted L z = (c : List ℕ) → ¬ Posting L z c

-- not refused, it says none exactly when the cell is never posted to at the parameters asked
abbrev pub NoneRight : Loops → Find → Type 0
NoneRight L q = IsOk q.answer → (z : List ℕ) × ((q.point ≡ map pos z) × ((q.answer ≡ Ok NoPosting) ↔ NeverPosted L z))

-- A question by its point, its answer and the place of six as it was left: a posting that it names is the latest; it says none exactly
-- when there is none; it is refused exactly when the rules refuse a find in the nest's system, by 42, 43 or 44; and where it names no
-- posting the place holds zeros.
pub record LatestRight (L : Loops) (q : Find) : Type 0 where
  pub named : q.answer ≡ Ok APosting → NamesLatest L q.point q.place
  pub none : NoneRight L q
  pub refused : RefusedRight (Some (system_of L)) q
  pub otherwise : q.answer ≢ Ok APosting → q.place ≡ zeros 6

-- the nest stands where the store means m: some arrangement leads there, and the nest's system is the one that stands after it
pub record Stands (L : Loops) (m : Meaning) : Type 0 where
  pub events : List Event
  pub leads : LeadsTo events m
  pub stands : standing events ≡ Some (system_of L)

-- where the nest stands, after whatever arrangement, the question is answered right
abbrev pub NextLatest : Meaning → Loops → Find → Type 0
NextLatest m L q = Stands L m → LatestRight L q
