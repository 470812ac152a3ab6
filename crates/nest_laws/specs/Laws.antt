-- What holds of every nest.
use Rattle.std.specs.Prelude.{◌≡◌, ℕ, ◌≤◌, List, map, length, ℤ, pos, Some, Ok, slice_index}
use Rattle.source.specs.Systems.{MeetsContext, Point, Precedes}
use Rattle.tree.specs.Answers.{answer_at}
use Rattle.tree.specs.Finds.{six_numbers}
use Rattle.tree.specs.Trees.{Tree}
use Rattle.solver.specs.declared.count.Count.{Count}
use Rattle.solver_laws.specs.Meaning.{Least}
use Rattle.solver.specs.Solves.{solved, system_fits}
use Rattle.nest.specs.Backs.{turned_back}
use Rattle.nest.specs.Loops.{Loops}
use Rattle.nest.specs.Tables.{system_of}
use Rattle.nest_laws.specs.Postings.{Latest, LatestAnswer, LatestOf, Later, Posting, StandsFor}

-- At the parameters z the points of the system and the postings of the loops correspond one to one, and a point precedes
-- another exactly if its posting comes later.
pub record Corresponds (L : Loops) (z : List ℕ) : Type 0 where
  pub counters_of : (x : List ℕ) → Point (system_of L) z x → (c : List ℕ) × StandsFor L z x c
  pub unknowns_of : (c : List ℕ) → Posting L z c → (x : List ℕ) × StandsFor L z x c
  pub one_posting : (x c d : List ℕ) → StandsFor L z x c → StandsFor L z x d → c ≡ d
  pub one_point : (x y c : List ℕ) → StandsFor L z x c → StandsFor L z y c → x ≡ y
  pub posts : (x c : List ℕ) → StandsFor L z x c → Point (system_of L) z x → Posting L z c
  pub solves : (x c : List ℕ) → StandsFor L z x c → Posting L z c → Point (system_of L) z x
  pub later : (x y c d : List ℕ) → StandsFor L z x c → StandsFor L z y d → Precedes x y → Later c d
  pub precedes : (x y c d : List ℕ) → StandsFor L z x c → StandsFor L z y d → Later c d → Precedes x y

-- So the least point is the latest posting, and there is no point exactly if the cell is never posted to.
pub record LeastIsLatest (L : Loops) (z : List ℕ) : Type 0 where
  pub latest : (x c : List ℕ) → StandsFor L z x c → Least (system_of L) z x → LatestOf L z c
  pub least : (x c : List ℕ) → StandsFor L z x c → LatestOf L z c → Least (system_of L) z x
  pub no_posting : ((x : List ℕ) → Point (system_of L) z x → ⊥) → (c : List ℕ) → Posting L z c → ⊥
  pub no_point : ((c : List ℕ) → Posting L z c → ⊥) → (x : List ℕ) → Point (system_of L) z x → ⊥

abbrev pub PostingsCorrespond : Loops → Type 0
PostingsCorrespond L = (z : List ℕ) → length z ≡ L.p → Corresponds L z × LeastIsLatest L z

-- Whatever tree a solve of the nest answers gives the latest posting at every parameter point of its context; or it says none, and the
-- cell is never posted to there.
abbrev pub LatestPosting : Loops → Type 0
LatestPosting L =
    (fuel : ℤ) (room : ℕ) (t : Tree) (c : Count) → solved (system_of L) fuel room ≡ Ok (t, c) → (z : List ℕ) → MeetsContext (system_of L) z → LatestAnswer L z (answer_at t z)

-- a nest has at most 12 rows, and the check of counts and numbers with which each solve begins refuses nothing
abbrev pub NestFits : Loops → Type 0
NestFits L = (length (system_of L).rows ≤ 12) × (system_fits (system_of L) ≡ Ok tt)

-- no parameter is above 1,000,000
abbrev pub Askable : List ℕ → Type 0
Askable z = (k : ℕ) → slice_index z k ≤ 1000000

-- back, given these values and zeros up to six, is not refused and leaves the counters
abbrev pub TurnedBack : Loops → List ℕ → List ℤ → List ℕ → Type 0
TurnedBack L z values counters = turned_back L (map pos z) (six_numbers values) ≡ Ok (six_numbers (map pos counters))

-- back, given a point of the system, answers the posting that the point stands for
abbrev pub BackPosts : Loops → Type 0
BackPosts L =
    (z x : List ℕ) → length z ≡ L.p → Askable z → Point (system_of L) z x →
    (c : List ℕ) × (StandsFor L z x c × (Posting L z c × TurnedBack L z (map pos x) c))

-- Whatever tree a solve of the nest answers, at parameters of the context that can be asked back turns the values that it gives into the
-- counters of the latest posting.
abbrev pub LatestTurnedBack : Loops → Type 0
LatestTurnedBack L =
    (fuel : ℤ) (room : ℕ) (t : Tree) (c : Count) → solved (system_of L) fuel room ≡ Ok (t, c) → (z : List ℕ) → MeetsContext (system_of L) z → Askable z →
    (values : List ℤ) → answer_at t z ≡ Some values → (latest : Latest L z values) × TurnedBack L z values latest.counters
