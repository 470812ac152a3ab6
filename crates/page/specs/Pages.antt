-- What a page is: exactly one whole tree within the limits.
use Rattle.std.specs.Prelude.{◌≡◌, ℕ, ◌-◌, true, List, length, take, Some, Ok, Err, Option, Result, slice_index_or}
use Rattle.base.specs.declared.refusal.Refusal.{Refusal}
use Rattle.base.specs.declared.refusal.Refusal.TheVariants.{PageLength, PageKind, PageNumber, PageDepth}
use Rattle.base.specs.declared.refusal.Report.{Report}
use Rattle.base.specs.declared.refusal.Values.TheVariants.{One}
use Rattle.tree.specs.declared.node.Node.{Node}
use Rattle.tree.specs.declared.node.Node.TheVariants.{None as Blank}
use Rattle.tree.specs.Limits.{WithinLimits}
use Rattle.tree.specs.Questions.{all_nodes}
use Rattle.page.specs.declared.record.Flaw.{Flaw}
use Rattle.page.specs.declared.record.Flaw.TheVariants.{Length as FlawLength, Kind as FlawKind, Number as FlawNumber, Depth as FlawDepth}
use Rattle.page.specs.Records.{all_holdable, nodes_in, page_of}
use Rattle.page.specs.Readings.{Out, Whole, done, fault, reading, whole}

abbrev pub list_of : Whole → List Node
list_of (whole n p keeps t) = all_nodes n p keeps t

abbrev pub Fits : Whole → Type 0
Fits (whole n p keeps t) = WithinLimits n p keeps t

-- the page of a tree within the limits
abbrev pub IsPage : List ℕ → Whole → Type 0
IsPage bs w = Fits w × (bs ≡ page_of (list_of w))

abbrev pub refusal_of : Flaw → ℕ → Refusal
refusal_of FlawLength offset = PageLength offset
refusal_of FlawKind offset = PageKind offset
refusal_of FlawNumber offset = PageNumber offset
refusal_of FlawDepth offset = PageDepth offset

-- the same in numbers: 51 to 54, and the offset
abbrev pub number_of : Flaw → ℕ
number_of FlawLength = 51
number_of FlawKind = 52
number_of FlawNumber = 53
number_of FlawDepth = 54

abbrev pub flaw_report : Flaw → ℕ → Report
flaw_report f offset = record { number = number_of f; values = One offset }

-- the answer of a check: how many nodes, or why not and at which offset
abbrev pub checked_as : List ℕ → Out Whole → Result ℕ Refusal
checked_as bs (done w r) = Ok (length (list_of w))
checked_as bs (fault e r) = Err (refusal_of e (length bs - length r))

abbrev pub checked : List ℕ → Result ℕ Refusal
checked bs = checked_as bs (reading bs)

-- the same in numbers
abbrev pub check_report_as : List ℕ → Out Whole → Result ℕ Report
check_report_as bs (done w r) = Ok (length (list_of w))
check_report_as bs (fault e r) = Err (flaw_report e (length bs - length r))

abbrev pub check_report : List ℕ → Result ℕ Report
check_report bs = check_report_as bs (reading bs)

-- the page of one tree within the limits, which has k nodes, and of no other: of no other tree within the limits, and of no other nodes at all
pub record PageOfOne (bs : List ℕ) (k : ℕ) : Type 0 where
  pub tree : Whole
  pub page : IsPage bs tree
  pub counted : k ≡ length (list_of tree)
  pub one_tree : (v : Whole) → IsPage bs v → v ≡ tree
  pub one_list : (xs : List Node) → all_holdable xs ≡ true → bs ≡ page_of xs → xs ≡ list_of tree

-- an accepted page is the page of one tree within the limits, whose nodes the answer counts
abbrev pub Accepted : List ℕ → Result ℕ Refusal → Type 0
Accepted bs r = (k : ℕ) → r ≡ Ok k → PageOfOne bs k

-- the page of a tree within the limits is accepted, with its count of nodes
abbrev pub WrittenAccepted : List ℕ → Result ℕ Refusal → Type 0
WrittenAccepted bs r = (w : Whole) → IsPage bs w → r ≡ Ok (length (list_of w))

-- a refused page is the page of no tree within the limits
abbrev pub Refused : List ℕ → Result ℕ Refusal → Type 0
Refused bs r = (e : Refusal) → r ≡ Err e → (w : Whole) → IsPage bs w → ⊥

-- the page of a tree reads back as the tree's nodes
abbrev pub ReadsBack : List ℕ → ℕ → Node → Type 0
ReadsBack bs i node = (w : Whole) → IsPage bs w → node ≡ slice_index_or (list_of w) i Blank

-- the nodes of a tree within the limits, once written, are a page: it is accepted with their count, and reads back as them
abbrev pub WritesTree : List Node → List ℕ → Option ℕ → Type 0
WritesTree nodes bs r =
    (w : Whole) → Fits w → nodes ≡ list_of w → (k : ℕ) → r ≡ Some k → (checked (take k bs) ≡ Ok (length nodes)) × (nodes_in k (take k bs) ≡ nodes)
