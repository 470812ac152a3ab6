-- What a store stands for, and what each call answers and leaves.
use Rattle.std.specs.Prelude.{ℕ, ◌-◌, Bool, true, false, cond, List, [], ◌∷◌, ◌++◌, Ok, Err, Result, nat_le, nat_lt, slice_index_or}
use Rattle.std.specs.List.{sum_by}
use Rattle.base.specs.declared.refusal.Refusal.{Refusal}
use Rattle.base.specs.declared.refusal.Refusal.TheVariants.{StoreFull, StoreClosed}
use Rattle.base.specs.declared.refusal.Report.{Report}
use Rattle.base.specs.declared.refusal.Values.TheVariants.{None as No}
use Rattle.base.specs.Refusals.{refused}
use Rattle.tree.specs.Kinds.{kind_of}
use Rattle.tree.specs.declared.node.Node.{Node}
use Rattle.tree.specs.declared.node.Node.TheVariants.{None}
use Rattle.tree.specs.declared.kind.Kind.{Kind}
use Rattle.tree.specs.declared.kind.Kind.TheVariants as kind

-- how many units a node of each kind costs
pub record Costs : Type 0 where
  pub of_head : ℕ
  pub of_keep : ℕ
  pub of_split : ℕ
  pub of_new : ℕ
  pub of_leaf : ℕ
  pub of_none : ℕ

abbrev pub cost_of : Costs → Kind → ℕ
cost_of costs kind.Head = costs.of_head
cost_of costs kind.Keep = costs.of_keep
cost_of costs kind.Split = costs.of_split
cost_of costs kind.New = costs.of_new
cost_of costs kind.Leaf = costs.of_leaf
cost_of costs kind.None = costs.of_none

-- the nodes that it lists, whether it is open, its capacity in units and what a node of each kind costs
pub record Meaning : Type 0 where
  pub nodes : List Node
  pub is_open : Bool
  pub capacity : ℕ
  pub costs : Costs

-- closed and empty
abbrev pub fresh : ℕ → Costs → Meaning
fresh n costs = record { nodes = []; is_open = false; capacity = n; costs = costs }

-- with other nodes, open or closed; capacity and costs stay
abbrev pub holding : Meaning → List Node → Bool → Meaning
holding m xs b = record { nodes = xs; is_open = b; capacity = m.capacity; costs = m.costs }

-- the units that a list of nodes costs
abbrev pub used : Costs → List Node → ℕ
used costs xs = sum_by (λ x. cost_of costs (kind_of x)) xs

abbrev pub free : Meaning → ℕ
free m = m.capacity - used m.costs m.nodes

-- whether a gate lets in, by whether it is open
abbrev pub passed : Bool → Result (Unit {0}) Refusal
passed b = cond b (Ok tt) (Err StoreClosed)

-- the same in numbers
abbrev pub passed_report : Bool → Result (Unit {0}) Report
passed_report b = cond b (Ok tt) (refused 25 No)

-- what is left by a call: a refusal alters nothing
abbrev pub unless_refused : Result (Unit {0}) Refusal → Meaning → Meaning → Meaning
unless_refused (Ok _) after before = after
unless_refused (Err _) after before = before

-- begin empties and opens, whatever was there
abbrev pub begun : Meaning → Meaning
begun m = holding m [] true

-- put: whether a node is accepted or refused, and the node listed after the others
abbrev pub put_answer : Meaning → Node → Result (Unit {0}) Refusal
put_answer m x = cond m.is_open (cond (nat_lt (free m) (cost_of m.costs (kind_of x))) (Err StoreFull) (Ok tt)) (Err StoreClosed)

abbrev pub after_put : Meaning → Node → Meaning
after_put m x = unless_refused (put_answer m x) (holding m (m.nodes ++ (x ∷ [])) true) m

-- finish and scrap: both close, and scrap empties as well
abbrev pub close_answer : Meaning → Result (Unit {0}) Refusal
close_answer m = passed m.is_open

abbrev pub after_finish : Meaning → Meaning
after_finish m = unless_refused (close_answer m) (holding m m.nodes false) m

abbrev pub after_scrap : Meaning → Meaning
after_scrap m = unless_refused (close_answer m) (holding m [] false) m

-- the node at a place, none past the list
abbrev pub node_at : Meaning → ℕ → Node
node_at m i = slice_index_or m.nodes i None

-- install: a whole tree takes the place of what was there, or is refused because it costs more than the capacity
abbrev pub install_answer : Meaning → List Node → Result (Unit {0}) Refusal
install_answer m xs = cond (nat_le (used m.costs xs) m.capacity) (Ok tt) (Err StoreFull)

-- the same in numbers: 23
abbrev pub install_report : Meaning → List Node → Result (Unit {0}) Report
install_report m xs = cond (nat_le (used m.costs xs) m.capacity) (Ok tt) (refused 23 No)

abbrev pub installed : Meaning → List Node → Meaning
installed m xs = unless_refused (install_answer m xs) (holding m xs false) m
