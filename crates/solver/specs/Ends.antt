-- What the work at a node comes to: the new parameters made on the way, and what is left to do then.
use Rattle.std.specs.Prelude.{◌≡◌, ℕ, zero, suc, ◌+◌, ◌≤◌, true, false, ◌&&◌, ◌⊎◌, List, [], ◌∷◌, ◌++◌, map, length, ℤ, Ok, Err, Result, slice_index_or}
use Rattle.base.specs.declared.refusal.Place.TheVariants.{Node}
use Rattle.base.specs.declared.refusal.Refusal.TheVariants.{Depth, Range}
use Rattle.base.specs.Numbers.{quot_by, within}
use Rattle.tableau.specs.Cuts.{CutNumbers, lower, upper}
use Rattle.tableau.specs.declared.table.Table.{Table}
use Rattle.tableau.specs.Tables.{no_row}
use Rattle.tree.specs.declared.node.Node.{Node as TreeNode}
use Rattle.tree.specs.declared.node.Node.TheVariants.{New}
use Rattle.tree.specs.Trees.{Tree, leaf, new, nodes, none}
use Rattle.solver.specs.declared.count.Count.{Count}
use Rattle.solver.specs.declared.count.Stopped.{Stopped}
use Rattle.solver.specs.declared.state.State.{State}
use Rattle.solver.specs.declared.settle.End.{End}
use Rattle.solver.specs.declared.settle.End.TheVariants.{Leaf, None, Split}
use Rattle.solver.specs.Bounds.{in_force}
use Rattle.solver.specs.Runs.{Limits, Outcome, Run, bar, return, ◌>>◌, stopped_at, write}
use Rattle.solver.specs.Rules.{Work, branches, node, settle, solving}
use Rattle.solver.specs.Ties.{Wrote, limits, noted_in, work_of}

-- d and T of each new parameter, the first made first
abbrev pub News : Type 0
News = List (ℤ × List ℤ)

abbrev pub new_nodes : News → List TreeNode
new_nodes [] = []
new_nodes (n ∷ ns) = New n.0 n.1 ∷ new_nodes ns

-- the tree below a new parameter, and below several
abbrev pub below_new : ℤ → List ℤ → Outcome Tree → Outcome Tree
below_new d T (Ok v) = Ok (new d T v.0, v.1)
below_new d T (Err e) = Err e

abbrev pub below_all : News → Outcome Tree → Outcome Tree
below_all [] o = o
below_all (n ∷ ns) o = below_new n.0 n.1 (below_all ns o)

-- what is left to do at the end of the work at a node
abbrev pub ended : (Work → List ℤ → Run Tree) → Table → End → Work → Run Tree
ended splits t Leaf s = write Node >> return (leaf (map (λ r. map (quot_by r.div) r.form) s.top))
ended splits t None s = write Node >> return none
ended splits t (Split h) s = splits s (slice_index_or t.rows h no_row).form

-- the work after a move, or a refusal
abbrev pub worked : State → Result Count Stopped → Outcome Work
worked x (Ok c) = Ok (work_of x, c)
worked x (Err e) = Err e

-- the nodes of these new parameters, and no others, were written, if the table was not overfull before
abbrev pub Noted : List TreeNode → Count → News → List TreeNode → Result Count Stopped → Type 0
Noted before from ns after (Ok c) = (from.nodes ≤ length before → Wrote before from.nodes (new_nodes ns) after × (c.nodes ≡ from.nodes + length ns) × (c.nodes ≤ length before))
Noted before from ns after (Err e) = Unit {0}

-- the node of a new parameter is written, and its two rows join the context; or the work table is full, or a row leaves the range
abbrev pub NewMade : State → CutNumbers → List TreeNode → Count → State → List TreeNode → Result Count Stopped → Type 0
NewMade x cut before c y after (Ok d) =
    (Ok d ≡ noted_in (length before) c) × ((within (lower cut (4 + x.context.made)) && within (upper cut (4 + x.context.made))) ≡ true)
    × (in_force y.context ≡ in_force x.context ++ (lower cut (4 + x.context.made) ∷ (upper cut (4 + x.context.made) ∷ [])))
    × (y.context.parameters ≡ x.context.parameters) × (y.context.made ≡ suc x.context.made) × Wrote before c.nodes (New cut.div cut.form ∷ []) after
NewMade x cut before c y after (Err e) =
    (Err e ≡ noted_in (length before) c) ⊎ ((d : Count) × (Ok d ≡ noted_in (length before) c) × ((within (lower cut (4 + x.context.made)) && within (upper cut (4 + x.context.made))) ≡ false) × (e ≡ stopped_at Range Node d))

-- what is left to do once the node is settled
abbrev pub finishing : (Work → List ℤ → Run Tree) → State → Limits → Result (End × Count) Stopped → Outcome Tree
finishing splits x l (Ok v) = ended splits x.table v.0 (work_of x) l v.1
finishing splits x l (Err e) = Err e

abbrev pub count_of : Result (End × Count) Stopped → Result Count Stopped
count_of (Ok v) = Ok v.1
count_of (Err e) = Err e

-- the work at a node goes from one state to another: below the new parameters noted on the way, the rules have left to do what the end says
abbrev pub Settled : ℕ → State → List TreeNode → Count → State → List TreeNode → Result (End × Count) Stopped → Type 0
Settled fuel x before from y after r =
    (news : News) × Noted before from news after (count_of r)
    × ((splits : Work → List ℤ → Run Tree) → settle (solving splits) 100_001 (work_of x) (limits fuel (length before)) from ≡ below_all news (finishing splits y (limits fuel (length before)) r))

-- what a split does where so many splits may still stand one below the other
abbrev pub splitting : ℕ → Work → List ℤ → Run Tree
splitting zero s C = bar Depth Node
splitting (suc left) s C = branches (node left) s C

-- the tree that the rules make is made: its nodes, and no others, were written, if the table was not overfull before; or the same refusal
abbrev pub Planted : List TreeNode → Count → List TreeNode → Result Count Stopped → Outcome Tree → Type 0
Planted before from after (Ok c) o =
    (t : Tree) × (o ≡ Ok (t, c)) × (from.nodes ≤ length before → Wrote before from.nodes (nodes t) after × (c.nodes ≡ from.nodes + length (nodes t)) × (c.nodes ≤ length before))
Planted before from after (Err e) o = o ≡ Err e

-- the same for a whole run, whose nodes stand from the first place on, the given ones before those of the tree
abbrev pub Rooted : List TreeNode → List TreeNode → List TreeNode → Result Count Stopped → Outcome Tree → Type 0
Rooted before ns after (Ok c) o = (t : Tree) × (o ≡ Ok (t, c)) × Wrote before 0 (ns ++ nodes t) after × (length (ns ++ nodes t) ≤ length before)
Rooted before ns after (Err e) o = o ≡ Err e
