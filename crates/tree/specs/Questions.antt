-- A question to a tree, and that find on the tree's nodes answers it.
use Rattle.std.specs.Prelude.{◌≡◌, ℕ, suc, Bool, true, cond, ◌&&◌, List, [], ◌∷◌, ◌++◌, map, length, ℤ, pos, Ok, Err, Option, Result, int_le, unsigned_abs}
use Rattle.base.specs.declared.refusal.Refusal.{Refusal}
use Rattle.base.specs.declared.refusal.Refusal.TheVariants.{OutsideKeep}
use Rattle.base.specs.Forms.{value_at}
use Rattle.base.specs.Refusals.{and_then}
use Rattle.tree.specs.declared.node.Node.{Node}
use Rattle.tree.specs.declared.node.Node.TheVariants.{Head, Keep}
use Rattle.tree.specs.Trees.{Tree, split, new, leaf, none, nodes}
use Rattle.tree.specs.Answers.{answer_at, setting}
use Rattle.tree.specs.Limits.{WithinLimits}
use Rattle.tree.specs.Finds.{found_in, head_fits, point_answer, proper}

-- a whole tree as its list of nodes: the head, the keeps, then the nodes
abbrev pub all_nodes : ℕ → ℕ → List (List ℤ) → Tree → List Node
all_nodes n p keeps t = Head n p ∷ (map Keep keeps ++ nodes t)

-- each keep is at least 0 there
abbrev pub keeps_hold : List (List ℤ) → List ℤ → Bool
keeps_hold [] ρ = true
keeps_hold (C ∷ Cs) ρ = int_le (pos 0) (value_at C ρ) && keeps_hold Cs ρ

-- the answer of a tree with p parameters to a point: p numbers from 0 to 1,000,000 within the keeps get what the tree answers
abbrev pub asked : ℕ → List (List ℤ) → Tree → List ℤ → Result (Option (List ℤ)) Refusal
asked p keeps t point =
    let z = map unsigned_abs point in
    and_then (point_answer p point) (cond (keeps_hold keeps (setting z)) (Ok (answer_at t z)) (Err OutsideKeep))

-- a tree that a walk can go through, for n unknowns and with `made` new parameters above it: each leaf has n forms, each new parameter is proper
abbrev pub WellMade : ℕ → ℕ → Tree → Type 0
WellMade n made (split C t u) = WellMade n made t × WellMade n made u
WellMade n made (new d T t) = (proper made d T ≡ true) × WellMade n (suc made) t
WellMade n made (leaf forms) = length forms ≡ n
WellMade n made none = Unit {0}

-- such a tree, below a head of 1 to 6 unknowns and at most 4 parameters and any keeps, asked by its nodes, answers as the tree does
abbrev pub AnswersAsTree : List Node → List ℤ → Type 0
AnswersAsTree list point = (n p : ℕ) (keeps : List (List ℤ)) (t : Tree) → head_fits n p ≡ true → WellMade n 0 t → list ≡ all_nodes n p keeps t → found_in list point ≡ asked p keeps t point

-- and so does every tree within the limits
abbrev pub AnswersWithinLimits : List Node → List ℤ → Type 0
AnswersWithinLimits list point = (n p : ℕ) (keeps : List (List ℤ)) (t : Tree) → WithinLimits n p keeps t → list ≡ all_nodes n p keeps t → found_in list point ≡ asked p keeps t point
