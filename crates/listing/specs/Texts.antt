-- The text of an answer: a line for each node, for each unknown of a leaf, and for the steps.
use Rattle.std.specs.Prelude.{ℕ, List, [], ◌∷◌, ◌++◌, take, ℤ, codes, decimal}
use Rattle.std.specs.Fmt.{signed_decimal}
use Rattle.std.specs.List.{flat_map}
use Rattle.base.specs.declared.refusal.Refusal.{Refusal}
use Rattle.base.specs.Refusals.{report_of}
use Rattle.tree.specs.declared.node.Node.{Node}
use Rattle.tree.specs.declared.node.Node.TheVariants.{Head, Keep, Split, New, Leaf, None}

abbrev pub spaced : ℤ → List ℕ
spaced x = codes " " ++ signed_decimal x

-- the numbers, a space before each, and the end of the line
abbrev pub line : List ℤ → List ℕ
line xs = flat_map spaced xs ++ codes "\n"

abbrev pub point : List ℤ → List ℕ
point form = codes "at" ++ line form

-- a node of a tree with so many unknowns
abbrev pub node_text : ℕ → Node → List ℕ
node_text unknowns (Head n p) = codes "head " ++ (decimal n ++ (codes " " ++ (decimal p ++ codes "\n")))
node_text unknowns (Keep form) = codes "keep" ++ line form
node_text unknowns (Split form) = codes "if" ++ line form
node_text unknowns (New d form) = codes "new " ++ (signed_decimal d ++ line form)
node_text unknowns (Leaf forms) = codes "leaf\n" ++ flat_map point (take unknowns forms)
node_text unknowns None = codes "none\n"

-- the unknowns that the head of a tree names
abbrev pub unknowns_in : Node → ℕ
unknowns_in (Head n p) = n
unknowns_in (Keep form) = 0
unknowns_in (Split form) = 0
unknowns_in (New d form) = 0
unknowns_in (Leaf forms) = 0
unknowns_in None = 0

abbrev pub unknowns_of : List Node → ℕ
unknowns_of [] = 0
unknowns_of (node ∷ nodes) = unknowns_in node

-- a tree: its nodes
abbrev pub tree_lines : List Node → List ℕ
tree_lines nodes = flat_map (node_text (unknowns_of nodes)) nodes

abbrev pub steps_line : ℕ → List ℕ
steps_line steps = codes "steps " ++ (decimal steps ++ codes "\n")

-- a tree, then the steps
abbrev pub tree_text : List Node → ℕ → List ℕ
tree_text nodes steps = tree_lines nodes ++ steps_line steps

abbrev pub refusal_text : Refusal → List ℕ
refusal_text refusal = codes "refused " ++ (decimal (report_of refusal).number ++ codes "\n")
