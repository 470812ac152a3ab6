-- A solution tree as data, and the nodes that it is written in.
use Rattle.std.specs.Prelude.{◌-◌, List, [], ◌∷◌, ◌++◌, length, replicate, ℤ, pos}
use Rattle.tree.specs.declared.node.Node.{Node}
use Rattle.tree.specs.declared.node.Node.TheVariants.{Split, New, Leaf, None}

-- a question (the first branch is for where the form is at least 0), a new parameter floor(T / d), the least point, or that there is none
pub data Tree : Type 0 where
  split : List ℤ → Tree → Tree → Tree
  new : ℤ → List ℤ → Tree → Tree
  leaf : List (List ℤ) → Tree
  none : Tree

-- the forms of a leaf, and forms of zeros up to six
abbrev pub six_forms : List (List ℤ) → List (List ℤ)
six_forms forms = forms ++ replicate (6 - length forms) (replicate 10 (pos 0))

-- the nodes as they are made, a split before its two branches
abbrev pub nodes : Tree → List Node
nodes (split C t u) = Split C ∷ (nodes t ++ nodes u)
nodes (new d T t) = New d T ∷ nodes t
nodes (leaf forms) = Leaf (six_forms forms) ∷ []
nodes none = None ∷ []
