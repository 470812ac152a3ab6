-- The records of a page: one byte of kind, then a body whose length the kind fixes.
use Rattle.std.specs.Prelude.{ℕ, zero, suc, ◌+◌, ◌^◌, Bool, true, cond, ◌&&◌, List, [], ◌∷◌, ◌++◌, length, take, drop, ℤ, Some, None, Option, ◌==◌, nat_le, nat_lt, slice_index}
use Rattle.std.specs.Int.Signed.{mag}
use Rattle.std.specs.List.{flat_map, list_all, sum_by}
use Rattle.tree.specs.declared.node.Node.{Node}
use Rattle.tree.specs.declared.node.Node.TheVariants.{Head, Keep, Split, New, Leaf, None as Blank}
use Rattle.tree.specs.Kinds.{kind_of as kind_of_node}
use Rattle.page.specs.declared.record.Flaw.{Flaw}
use Rattle.page.specs.declared.record.Flaw.TheVariants.{Length as FlawLength, Kind as FlawKind}
use Rattle.page.specs.Words.{all_bytes, bytes, forms, forms_bytes, word, words}
pub use Rattle.tree.specs.declared.kind.Kind.{Kind}
pub use Rattle.tree.specs.declared.kind.Kind.TheVariants.{Head as head, Keep as keep, Split as split, New as new, Leaf as leaf, None as none}
pub use Rattle.tree.specs.Kinds.{kind_of_byte as kind_of}

-- how many bytes the body of a kind has
abbrev pub body_length : Kind → ℕ
body_length head = 2
body_length keep = 40
body_length split = 40
body_length new = 44
body_length leaf = 240
body_length none = 0

-- and its record
abbrev pub record_length : Kind → ℕ
record_length kind = suc (body_length kind)

-- a node as its record
abbrev pub record_of : Node → List ℕ
record_of (Head n p) = 1 ∷ n ∷ p ∷ []
record_of (Keep C) = 2 ∷ all_bytes C
record_of (Split C) = 3 ∷ all_bytes C
record_of (New d T) = 4 ∷ (bytes d ++ all_bytes T)
record_of (Leaf Cs) = 5 ∷ forms_bytes Cs
record_of Blank = 6 ∷ []

-- a list of nodes as a page
abbrev pub page_of : List Node → List ℕ
page_of nodes = flat_map record_of nodes

-- what stands first: a record, by its kind and body, and what comes after it; or why there is none
pub data Opened : Type 0 where
  one : Kind → List ℕ → List ℕ → Opened
  flawed : Flaw → Opened

abbrev pub opened_as : Option Kind → List ℕ → Opened
opened_as None bs = flawed FlawKind
opened_as (Some k) bs = cond (nat_lt (length bs) (body_length k)) (flawed FlawLength) (one k (take (body_length k) bs) (drop (body_length k) bs))

abbrev pub opened : List ℕ → Opened
opened [] = flawed FlawLength
opened (b ∷ bs) = opened_as (kind_of b) bs

-- the node of a record
abbrev pub node_of : Kind → List ℕ → Node
node_of head b = Head (slice_index b 0) (slice_index b 1)
node_of keep b = Keep (words 10 b)
node_of split b = Split (words 10 b)
node_of new b = New (word b) (words 10 (drop 4 b))
node_of leaf b = Leaf (forms 6 b)
node_of none b = Blank

-- the nodes of the records that stand one after the other, at most f of them
abbrev pub nodes_from : (List ℕ → List Node) → Opened → List Node
nodes_from self (one k b r) = node_of k b ∷ self r
nodes_from self (flawed e) = []

abbrev pub nodes_in : ℕ → List ℕ → List Node
nodes_in zero bs = []
nodes_in (suc f) bs = nodes_from (nodes_in f) (opened bs)

-- how many bytes the record of a node takes
abbrev pub cost_of : Node → ℕ
cost_of node = record_length (kind_of_node node)

-- and the records of a list of nodes
abbrev pub cost_of_all : List Node → ℕ
cost_of_all nodes = sum_by cost_of nodes

-- bytes written over others from a place on
abbrev pub pasted : ℕ → List ℕ → List ℕ → List ℕ
pasted at xs bs = take at bs ++ (xs ++ drop (at + length xs) bs)

-- a record written over the page from an offset on, where there is room for it
abbrev pub fits_at : ℕ → Node → List ℕ → Bool
fits_at offset node bs = nat_le (offset + cost_of node) (length bs)

abbrev pub written_at : ℕ → Node → List ℕ → List ℕ
written_at offset node bs = cond (fits_at offset node bs) (pasted offset (record_of node) bs) bs

-- the records of a list of nodes, written over the page from its first byte on: how many bytes they take, where so many are enough
abbrev pub list_answer : List Node → ℕ → Option ℕ
list_answer nodes bytes = cond (nat_le (cost_of_all nodes) bytes) (Some (cost_of_all nodes)) None

abbrev pub list_written : List Node → List ℕ → List ℕ
list_written nodes bs = cond (nat_le (cost_of_all nodes) (length bs)) (page_of nodes ++ drop (cost_of_all nodes) bs) bs

-- a number of 32 bits; ten of them
abbrev pub fits32 : ℤ → Bool
fits32 z = nat_lt (mag z) (2 ^ 31)

abbrev pub all_fit32 : List ℤ → Bool
all_fit32 [] = true
all_fit32 (z ∷ zs) = fits32 z && all_fit32 zs

abbrev pub ten : List ℤ → Bool
ten C = length C == 10 && all_fit32 C

abbrev pub all_ten : List (List ℤ) → Bool
all_ten [] = true
all_ten (C ∷ Cs) = ten C && all_ten Cs

-- a record can hold the node: its numbers are of 32 bits, and as many as its kind has
abbrev pub holdable : Node → Bool
holdable (Head n p) = true
holdable (Keep C) = ten C
holdable (Split C) = ten C
holdable (New d T) = fits32 d && ten T
holdable (Leaf Cs) = length Cs == 6 && all_ten Cs
holdable Blank = true

abbrev pub all_holdable : List Node → Bool
all_holdable nodes = list_all holdable nodes
