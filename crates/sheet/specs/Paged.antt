-- A sheet's tree as a page.
use Rattle.std.specs.Prelude.{◌≡◌, ℕ, List, length, ℤ, Some, Ok}
use Rattle.source.specs.Systems.{System}
use Rattle.tree.specs.declared.node.Node.{Node}
use Rattle.tree.specs.Finds.{left_of, said_of}
use Rattle.tree.specs.Trees.{Tree}
use Rattle.solver.specs.declared.count.Count.{Count}
use Rattle.solver.specs.Solves.{solved, written}
use Rattle.page.specs.Pages.{checked}
use Rattle.page.specs.Records.{nodes_in, page_of}
use Rattle.page.specs.Replies.{replied}
use Rattle.store.specs.Stores.{Meaning}
use Rattle.sheet.specs.Events.{Event, Find, standing}
use Rattle.sheet.specs.Arrangements.{LeadsTo}

-- the page of these nodes is accepted with just this count, and reads back as them
abbrev pub PageStands : List Node → ℕ → Type 0
PageStands xs count = (checked (page_of xs) ≡ Ok count) × (nodes_in (length (page_of xs)) (page_of xs) ≡ xs)

-- what a find answers and leaves is a reply from the page of the sheet's tree, wherever some system stands
abbrev pub RepliesAlike : Meaning → Find → Type 0
RepliesAlike m f =
    (before : List Event) → LeadsTo before m → (S : System) → standing before ≡ Some S →
    (f.answer ≡ said_of (replied (page_of m.nodes) f.point)) × (f.place ≡ left_of (replied (page_of m.nodes) f.point))

-- the tree of every accepted solve, as a page
abbrev pub SolvedPages : Type 0
SolvedPages = (S : System) (fuel : ℤ) (room : ℕ) (t : Tree) (c : Count) → solved S fuel room ≡ Ok (t, c) → PageStands (written S t) c.nodes
