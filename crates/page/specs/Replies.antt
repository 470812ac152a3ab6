-- What a question to a page comes to.
use Rattle.std.specs.Prelude.{◌≡◌, ℕ, List, length, ℤ, Ok, Err, Option, Result}
use Rattle.base.specs.declared.refusal.Refusal.{Refusal}
use Rattle.tree.specs.Trees.{Tree}
use Rattle.tree.specs.Limits.{WithinLimits}
use Rattle.tree.specs.Finds.{found_in}
use Rattle.tree.specs.Questions.{all_nodes, asked}
use Rattle.page.specs.Records.{nodes_in, page_of}
use Rattle.page.specs.Pages.{checked}

-- the check's refusal, or what follows where the page is accepted
abbrev pub unless_broken : {A : Type 0} → Result ℕ Refusal → Result A Refusal → Result A Refusal
unless_broken (Ok count) r = r
unless_broken (Err e) r = Err e

-- a page that is accepted is asked as the list of its records' nodes is
abbrev pub replied : List ℕ → List ℤ → Result (Option (List ℤ)) Refusal
replied bs point = unless_broken (checked bs) (found_in (nodes_in (length bs) bs) point)

-- the page of a tree within the limits replies what the tree answers
abbrev pub RepliesAsTree : List ℕ → List ℤ → Type 0
RepliesAsTree bs point =
    (n p : ℕ) (keeps : List (List ℤ)) (t : Tree) → WithinLimits n p keeps t → bs ≡ page_of (all_nodes n p keeps t) → replied bs point ≡ asked p keeps t point
