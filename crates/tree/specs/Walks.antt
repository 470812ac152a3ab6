-- What a walk answers from where it has come to.
use Rattle.std.specs.Prelude.{◌≡◌, ℕ, ◌+◌, ◌<◌, ◌≤◌, Bool, true, false, List, ◌∷◌, length, replicate, ℤ, pos, Some, None, Ok, Err, Option, Result}
use Rattle.base.specs.declared.refusal.Refusal.{Refusal}
use Rattle.tree.specs.declared.node.Node.{Node}
use Rattle.tree.specs.declared.state.Walk.{Walk}
use Rattle.tree.specs.Finds.{found_in, kept_answer, six_numbers, walk}
pub use Rattle.tree.specs.declared.state.Phase.{Phase}
pub use Rattle.tree.specs.declared.state.Phase.TheVariants.{Head, Keeps, Nodes, Over}

-- an answer, its point as six numbers
abbrev pub in_six : Result (Option (List ℤ)) Refusal → Result (Option (List ℤ)) Refusal
in_six (Ok (Some values)) = Ok (Some (six_numbers values))
in_six (Ok None) = Ok None
in_six (Err e) = Err e

-- the six numbers of such an answer, zeros where it has no point
abbrev pub six_of : Result (Option (List ℤ)) Refusal → List ℤ
six_of (Ok (Some six)) = six
six_of (Ok None) = replicate 6 (pos 0)
six_of (Err e) = replicate 6 (pos 0)

-- what the nodes that are still to come answer
abbrev pub answer_in : Phase → Walk → List Node → Result (Option (List ℤ)) Refusal
answer_in Head w list = in_six (found_in list w.point.now)
answer_in Keeps w list = in_six (kept_answer w.n w.known.setting list)
answer_in Nodes w list = in_six (Ok (walk w.n w.past w.known.made w.known.setting list))
answer_in (Over answer) w list = answer

abbrev pub answer_of : Walk → List Node → Result (Option (List ℤ)) Refusal
answer_of w list = answer_in w.phase w list

abbrev pub is_over : Phase → Bool
is_over Head = false
is_over Keeps = false
is_over Nodes = false
is_over (Over answer) = true

-- after one node more, what is still to come answers the same
abbrev pub Follows : Walk → Node → Walk → Type 0
Follows w node v = (v.past ≤ w.past + 1) × ((rest : List Node) → answer_of w (node ∷ rest) ≡ answer_of v rest)

-- where trees are passed over: after a node `left` trees are to be passed over, or the walk ends with none
abbrev pub Passes : ℕ → Node → Option ℕ → Type 0
Passes past node (Some left) = (left ≤ past + 1) × ((n made : ℕ) (ρ : List ℤ) (rest : List Node) → walk n past made ρ (node ∷ rest) ≡ walk n left made ρ rest)
Passes past node None = (n made : ℕ) (ρ : List ℤ) (rest : List Node) → walk n past made ρ (node ∷ rest) ≡ None

-- the same of the first nodes of a list, of which `rest` is left: nothing, where trees are still to be passed over
abbrev pub PassesIn : ℕ → List Node → List Node → Option ℕ → Type 0
PassesIn past list rest (Some left) = (left + length rest ≤ past + length list) × (0 < left → length rest ≡ 0) × ((n made : ℕ) (ρ : List ℤ) → walk n past made ρ list ≡ walk n left made ρ rest)
PassesIn past list rest None = (n made : ℕ) (ρ : List ℤ) → walk n past made ρ list ≡ None
