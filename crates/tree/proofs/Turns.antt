-- The turn of a walk from the keeps to the nodes below them, and what is told at its end.
use Rattle.std.proofs.Common.{◌≡◌, ℕ, List, ◌∷◌, ℤ, Some, None, Ok, Err, Option, Result, sym, refl, ap, ◌∙◌, arith}
use Rattle.base.specs.declared.refusal.Refusal.{Refusal}
use Rattle.tree.specs.declared.node.Node.{Node}
use Rattle.tree.specs.declared.node.Node.TheVariants.{Head as HeadNode, Keep, Split, New, Leaf, None as Blank}
use Rattle.tree.specs.declared.state.Walk.{Walk}
use Rattle.tree.specs.Finds.{kept_answer, left_of, said_of, walk}
use Rattle.tree.specs.Walks.{Follows, Keeps, Nodes, answer_in, answer_of, in_six, six_of}

first-below : (n : ℕ) (ρ : List ℤ) (node : Node) (rest : List Node) → ((C : List ℤ) → node ≡ Keep C → ⊥) → kept_answer n ρ (node ∷ rest) ≡ Ok (walk n 0 0 ρ (node ∷ rest))
first-below n ρ (HeadNode a b) rest h = refl
first-below n ρ (Keep C) rest h = absurd (h C refl)
first-below n ρ (Split C) rest h = refl
first-below n ρ (New d T) rest h = refl
first-below n ρ (Leaf forms) rest h = refl
first-below n ρ Blank rest h = refl

pub below-keeps : (w v u : Walk) (node : Node) → ((C : List ℤ) → node ≡ Keep C → ⊥) → w.phase ≡ Keeps → v.phase ≡ Nodes → v.past ≡ 0 → v.n ≡ w.n → v.known ≡ w.known → Follows v node u → Follows w node u
below-keeps w v u node h keeps below none n known f = (
  omega (arith, f.0, none),
  λ rest.
      let made : w.known.made ≡ 0 = w.unmade keeps in
      let turn : answer_of w (node ∷ rest) ≡ in_six (Ok (walk w.n 0 0 w.known.setting (node ∷ rest))) = ap (λ s. answer_in s w (node ∷ rest)) keeps ∙ ap in_six (first-below w.n w.known.setting node rest h) in
      let there : answer_of v (node ∷ rest) ≡ in_six (Ok (walk v.n v.past v.known.made v.known.setting (node ∷ rest))) = ap (λ s. answer_in s v (node ∷ rest)) below in
      let same : in_six (Ok (walk w.n 0 0 w.known.setting (node ∷ rest))) ≡ in_six (Ok (walk v.n v.past v.known.made v.known.setting (node ∷ rest))) = cc in
      turn ∙ same ∙ sym there ∙ f.1 rest,
)

-- what is said and left of an answer is said and left of it with six numbers
pub said-six : (a : Result (Option (List ℤ)) Refusal) → said_of (in_six a) ≡ said_of a
said-six (Ok (Some values)) = refl
said-six (Ok None) = refl
said-six (Err e) = refl

pub left-six : (a : Result (Option (List ℤ)) Refusal) → six_of (in_six a) ≡ left_of a
left-six (Ok (Some values)) = refl
left-six (Ok None) = refl
left-six (Err e) = refl

-- where a tree is passed over, two walks that differ in how many are to be passed over answer as the rules' walk goes on
pub passed-over : (w v : Walk) (xs ys : List Node) → w.phase ≡ Nodes → v.phase ≡ Nodes → v.n ≡ w.n → v.known ≡ w.known → ((n made : ℕ) (ρ : List ℤ) → walk n w.past made ρ xs ≡ walk n v.past made ρ ys) → answer_of w xs ≡ answer_of v ys
passed-over w v xs ys from to n known goes =
    let here : answer_of w xs ≡ in_six (Ok (walk w.n w.past w.known.made w.known.setting xs)) = ap (λ s. answer_in s w xs) from in
    let there : answer_of v ys ≡ in_six (Ok (walk v.n v.past v.known.made v.known.setting ys)) = ap (λ s. answer_in s v ys) to in
    let on : walk w.n w.past w.known.made w.known.setting xs ≡ walk w.n v.past w.known.made w.known.setting ys = goes w.n w.known.made w.known.setting in
    let same : in_six (Ok (walk w.n v.past w.known.made w.known.setting ys)) ≡ in_six (Ok (walk v.n v.past v.known.made v.known.setting ys)) = cc in
    here ∙ ap (λ a. in_six (Ok a)) on ∙ same ∙ sym there
