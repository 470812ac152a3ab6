-- The records of a list of nodes, one after the other.
use Rattle.std.proofs.Common.{◌≡◌, ℕ, suc, ◌+◌, ◌*◌, ◌<◌, Bool, true, false, cond, List, [], ◌∷◌, ◌++◌, length, get_or, take, drop, Some, None, Ok, leb, sym, refl, ap, ◌∙◌, ap₂, append_assoc, append-nil, arith, length-append}
use Rattle.std.proofs.lemmas.Bool.{and_from}
use Rattle.std.proofs.lemmas.Grind.{flat_map-append}
use Rattle.std.proofs.lemmas.List.{drop_at, drop-drop, take_at, take_more}
use Rattle.std.proofs.lemmas.List.Folds.{list_all_more}
use Rattle.std.proofs.lemmas.List.Sums.{sum_by-cons, sum_by_push}
use Rattle.tree.specs.declared.node.Node.{Node}
use Rattle.tree.specs.declared.node.Node.TheVariants.{Head, Keep, Split, New, Leaf, None as Blank}
use Rattle.page.specs.Records.{all_holdable, cost_of, cost_of_all, holdable, list_answer, nodes_in, page_of, pasted, record_of}
use Rattle.page.specs.Pages.{WritesTree, list_of}
use Rattle.page.proofs.Holding.{AllHoldable, Holdable, all_from, holdable-from}
use Rattle.page.proofs.Reading.{written}
use Rattle.page.proofs.Regained.{page-back}
use Rattle.page.proofs.Words.{length-form, length-six}

-- a record has as many bytes as its node costs
pub length-record : (x : Node) → Holdable x → length (record_of x) ≡ cost_of x
length-record (Head n p) h = refl
length-record (Keep C) h = ap suc (length-form C h)
length-record (Split C) h = ap suc (length-form C h)
length-record (New d T) h = let l = length-form T h.1 in omega (arith, l)
length-record (Leaf Cs) h = ap suc (length-six Cs h.1 ∙ ap (λ n. 40 * n) h.0)
length-record Blank h = refl

pub length-page : (xs : List Node) → AllHoldable xs → length (page_of xs) ≡ cost_of_all xs
length-page [] h = refl
length-page (x ∷ xs) h = length-append (record_of x) (page_of xs) ∙ ap₂ ◌+◌ (length-record x h.0) (length-page xs h.1) ∙ sym (sum_by-cons cost_of x xs)

-- the records of the first i nodes, and one more
pub cost-more : (xs : List Node) (i : ℕ) (d : Node) → i < length xs → cost_of_all (take (i + 1) xs) ≡ cost_of_all (take i xs) + cost_of (get_or xs i d)
cost-more xs i d h = ap cost_of_all (take_more xs i d h) ∙ sum_by_push cost_of (take i xs) (get_or xs i d)

pub page-more : (xs : List Node) (x : Node) → page_of (xs ++ (x ∷ [])) ≡ page_of xs ++ record_of x
page-more xs x = flat_map-append record_of xs (x ∷ []) ∙ ap (λ l. page_of xs ++ l) (append-nil (record_of x))

-- one record more, written after those before it
pub pasted-next : (xs : List Node) (i : ℕ) (d : Node) (initial page : List ℕ) (at : ℕ) → i < length xs → all_holdable (take i xs) ≡ true → holdable (get_or xs i d) ≡ true → at ≡ cost_of_all (take i xs) →
    page ≡ page_of (take i xs) ++ drop at initial → pasted at (record_of (get_or xs i d)) page ≡ page_of (take (i + 1) xs) ++ drop (at + cost_of (get_or xs i d)) initial
pasted-next xs i d initial page at h all one is e =
    let x = get_or xs i d in
    let a = page_of (take i xs) in
    let r = record_of x in
    let rest = drop (at + cost_of x) initial in
    let l : length a ≡ at = length-page (take i xs) (all_from (take i xs) all) ∙ sym is in
    let m : length r ≡ cost_of x = length-record x (holdable-from x one) in
    let front : take at page ≡ a = ap (take at) e ∙ take_at a (drop at initial) at l in
    let back : drop (at + length r) page ≡ rest =
    sym (drop-drop (length r) at page) ∙ ap (drop (length r)) (ap (drop at) e ∙ drop_at a (drop at initial) at l) ∙ drop-drop (length r) at initial ∙ ap (λ n. drop (at + n) initial) m in
    ap₂ (λ f b. f ++ (r ++ b)) front back ∙ sym (append_assoc a r rest) ∙ ap (λ l. l ++ rest) (sym (page-more (take i xs) x) ∙ ap page_of (sym (take_more xs i d h)))

pub held-next : (xs : List Node) (i : ℕ) (d : Node) → i < length xs → all_holdable (take i xs) ≡ true → holdable (get_or xs i d) ≡ true → all_holdable (take (i + 1) xs) ≡ true
held-next xs i d h all one = list_all_more holdable xs i d h ∙ and_from _ _ all one

pub answered : (nodes : List Node) (bytes k : ℕ) → Some k ≡ list_answer nodes bytes → k ≡ cost_of_all nodes
answered nodes bytes k = go (leb (cost_of_all nodes) bytes) where
  go : (b : Bool) → Some k ≡ cond b (Some (cost_of_all nodes)) None → k ≡ cost_of_all nodes
  go true e = cc
  go false e = let z : ◌≡◌ {A = ℕ} 0 1 = cc in absurd (omega arith)

-- the nodes of a tree within the limits, written, are its page
pub writes : (nodes : List Node) (bs after : List ℕ) (k : ℕ) → all_holdable nodes ≡ true → k ≡ cost_of_all nodes → after ≡ page_of nodes ++ drop (cost_of_all nodes) bs → WritesTree nodes after (Some k)
writes nodes bs after k all is e w f tree j said =
    let same : j ≡ k = cc in
    let page : take j after ≡ page_of (list_of w) =
    ap₂ take (same ∙ is) e ∙ take_at (page_of nodes) (drop (cost_of_all nodes) bs) (cost_of_all nodes) (length-page nodes (all_from nodes all)) ∙ ap page_of tree in
    let long : j ≡ length (take j after) = same ∙ is ∙ sym (length-page nodes (all_from nodes all)) ∙ ap (λ xs. length (page_of xs)) tree ∙ sym (ap length page) in
    (written (take j after) w (f, page) ∙ ap (λ xs. Ok (length xs)) (sym tree), ap (λ n. nodes_in n (take j after)) long ∙ page-back (take j after) w (f, page) ∙ sym tree)
