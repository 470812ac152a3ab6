-- Nodes read back from a page.
use Rattle.std.proofs.Common.{◌≡◌, ℕ, zero, suc, ◌+◌, ◌-◌, ◌<◌, ◌≤◌, List, [], ◌∷◌, ◌++◌, map, length, get_or, replicate, ℤ, Ok, Err, sym, refl, ap, ◌∙◌, subst, ap₂, append_assoc, append-nil, arith, length-append, Bor}
use Rattle.std.proofs.lemmas.List.{length-replicate}
use Rattle.tree.specs.declared.node.Node.{Node}
use Rattle.tree.specs.declared.node.Node.TheVariants.{Head, Keep, Split, New, Leaf, None as Blank}
use Rattle.tree.specs.Trees.{Tree, split, new, leaf, none, nodes}
use Rattle.tree.specs.Limits.{AllFormsFit, TreeFits}
use Rattle.page.specs.declared.record.Flaw.{Flaw}
use Rattle.page.specs.declared.record.Record.{Record}
use Rattle.page.specs.Words.{Bytes, all_bytes, bytes, forms_bytes}
use Rattle.page.specs.Records.{Kind, node_of, nodes_from, nodes_in, one, opened, page_of, record_of, head as head_kind, keep as keep_kind, split as split_kind, new as new_kind, leaf as leaf_kind, none as none_kind}
use Rattle.page.specs.Readings.{Whole, whole}
use Rattle.page.specs.Pages.{Accepted, Fits, IsPage, checked, list_of}
use Rattle.page.specs.Ties.{Reads, body_in, kind_in}
use Rattle.page.proofs.Checking.{reads-flaw, reads-one}
use Rattle.page.proofs.Holding.{AllHoldable, Holdable, all_from, all-holdable-++}
use Rattle.page.proofs.Fitting.{form-ten, new-d, six-tens, zero_form}
use Rattle.page.proofs.Reading.{form-exact, one-tree, opened-is, six-exact}
use Rattle.page.proofs.Words.{length-form, length-six, word_bytes}

-- ---- the turns of the loop

pub node-first : (f : ℕ) (bs : List ℕ) (q : Record × Bor (List ℕ)) → Reads (opened bs) (Ok q) → nodes_in (suc f) bs ≡ node_of (kind_in q.0) (body_in q.0) ∷ nodes_in f q.1.now
node-first f bs q s = ap (nodes_from (nodes_in f)) (reads-one (opened bs) q s)

pub node-none : (f : ℕ) (bs : List ℕ) (e : Flaw) → Reads (opened bs) (Err e) → nodes_in f bs ≡ []
node-none zero bs e s = refl
node-none (suc f) bs e s = ap (nodes_from (nodes_in f)) (reads-flaw (opened bs) e s)

pub went_on : (N i k : ℕ) (bs : List ℕ) (q : Record × Bor (List ℕ)) (a : Node) → length bs + k ≤ N → k < i → Reads (opened bs) (Ok q) → length q.1.now + 1 ≤ length bs → get_or (nodes_in (N - k) bs) (i - k) Blank ≡ a → (length q.1.now + (k + 1) ≤ N) × (get_or (nodes_in (N - (k + 1)) q.1.now) (i - (k + 1)) Blank ≡ a)
went_on N i k bs q a l lt s h e =
    let m : N - k ≡ suc (N - (k + 1)) = omega (arith, l, h) in
    let j : i - k ≡ suc (i - (k + 1)) = omega (arith, lt) in
    (omega (arith, l, h), sym (ap₂ (λ f g. get_or (nodes_in f bs) g Blank) m j ∙ ap (λ xs. get_or xs (suc (i - (k + 1))) Blank) (node-first (N - (k + 1)) bs q s)) ∙ e)

pub ran_out : (f j : ℕ) (bs : List ℕ) (e : Flaw) (a : Node) → Reads (opened bs) (Err e) → get_or (nodes_in f bs) j Blank ≡ a → Blank ≡ a
ran_out f j bs e a s h = sym (ap (λ xs. get_or xs j Blank) (node-none f bs e s)) ∙ h

pub arrived : (N i k : ℕ) (bs : List ℕ) (q : Record × Bor (List ℕ)) (a x : Node) → length bs + k ≤ N → i ≤ k → Reads (opened bs) (Ok q) → length q.1.now + 1 ≤ length bs → x ≡ node_of (kind_in q.0) (body_in q.0) → get_or (nodes_in (N - k) bs) (i - k) Blank ≡ a → x ≡ a
arrived N i k bs q a x l le s h is e =
    let m : N - k ≡ suc (N - (k + 1)) = omega (arith, l, h) in
    let j : i - k ≡ 0 = omega (arith, le) in
    is ∙ sym (ap₂ (λ f g. get_or (nodes_in f bs) g Blank) m j ∙ ap (λ xs. get_or xs 0 Blank) (node-first (N - (k + 1)) bs q s)) ∙ e

-- ---- what is written reads back

-- the record of a node is opened, and its node is that one
pub node-back : (node : Node) (r : List ℕ) → Holdable node → (k : Kind) × ((b : List ℕ) × ((opened (record_of node ++ r) ≡ one k b r) × (node_of k b ≡ node)))
node-back (Head n p) r w = (head_kind, (n ∷ p ∷ [], (opened-is head_kind (n ∷ p ∷ []) r refl, refl)))
node-back (Keep C) r w = (keep_kind, (all_bytes C, (opened-is keep_kind (all_bytes C) r (length-form C w), ap Keep (form-exact C w))))
node-back (Split C) r w = (split_kind, (all_bytes C, (opened-is split_kind (all_bytes C) r (length-form C w), ap Split (form-exact C w))))
node-back (New d T) r w =
    let b = bytes d ++ all_bytes T in
    (new_kind, (b, (opened-is new_kind b r (omega (arith, length-form T w.1)), ap₂ New (word_bytes d (all_bytes T) w.0) (form-exact T w.1))))
node-back (Leaf Cs) r w = (leaf_kind, (forms_bytes Cs, (opened-is leaf_kind (forms_bytes Cs) r (omega (arith, length-six Cs w.1, w.0)), ap Leaf (six-exact Cs w.1 w.0))))
node-back Blank r w = (none_kind, ([], (opened-is none_kind [] r refl, refl)))

-- no record is empty
pub some_bytes : (node : Node) → 1 ≤ length (record_of node)
some_bytes (Head n p) = omega arith
some_bytes (Keep C) = omega arith
some_bytes (Split C) = omega arith
some_bytes (New d T) = omega arith
some_bytes (Leaf Cs) = omega arith
some_bytes Blank = omega arith

pub count-page : (xs : List Node) → length xs ≤ length (page_of xs)
count-page [] = omega arith
count-page (x ∷ xs) = let a = length-append (record_of x) (page_of xs) in let b = some_bytes x in let c = count-page xs in omega (arith, a, b, c)

-- the nodes of a page and of what comes after it
pub nodes-of : (xs : List Node) (g : ℕ) (rest : List ℕ) → AllHoldable xs → nodes_in (length xs + g) (page_of xs ++ rest) ≡ xs ++ nodes_in g rest
nodes-of [] g rest h = ap (λ k. nodes_in k rest) (let e : 0 + g ≡ g = omega arith in e)
nodes-of (x ∷ xs) g rest h =
    let b = node-back x (page_of xs ++ rest) h.0 in
    let more = nodes_from (nodes_in (length xs + g)) in
    ap (λ k. nodes_in k (page_of (x ∷ xs) ++ rest)) (let e : length (x ∷ xs) + g ≡ suc (length xs + g) = omega arith in e)
    ∙ ap (λ l. more (opened l)) (append_assoc (record_of x) (page_of xs) rest) ∙ ap more b.1.1.0 ∙ ap₂ ◌∷◌ b.1.1.1 (nodes-of xs g rest h.1)

none-in : (f : ℕ) → nodes_in f [] ≡ []
none-in zero = refl
none-in (suc f) = refl

list_back : (f : ℕ) (list : List Node) → AllHoldable list → length (page_of list) ≤ f → nodes_in f (page_of list) ≡ list
list_back f list h l =
    let g = f - length list in
    ap₂ nodes_in (let e : f ≡ length list + g = omega (arith, l, count-page list) in e) (sym (append-nil (page_of list))) ∙ nodes-of list g [] h ∙ ap (λ xs. list ++ xs) (none-in g) ∙ append-nil list

keeps-holdable : (p : ℕ) (Cs : List (List ℤ)) → AllFormsFit p 0 Cs → AllHoldable (map Keep Cs)
keeps-holdable p [] f = tt
keeps-holdable p (C ∷ Cs) f = (form-ten p 0 C f.0, keeps-holdable p Cs f.1)

tree-holdable : (n p : ℕ) → n ≤ 6 → (t : Tree) (made left : ℕ) → TreeFits n p made left t → AllHoldable (nodes t)
tree-holdable n p six (split C t u) made left f =
    (form-ten p made C f.1.0, all-holdable-++ (nodes t) (nodes u) (tree-holdable n p six t made (left - 1) f.1.1.0) (tree-holdable n p six u made (left - 1) f.1.1.1))
tree-holdable n p six (new d T t) made left f = ((new-d p made d T f.1.0, form-ten p made T f.1.0.form), tree-holdable n p six t (suc made) left f.1.1)
tree-holdable n p six (leaf Cs) made left f =
    ((omega (arith, length-append Cs (replicate (6 - length Cs) zero_form), length-replicate (6 - length Cs) zero_form, f.0, six), six-tens p made Cs (6 - length Cs) f.1), tt)
tree-holdable n p six none made left f = (tt, tt)

all-holdable : (w : Whole) → Fits w → AllHoldable (list_of w)
all-holdable (whole n p Cs t) f = (tt, all-holdable-++ (map Keep Cs) (nodes t) (keeps-holdable p Cs f.keeps_fit) (tree-holdable n p f.unknowns_most t 0 12 f.tree_fits))

pub page-back : (bs : List ℕ) (w : Whole) → IsPage bs w → nodes_in (length bs) bs ≡ list_of w
page-back bs w i =
    subst (λ l. nodes_in (length l) l ≡ list_of w) (sym i.1) (list_back (length (page_of (list_of w))) (list_of w) (all-holdable w i.0) (omega arith))

-- no other nodes have the page of a tree within the limits
only-list : (bs : List ℕ) (w : Whole) → IsPage bs w → (xs : List Node) → AllHoldable xs → bs ≡ page_of xs → xs ≡ list_of w
only-list bs w i xs h e = sym (list_back (length (page_of xs)) xs h (omega arith)) ∙ ap (λ l. nodes_in (length l) l) (sym e) ∙ page-back bs w i

pub accepted : (bs : List ℕ) → Bytes bs → Accepted bs (checked bs)
accepted bs h k e =
    let o = one-tree bs h k e in
    record { tree = o.0; page = o.1.0; counted = o.1.1.0; one_tree = o.1.1.1; one_list = λ xs a is. only-list bs o.0 o.1.0 xs (all_from xs a) is }
