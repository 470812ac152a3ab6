-- Records that stand one after the other, read back.
use Rattle.std.proofs.Common.{◌≡◌, ℕ, zero, suc, ◌+◌, ◌<◌, ◌≤◌, ◌≢◌, List, [], ◌∷◌, ◌++◌, length, get_or, take, drop, set, Ok, Err, sym, refl, ap, ◌∙◌, subst, ap₂, ⊎_elim, append_assoc, append-nil, arith, length-append, length-set, take-append-drop, Bor}
use Rattle.std.proofs.lemmas.Grind.{flat_map-append}
use Rattle.std.proofs.lemmas.List.{drop_at, drop_more, get_or-drop, get_or-set_other, get_or-set_same, length-take-le, take-append-le, take_at, take_more}
use Rattle.std.proofs.lemmas.Bool.{cases_lt}
use Rattle.tree.specs.declared.node.Node.{Node}
use Rattle.tree.specs.declared.node.Node.TheVariants.{Head, Keep, Split, New, Leaf, None}
use Rattle.tree.specs.Kinds.{kind_of}
use Rattle.store.specs.Stores.{cost_of as cost_by}
use Rattle.page.specs.Records.{cost_of, node_of, nodes_in, one, opened, page_of, pasted, record_of}
use Rattle.page.specs.declared.record.Flaw.{Flaw}
use Rattle.page.specs.declared.record.Record.{Record}
use Rattle.page.specs.Ties.{Reads, body_in, kind_in}
use Rattle.page_store.specs.Costs.{byte_costs}
use Rattle.page_store.specs.Listed.{Indexed, length_by}
use Rattle.page.proofs.Holding.{AllHoldable, Holdable, all-holdable-++}
use Rattle.page.proofs.Listing.{length-record, page-more}
use Rattle.page.proofs.Regained.{node-back, nodes-of, some_bytes}
use Rattle.page.proofs.Pasting.{take-pasted}

-- a page is read back
pub page-back : (xs : List Node) (rest : List ℕ) → AllHoldable xs → nodes_in (length xs) (page_of xs ++ rest) ≡ xs
page-back xs rest h = ap (λ k. nodes_in k (page_of xs ++ rest)) (let e : length xs ≡ length xs + 0 = omega arith in e) ∙ nodes-of xs 0 rest h ∙ append-nil xs

-- ---- the reader, at the record of a node

pub read_back : (x : Node) (rest bs : List ℕ) (r : Record) (after : Bor (List ℕ)) → Holdable x → bs ≡ record_of x ++ rest → Reads (opened bs) (Ok (r, after)) → node_of (kind_in r) (body_in r) ≡ x
read_back x rest bs r after h e reads =
    let p = node-back x rest h in
    let t : Reads (one p.0 p.1.0 rest) (Ok (r, after)) = subst (λ o. Reads o (Ok (r, after))) (ap opened e ∙ p.1.1.0) reads in
    ap₂ node_of t.0 t.1.0 ∙ p.1.1.1

pub never-refused : (x : Node) (rest bs : List ℕ) (f : Flaw) → Holdable x → bs ≡ record_of x ++ rest → Reads (opened bs) (Err f) → ⊥
never-refused x rest bs f h e reads =
    let p = node-back x rest h in
    subst (λ o. Reads o (Err f)) (ap opened e ∙ p.1.1.0) reads

-- ---- where records stand

-- the record at place j, and what comes after it
pub stands : (page : List ℕ) (n j : ℕ) (xs : List Node) (d : Node) → take n page ≡ page_of xs → j < length xs →
    drop (length (page_of (take j xs))) page ≡ record_of (get_or xs j d) ++ (page_of (drop (j + 1) xs) ++ drop n page)
stands page n j xs d whole h =
    let a = page_of (take j xs) in
    let x = get_or xs j d in
    let more = page_of (drop (j + 1) xs) in
    let split : page_of xs ≡ a ++ (record_of x ++ more) = ap page_of (sym (take-append-drop j xs)) ∙ flat_map-append record_of (take j xs) (drop j xs) ∙ ap (λ l. a ++ page_of l) (drop_more xs j d h) in
    let all : page ≡ a ++ (record_of x ++ (more ++ drop n page)) = sym (take-append-drop n page) ∙ ap (λ l. l ++ drop n page) (whole ∙ split)
    ∙ append_assoc a (record_of x ++ more) (drop n page) ∙ ap (λ l. a ++ l) (append_assoc (record_of x) more (drop n page)) in
    ap (drop (length a)) all ∙ drop_at a (record_of x ++ (more ++ drop n page)) (length a) refl

-- and it ends where the next begins
pub offset-more : (j : ℕ) (xs : List Node) (d : Node) → j < length xs → length (page_of (take (j + 1) xs)) ≡ length (page_of (take j xs)) + length (record_of (get_or xs j d))
offset-more j xs d h =
    let x = get_or xs j d in
    ap (λ l. length (page_of l)) (take_more xs j d h) ∙ ap length (page-more (take j xs) x) ∙ length-append (page_of (take j xs)) (record_of x)

pub offset-within : (j : ℕ) (xs : List Node) → length (page_of (take j xs)) ≤ length (page_of xs)
offset-within j xs =
    let e = ap length (ap page_of (sym (take-append-drop j xs)) ∙ flat_map-append record_of (take j xs) (drop j xs)) in
    let a = length-append (page_of (take j xs)) (page_of (drop j xs)) in
    omega (arith, e, a)

-- the first byte of a record gives its length
pub length-by : (x : Node) (rest : List ℕ) → Holdable x → length_by (get_or (record_of x ++ rest) 0 0) ≡ length (record_of x)
length-by (Head n p) rest h = refl
length-by (Keep C) rest h = sym (length-record (Keep C) h)
length-by (Split C) rest h = sym (length-record (Split C) h)
length-by (New d T) rest h = sym (length-record (New d T) h)
length-by (Leaf Cs) rest h = sym (length-record (Leaf Cs) h)
length-by None rest h = refl

pub holdable-at : (xs : List Node) (j : ℕ) (d : Node) → j < length xs → AllHoldable xs → Holdable (get_or xs j d)
holdable-at [] j d h all = absurd (let no : ⊥ = omega arith in no)
holdable-at (x ∷ xs) zero d h all = all.0
holdable-at (x ∷ xs) (suc j) d h all = holdable-at xs j d (omega arith) all.1

-- ---- one record more

pub put_whole : (page after : List ℕ) (n : ℕ) (xs : List Node) (x : Node) → Holdable x → n + cost_of x ≤ length page → take n page ≡ page_of xs → after ≡ pasted n (record_of x) page →
    take (n + cost_of x) after ≡ page_of (xs ++ (x ∷ []))
put_whole page after n xs x h room whole wrote =
    let l = length-record x h in
    ap₂ (λ k p. take (n + k) p) (sym l) wrote ∙ take-pasted n (record_of x) page (omega arith) ∙ ap (λ l. l ++ record_of x) whole
    ∙ sym (page-more xs x)

pub put-nodes : (page after : List ℕ) (n count : ℕ) (xs : List Node) (x : Node) → AllHoldable xs → Holdable x → length xs ≡ count → n + cost_of x ≤ length page → take n page ≡ page_of xs →
    after ≡ pasted n (record_of x) page → nodes_in (count + 1) after ≡ xs ++ (x ∷ [])
put-nodes page after n count xs x all h len room whole wrote =
    let ys = xs ++ (x ∷ []) in
    let m = n + cost_of x in
    let l : count + 1 ≡ length ys = let a = length-append xs (x ∷ []) in omega (arith, a, len) in
    let w : after ≡ page_of ys ++ drop m after = sym (take-append-drop m after) ∙ ap (λ l. l ++ drop m after) (put_whole page after n xs x h room whole wrote) in
    ap₂ nodes_in l w ∙ page-back ys (drop m after) (all-holdable-++ xs (x ∷ []) all (h, tt))

pub put-index : (page index : List ℕ) (n count : ℕ) (xs : List Node) (x : Node) → length xs ≡ count → n ≤ length page → take n page ≡ page_of xs → Indexed index xs → Indexed (set index count n) (xs ++ (x ∷ []))
put-index page index n count xs x len room whole old k h i =
    let a = length-append xs (x ∷ []) in
    let s = length-set index count n in
    ⊎_elim
    (λ (lt : k < count).
    let ne : k ≢ count = omega arith in
    get_or-set_other index count k n 0 ne ∙ old k (omega (arith, len)) (omega (arith, s)) ∙ ap (λ l. length (page_of l)) (sym (take-append-le k xs (x ∷ []) (omega (arith, len)))))
    (λ (ge : count ≤ k).
    let e : k ≡ count = omega (arith, a, len) in
    ap (λ j. get_or (set index count n) j 0) e ∙ get_or-set_same index count n 0 (omega (arith, s)) ∙ sym (length-take-le n page room) ∙ ap length whole
    ∙ ap (λ l. length (page_of l)) (sym (take_at xs (x ∷ []) count len)) ∙ ap (λ j. length (page_of (take j (xs ++ (x ∷ []))))) (sym e))
    (cases_lt k count)

pub bytes-cost : (x : Node) → cost_by byte_costs (kind_of x) ≡ cost_of x
bytes-cost (Head n p) = refl
bytes-cost (Keep C) = refl
bytes-cost (Split C) = refl
bytes-cost (New d T) = refl
bytes-cost (Leaf Cs) = refl
bytes-cost None = refl

pub cost-some : (x : Node) → 1 ≤ cost_of x
cost-some (Head n p) = omega arith
cost-some (Keep C) = omega arith
cost-some (Split C) = omega arith
cost-some (New d T) = omega arith
cost-some (Leaf Cs) = omega arith
cost-some None = omega arith

-- ---- from one record to the next

-- the record at place j begins within the listed part, and its first byte leads to the next
pub leads : (page : List ℕ) (n j i : ℕ) (xs : List Node) → n ≤ length page → take n page ≡ page_of xs → AllHoldable xs → j < length xs → i ≡ length (page_of (take j xs)) →
    (i < n) × ((i + length_by (get_or page i 0) ≡ length (page_of (take (j + 1) xs))) × (i + length_by (get_or page i 0) ≤ n))
leads page n j i xs room whole all h is =
    let x = get_or xs j None in
    let rest = page_of (drop (j + 1) xs) ++ drop n page in
    let s : drop i page ≡ record_of x ++ rest = ap (λ k. drop k page) is ∙ stands page n j xs None whole h in
    let g : get_or page i 0 ≡ get_or (record_of x ++ rest) 0 0 = ap (λ k. get_or page k 0) (let z : i ≡ i + 0 = omega arith in z) ∙ sym (get_or-drop i page 0 0) ∙ ap (λ l. get_or l 0 0) s in
    let b : length_by (get_or page i 0) ≡ length (record_of x) = ap length_by g ∙ length-by x rest (holdable-at xs j None h all) in
    let more = offset-more j xs None h in
    let within = offset-within (j + 1) xs in
    let one = some_bytes x in
    let e : length (page_of xs) ≡ n = ap length (sym whole) ∙ length-take-le n page room in
    (omega arith, (omega arith, omega arith))
