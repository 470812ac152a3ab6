-- The check of a page, record by record, against the reading.
use Rattle.std.proofs.Common.{◌≡◌, ℕ, zero, suc, ◌+◌, ◌-◌, ◌<◌, true, false, ltb, List, [], ◌∷◌, map, length, get_or, take, drop, ℤ, Some, None, Ok, Err, Result, sym, refl, ap, ◌∙◌, subst, ap₂, add-one, arith, length-append, w8, Fits, Bor}
use Rattle.std.proofs.lemmas.List.{length-map}
use Rattle.std.proofs.lemmas.Bool.{cond_both, cond-false, cond-true, eqb-true, false≢true}
use Rattle.tree.specs.Trees.{Tree, split, new, leaf, none, nodes}
use Rattle.tree.specs.declared.node.Node.TheVariants.{Keep as Keep'}
use Rattle.page.specs.declared.check.Fault.{Fault}
use Rattle.page.specs.declared.check.Top.{Top}
use Rattle.page.specs.declared.record.Flaw.{Flaw}
use Rattle.page.specs.declared.record.Flaw.TheVariants.{Length as FlawLength, Number as FlawNumber}
use Rattle.page.specs.declared.record.Record.{Record}
use Rattle.page.specs.declared.record.Record.TheVariants.{Head, Keep, Split, New, Leaf, None as NoRecord}
use Rattle.page.specs.Words.{Bytes, forms, word, words}
use Rattle.page.specs.Fits.{form_fits, leaf_fits, new_fits}
use Rattle.page.specs.Records.{Kind, Opened, body_length, flawed, one, opened, opened_as, head as head_kind, keep as keep_kind, split as split_kind, new as new_kind, leaf as leaf_kind, none as none_kind}
use Rattle.page.specs.Readings.{Out, below, done, ended, fault, whole, keep, keep_at, keeps, keeps_from, node, opening, parse, taking, then}
use Rattle.page.specs.Ties.{Agrees, Allowed, HeadReads, Inside, WholeReads, Reads, body_in, keep_count, keep_first, kind_in, node_count, record_fits}

-- ---- a node

pub reads-one : (o : Opened) (q : Record × Bor (List ℕ)) → Reads o (Ok q) → o ≡ one (kind_in q.0) (body_in q.0) q.1.now
reads-one (one k b r) q s = λ i. one (sym s.0 i) (sym s.1.0 i) (sym s.1.1 i)
reads-one (flawed e) q s = absurd s

pub reads-flaw : (o : Opened) (f : Flaw) → Reads o (Err f) → o ≡ flawed f
reads-flaw (one k b r) f s = absurd s
reads-flaw (flawed e) f s = ap flawed (sym s)

-- the reading with the nodes that a path may still have
abbrev pub tree : ℕ → ℕ → ℕ → ℕ → List ℕ → Out Tree
tree n p made left L = parse n p (left + (5 - made) + 1) made left L

tree_is : (n p made left : ℕ) (L : List ℕ) → tree n p made left L ≡ taking (opening made left L) L (node (parse n p (left + (5 - made))) n p made left L)
unfolding parse
tree_is n p made left L = ap (λ f. parse n p f made left L) (add-one (left + (5 - made)))

tree-opened : (n p made left : ℕ) (L : List ℕ) (q : Record × Bor (List ℕ)) → Reads (opening made left L) (Ok q) → tree n p made left L ≡ node (parse n p (left + (5 - made))) n p made left L (kind_in q.0) (body_in q.0) q.1.now
tree-opened n p made left L q s = tree_is n p made left L ∙ ap (λ o. taking o L (node (parse n p (left + (5 - made))) n p made left L)) (reads-one (opening made left L) q s)

-- ---- answers

refused : {A : Type 0} (count : A → ℕ) (o : Out A) (e : Flaw) (at : Bor (List ℕ)) → o ≡ fault e at.now → Agrees count o (Err (record { flaw = e; at = at }))
refused count o e at is = subst (λ x. Agrees count x (Err (record { flaw = e; at = at }))) (sym is) (refl, refl)

passed : {A : Type 0} (count : A → ℕ) (o : Out A) (x : A) (after : Bor (List ℕ)) (m : ℕ) → o ≡ done x after.now → m ≡ count x → Agrees count o (Ok (after, m))
passed count o x after m is c = subst (λ y. Agrees count y (Ok (after, m))) (sym is) (refl, c)

then_ok : {A B : Type 0} (a : A → ℕ) (b : B → ℕ) (o : Out A) (k : A → List ℕ → Out B) (q : Bor (List ℕ) × ℕ) (r : Result (Bor (List ℕ) × ℕ) Fault) → Agrees a o (Ok q) → ((x : A) → q.1 ≡ a x → Agrees b (k x q.0.now) r) → Agrees b (then o k) r
then_ok a b (done x l) k q r e h = subst (λ l. Agrees b (k x l) r) e.0 (h x e.1)
then_ok a b (fault f l) k q r e h = absurd e

then-err : {A B : Type 0} (a : A → ℕ) (b : B → ℕ) (o : Out A) (k : A → List ℕ → Out B) (f : Fault) → Agrees a o (Err f) → Agrees b (then o k) (Err f)
then-err a b (done x l) k f e = absurd e
then-err a b (fault g l) k f e = e

-- ---- the ways of a node

pub flawed-node : (n p made left : ℕ) (at : Bor (List ℕ)) (f : Flaw) → Reads (opening made left at.now) (Err f) → Agrees node_count (tree n p made left at.now) (Err (record { flaw = f; at = at }))
flawed-node n p made left at f s =
    let L = at.now in
    refused node_count (tree n p made left L) f at (tree_is n p made left L ∙ ap (λ o. taking o L (node (parse n p (left + (5 - made))) n p made left L)) (reads-flaw (opening made left L) f s))

wrong-number : (self : ℕ → ℕ → List ℕ → Out Tree) (n p made left : ℕ) (here : List ℕ) (k : Kind) (b r : List ℕ) → false ≡ record_fits n p made k b → node self n p made left here k b r ≡ fault FlawNumber here
wrong-number self n p made left here head_kind b r e = absurd (false≢true e)
wrong-number self n p made left here keep_kind b r e = absurd (false≢true e)
wrong-number self n p made left here split_kind b r e = cond-false (form_fits p made (words 10 b)) _ _ (sym e)
wrong-number self n p made left here new_kind b r e = cond-false (new_fits p made (word b) (words 10 (drop 4 b))) _ _ (sym e)
wrong-number self n p made left here leaf_kind b r e = cond-false (leaf_fits n p made (forms 6 b)) _ _ (sym e)
wrong-number self n p made left here none_kind b r e = absurd (false≢true e)

pub unfit-node : (n p made left : ℕ) (at : Bor (List ℕ)) (q : Record × Bor (List ℕ)) → Reads (opening made left at.now) (Ok q) → false ≡ record_fits n p made (kind_in q.0) (body_in q.0) → Agrees node_count (tree n p made left at.now) (Err (record { flaw = FlawNumber; at = at }))
unfit-node n p made left at q s e =
    let L = at.now in
    refused node_count (tree n p made left L) FlawNumber at (tree-opened n p made left L q s ∙ wrong-number (parse n p (left + (5 - made))) n p made left L (kind_in q.0) (body_in q.0) q.1.now e)

pub leaf-node : (n p made left : ℕ) (L : List ℕ) (b : Bor (List ℕ)) (after : Bor (List ℕ)) → Reads (opening made left L) (Ok (Leaf b, after)) → true ≡ leaf_fits n p made (forms 6 b.now) → Agrees node_count (tree n p made left L) (Ok (after, 1))
leaf-node n p made left L b after s e =
    passed node_count (tree n p made left L) (leaf (take n (forms 6 b.now))) after 1 (tree-opened n p made left L (Leaf b, after) s ∙ cond-true (leaf_fits n p made (forms 6 b.now)) _ _ (sym e)) refl

pub none-node : (n p made left : ℕ) (L : List ℕ) (after : Bor (List ℕ)) → Reads (opening made left L) (Ok (NoRecord, after)) → Agrees node_count (tree n p made left L) (Ok (after, 1))
none-node n p made left L after s = passed node_count (tree n p made left L) none after 1 (tree-opened n p made left L (NoRecord, after) s) refl

-- a new parameter: what is left to show is about the tree below it
new_is : (n p made left : ℕ) (L : List ℕ) (b after : Bor (List ℕ)) (r : Result (Bor (List ℕ) × ℕ) Fault) → made < 5 → Reads (opening made left L) (Ok (New b, after)) → true ≡ new_fits p made (word b.now) (words 10 (drop 4 b.now)) → Agrees node_count (then (tree n p (made + 1) left after.now) (λ t l. done (new (word b.now) (words 10 (drop 4 b.now)) t) l)) r → Agrees node_count (tree n p made left L) r
new_is n p made left L b after r lt s e h =
    let d = word b.now in
    let T = words 10 (drop 4 b.now) in
    let g : left + (5 - made) ≡ left + (5 - (made + 1)) + 1 = omega arith in
    let m = add-one made in
    subst (λ o. Agrees node_count o r)
    (sym (tree-opened n p made left L (New b, after) s ∙ cond-true (new_fits p made d T) _ _ (sym e) ∙ ap₂ (λ f k. then (parse n p f k left after.now) (λ t l. done (new d T t) l)) g (sym m))) h

pub new-node : (n p made left : ℕ) (L : List ℕ) (b after end : Bor (List ℕ)) (m : ℕ) → made < 5 → Reads (opening made left L) (Ok (New b, after)) → true ≡ new_fits p made (word b.now) (words 10 (drop 4 b.now)) → Agrees node_count (tree n p (made + 1) left after.now) (Ok (end, m)) → Agrees node_count (tree n p made left L) (Ok (end, m + 1))
new-node n p made left L b after end m lt s e a =
    let d = word b.now in
    let T = words 10 (drop 4 b.now) in
    new_is n p made left L b after (Ok (end, m + 1)) lt s e
    (then_ok node_count node_count (tree n p (made + 1) left after.now) (λ t l. done (new d T t) l) (end, m) (Ok (end, m + 1)) a (λ t c. (refl, omega (arith, c))))

pub new-node-err : (n p made left : ℕ) (L : List ℕ) (b after : Bor (List ℕ)) (f : Fault) (r : Result (Bor (List ℕ) × ℕ) Fault) → made < 5 → Reads (opening made left L) (Ok (New b, after)) → true ≡ new_fits p made (word b.now) (words 10 (drop 4 b.now)) → Agrees node_count (tree n p (made + 1) left after.now) (Err f) → r ≡ Err f → Agrees node_count (tree n p made left L) r
new-node-err n p made left L b after f r lt s e a is =
    let d = word b.now in
    let T = words 10 (drop 4 b.now) in
    subst (Agrees node_count (tree n p made left L)) (sym is)
    (new_is n p made left L b after (Err f) lt s e (then-err node_count node_count (tree n p (made + 1) left after.now) (λ t l. done (new d T t) l) f a))

-- a split: what is left to show is about its two trees
split-is : (n p made left : ℕ) (L : List ℕ) (b after : Bor (List ℕ)) (r : Result (Bor (List ℕ) × ℕ) Fault) → 0 < left → Reads (opening made left L) (Ok (Split b, after)) → true ≡ form_fits p made (words 10 b.now) → Agrees node_count (then (tree n p made (left - 1) after.now) (λ t l. then (tree n p made (left - 1) l) (λ u m. done (split (words 10 b.now) t u) m))) r → Agrees node_count (tree n p made left L) r
split-is n p made left L b after r lt s e h =
    let C = words 10 b.now in
    let g : left + (5 - made) ≡ left - 1 + (5 - made) + 1 = omega arith in
    subst (λ o. Agrees node_count o r)
    (sym (tree-opened n p made left L (Split b, after) s ∙ cond-true (form_fits p made C) _ _ (sym e) ∙ ap (λ f. then (parse n p f made (left - 1) after.now) (λ t l. then (parse n p f made (left - 1) l) (λ u m. done (split C t u) m))) g)) h

pub split-node : (n p made left : ℕ) (L : List ℕ) (b after second end : Bor (List ℕ)) (c m : ℕ) → 0 < left → Reads (opening made left L) (Ok (Split b, after)) → true ≡ form_fits p made (words 10 b.now) → Agrees node_count (tree n p made (left - 1) after.now) (Ok (second, c)) → Agrees node_count (tree n p made (left - 1) second.now) (Ok (end, m)) → Agrees node_count (tree n p made left L) (Ok (end, c + m + 1))
split-node n p made left L b after second end c m lt s e a a' =
    let C = words 10 b.now in
    split-is n p made left L b after (Ok (end, c + m + 1)) lt s e
    (then_ok node_count node_count (tree n p made (left - 1) after.now) (λ t l. then (tree n p made (left - 1) l) (λ u k. done (split C t u) k)) (second, c) (Ok (end, c + m + 1)) a (λ t d.
    then_ok node_count node_count (tree n p made (left - 1) second.now) (λ u k. done (split C t u) k) (end, m) (Ok (end, c + m + 1)) a' (λ u d'. (refl, omega (arith, d, d', length-append (nodes t) (nodes u))))))

pub split-node-first : (n p made left : ℕ) (L : List ℕ) (b after : Bor (List ℕ)) (f : Fault) (r : Result (Bor (List ℕ) × ℕ) Fault) → 0 < left → Reads (opening made left L) (Ok (Split b, after)) → true ≡ form_fits p made (words 10 b.now) → Agrees node_count (tree n p made (left - 1) after.now) (Err f) → r ≡ Err f → Agrees node_count (tree n p made left L) r
split-node-first n p made left L b after f r lt s e a is =
    let C = words 10 b.now in
    subst (Agrees node_count (tree n p made left L)) (sym is)
    (split-is n p made left L b after (Err f) lt s e (then-err node_count node_count (tree n p made (left - 1) after.now) (λ t l. then (tree n p made (left - 1) l) (λ u k. done (split C t u) k)) f a))

pub split-node-second : (n p made left : ℕ) (L : List ℕ) (b after second : Bor (List ℕ)) (c : ℕ) (f : Fault) (r : Result (Bor (List ℕ) × ℕ) Fault) → 0 < left → Reads (opening made left L) (Ok (Split b, after)) → true ≡ form_fits p made (words 10 b.now) → Agrees node_count (tree n p made (left - 1) after.now) (Ok (second, c)) → Agrees node_count (tree n p made (left - 1) second.now) (Err f) → r ≡ Err f → Agrees node_count (tree n p made left L) r
split-node-second n p made left L b after second c f r lt s e a a' is =
    let C = words 10 b.now in
    subst (Agrees node_count (tree n p made left L)) (sym is)
    (split-is n p made left L b after (Err f) lt s e
    (then_ok node_count node_count (tree n p made (left - 1) after.now) (λ t l. then (tree n p made (left - 1) l) (λ u k. done (split C t u) k)) (second, c) (Err f) a (λ t d.
    then-err node_count node_count (tree n p made (left - 1) second.now) (λ u k. done (split C t u) k) f a')))

-- the record that was read, by its kind
pub taken : (n p made left : ℕ) (L : List ℕ) (first r : Record) (after : Bor (List ℕ)) → first ≡ r → Reads (opening made left L) (Ok (first, after)) → Allowed made left (kind_in first) → true ≡ record_fits n p made (kind_in first) (body_in first) → Reads (opening made left L) (Ok (r, after)) × (Allowed made left (kind_in r) × (true ≡ record_fits n p made (kind_in r) (body_in r)))
taken n p made left L first r after is s a f = subst (λ x. Reads (opening made left L) (Ok (x, after)) × (Allowed made left (kind_in x) × (true ≡ record_fits n p made (kind_in x) (body_in x)))) is (s, (a, f))

-- ---- the keeps

not-keep : (L : List ℕ) → keep_first L ≡ false → keep_at L ≡ None
not-keep [] e = refl
not-keep (zero ∷ bs) e = refl
not-keep (suc zero ∷ bs) e = refl
not-keep (suc (suc zero) ∷ bs) e = absurd (false≢true (sym e))
not-keep (suc (suc (suc zero)) ∷ bs) e = refl
not-keep (suc (suc (suc (suc zero))) ∷ bs) e = refl
not-keep (suc (suc (suc (suc (suc zero)))) ∷ bs) e = refl
not-keep (suc (suc (suc (suc (suc (suc zero))))) ∷ bs) e = refl
not-keep (suc (suc (suc (suc (suc (suc (suc k)))))) ∷ bs) e = refl

keep-first : (L : List ℕ) → keep_first L ≡ true → (bs : List ℕ) × (L ≡ 2 ∷ bs)
keep-first [] e = absurd (false≢true e)
keep-first (b ∷ bs) e = (bs, ap (λ k. k ∷ bs) (eqb-true b 2 e))

keeps-none : (p c : ℕ) (L : List ℕ) → keep_first L ≡ false → keeps p c L ≡ done [] L
unfolding keeps
keeps-none p zero L e = refl
keeps-none p (suc c) L e = ap (keeps_from (keeps p c) p L) (not-keep L e)

keeps-zero : (p : ℕ) (L : List ℕ) → keeps p 0 L ≡ done [] L
unfolding keeps
keeps-zero p L = refl

pub keeps-full : (p c : ℕ) (at : Bor (List ℕ)) → c ≡ 0 → Agrees keep_count (keeps p c at.now) (Ok (at, 0))
keeps-full p c at e = passed keep_count (keeps p c at.now) [] at 0 (ap (λ m. keeps p m at.now) e ∙ keeps-zero p at.now) refl

pub keeps-over : (p c : ℕ) (at : Bor (List ℕ)) → false ≡ keep_first at.now → Agrees keep_count (keeps p c at.now) (Ok (at, 0))
keeps-over p c at e = passed keep_count (keeps p c at.now) [] at 0 (keeps-none p c at.now (sym e)) refl

keeps-at : (p c : ℕ) (L : List ℕ) → 0 < c → true ≡ keep_first L → keeps p c L ≡ taking (opened L) L (keep (keeps p (c - 1)) p L)
unfolding keeps
keeps-at p zero L lt e = absurd (let no : ⊥ = omega arith in no)
keeps-at p (suc c) L lt e =
    let k = keep-first L (sym e) in
    let m : suc c - 1 ≡ c = omega arith in
    subst (λ l. keeps p (suc c) l ≡ taking (opened l) l (keep (keeps p (suc c - 1)) p l)) (sym k.1) (ap (λ d. taking (opened (2 ∷ k.0)) (2 ∷ k.0) (keep (keeps p d) p (2 ∷ k.0))) (sym m))

keeps-opened : (p c : ℕ) (L : List ℕ) (q : Record × Bor (List ℕ)) → 0 < c → true ≡ keep_first L → Reads (opened L) (Ok q) → keeps p c L ≡ keep (keeps p (c - 1)) p L (kind_in q.0) (body_in q.0) q.1.now
keeps-opened p c L q lt e s = keeps-at p c L lt e ∙ ap (λ o. taking o L (keep (keeps p (c - 1)) p L)) (reads-one (opened L) q s)

pub keeps-flawed : (p c : ℕ) (at : Bor (List ℕ)) (f : Flaw) → 0 < c → true ≡ keep_first at.now → Reads (opened at.now) (Err f) → Agrees keep_count (keeps p c at.now) (Err (record { flaw = f; at = at }))
keeps-flawed p c at f lt e s =
    let L = at.now in
    refused keep_count (keeps p c L) f at (keeps-at p c L lt e ∙ ap (λ o. taking o L (keep (keeps p (c - 1)) p L)) (reads-flaw (opened L) f s))

pub keeps-unfit : (p c : ℕ) (at b after : Bor (List ℕ)) → 0 < c → true ≡ keep_first at.now → Reads (opened at.now) (Ok (Keep b, after)) → false ≡ form_fits p 0 (words 10 b.now) → Agrees keep_count (keeps p c at.now) (Err (record { flaw = FlawNumber; at = at }))
keeps-unfit p c at b after lt e s w =
    refused keep_count (keeps p c at.now) FlawNumber at (keeps-opened p c at.now (Keep b, after) lt e s ∙ cond-false (form_fits p 0 (words 10 b.now)) _ _ (sym w))

keeps-is : (p c : ℕ) (L : List ℕ) (b after : Bor (List ℕ)) (r : Result (Bor (List ℕ) × ℕ) Fault) → 0 < c → true ≡ keep_first L → Reads (opened L) (Ok (Keep b, after)) → true ≡ form_fits p 0 (words 10 b.now) → Agrees keep_count (then (keeps p (c - 1) after.now) (λ Cs l. done (words 10 b.now ∷ Cs) l)) r → Agrees keep_count (keeps p c L) r
keeps-is p c L b after r lt e s w h = subst (λ o. Agrees keep_count o r) (sym (keeps-opened p c L (Keep b, after) lt e s ∙ cond-true (form_fits p 0 (words 10 b.now)) _ _ (sym w))) h

pub keeps-more : (p c : ℕ) (L : List ℕ) (b after end : Bor (List ℕ)) (m : ℕ) → 0 < c → true ≡ keep_first L → Reads (opened L) (Ok (Keep b, after)) → true ≡ form_fits p 0 (words 10 b.now) → Agrees keep_count (keeps p (c - 1) after.now) (Ok (end, m)) → Agrees keep_count (keeps p c L) (Ok (end, m + 1))
keeps-more p c L b after end m lt e s w a =
    keeps-is p c L b after (Ok (end, m + 1)) lt e s w
    (then_ok keep_count keep_count (keeps p (c - 1) after.now) (λ Cs l. done (words 10 b.now ∷ Cs) l) (end, m) (Ok (end, m + 1)) a (λ Cs d. (refl, omega (arith, d))))

pub keeps-err : (p c : ℕ) (L : List ℕ) (b after : Bor (List ℕ)) (f : Fault) (r : Result (Bor (List ℕ) × ℕ) Fault) → 0 < c → true ≡ keep_first L → Reads (opened L) (Ok (Keep b, after)) → true ≡ form_fits p 0 (words 10 b.now) → Agrees keep_count (keeps p (c - 1) after.now) (Err f) → r ≡ Err f → Agrees keep_count (keeps p c L) r
keeps-err p c L b after f r lt e s w a is =
    subst (Agrees keep_count (keeps p c L)) (sym is) (keeps-is p c L b after (Err f) lt e s w (then-err keep_count keep_count (keeps p (c - 1) after.now) (λ Cs l. done (words 10 b.now ∷ Cs) l) f a))

kind-opened : (k : Kind) (bs : List ℕ) (q : Record × Bor (List ℕ)) → Reads (opened_as (Some k) bs) (Ok q) → kind_in q.0 ≡ k
kind-opened k bs q =
    cond_both (ltb (length bs) (body_length k)) (flawed _) (one k (take (body_length k) bs) (drop (body_length k) bs)) (λ o. Reads o (Ok q) → kind_in q.0 ≡ k) (λ _ s. absurd s) (λ _ s. s.0)

of-keep : (r : Record) → kind_in r ≡ keep_kind → (b : Bor (List ℕ)) × (r ≡ Keep b)
of-keep (Head b) e = let z : ◌≡◌ {A = ℕ} 0 1 = cc in absurd (let no : ⊥ = omega arith in no)
of-keep (Keep b) e = (b, refl)
of-keep (Split b) e = let z : ◌≡◌ {A = ℕ} 0 1 = cc in absurd (let no : ⊥ = omega arith in no)
of-keep (New b) e = let z : ◌≡◌ {A = ℕ} 0 1 = cc in absurd (let no : ⊥ = omega arith in no)
of-keep (Leaf b) e = let z : ◌≡◌ {A = ℕ} 0 1 = cc in absurd (let no : ⊥ = omega arith in no)
of-keep NoRecord e = let z : ◌≡◌ {A = ℕ} 0 1 = cc in absurd (let no : ⊥ = omega arith in no)

-- where a keep stands first, the record that is read is one
pub keep-read : (L : List ℕ) (q : Record × Bor (List ℕ)) (X : Type 0) → true ≡ keep_first L → Reads (opened L) (Ok q) → ((b : Bor (List ℕ)) → q.0 ≡ Keep b → ⊥) → X
keep-read L q X e s no-keep =
    let k = keep-first L (sym e) in
    let r = of-keep q.0 (kind-opened keep_kind k.0 q (subst (λ l. Reads (opened l) (Ok q)) k.1 s)) in
    absurd (no-keep r.0 r.1)

-- ---- the whole page

below-kept : (n p : ℕ) (l : List ℕ) (q : Bor (List ℕ) × ℕ) → Agrees keep_count (keeps p 8 l) (Ok q) → (Cs : List (List ℤ)) × ((q.1 ≡ length Cs) × (below n p l ≡ then (parse n p 18 0 12 q.0.now) (λ t r₂. ended n p Cs t r₂)))
below-kept n p l q a = go (keeps p 8 l) a where
  go : (o : Out (List (List ℤ))) → Agrees keep_count o (Ok q) → (Cs : List (List ℤ)) × ((q.1 ≡ length Cs) × (then o (λ Cs r₁. then (parse n p 18 0 12 r₁) (λ t r₂. ended n p Cs t r₂)) ≡ then (parse n p 18 0 12 q.0.now) (λ t r₂. ended n p Cs t r₂)))
  go (done Cs r) a = (Cs, (a.1, ap (λ l. then (parse n p 18 0 12 l) (λ t r₂. ended n p Cs t r₂)) (sym a.0)))
  go (fault e r) a = absurd a

tree-read : (n p : ℕ) (Cs : List (List ℤ)) (o : Out Tree) (q : Bor (List ℕ) × ℕ) → Agrees node_count o (Ok q) → (t : Tree) × ((q.1 ≡ length (nodes t)) × (then o (λ t r₂. ended n p Cs t r₂) ≡ ended n p Cs t q.0.now))
tree-read n p Cs (done t r) q a = (t, (a.1, ap (ended n p Cs t) (sym a.0)))
tree-read n p Cs (fault e r) q a = absurd a

ended-nil : (n p : ℕ) (Cs : List (List ℤ)) (t : Tree) (r : List ℕ) → length r ≡ 0 → ended n p Cs t r ≡ done (whole n p Cs t) []
ended-nil n p Cs t [] e = refl
ended-nil n p Cs t (b ∷ r) e = absurd (let no : ⊥ = omega arith in no)

ended-more : (n p : ℕ) (Cs : List (List ℤ)) (t : Tree) (r : List ℕ) → (length r ≡ 0 → ⊥) → ended n p Cs t r ≡ fault FlawLength r
ended-more n p Cs t [] e = absurd (e refl)
ended-more n p Cs t (b ∷ r) e = refl

pub whole-done : (bs : List ℕ) (top : Top) (q e : Bor (List ℕ) × ℕ) → HeadReads bs (Ok top) → Agrees keep_count (keeps top.p 8 top.rest.now) (Ok q) → Agrees node_count (parse top.n top.p 18 0 12 q.0.now) (Ok e) → length e.0.now ≡ 0 → WholeReads bs (Ok (q.1 + e.1 + 1))
whole-done bs top q e h a b z =
    let n = top.n in
    let p = top.p in
    let k = below-kept n p top.rest.now q a in
    let u = tree-read n p k.0 (parse n p 18 0 12 q.0.now) e b in
    let m = length-append (map Keep' k.0) (nodes u.0) in
    let l = length-map k.0 Keep' in
    (whole n p k.0 u.0, ([], (h.0 ∙ k.1.1 ∙ u.1.1 ∙ ended-nil n p k.0 u.0 e.0.now z, omega (arith, k.1.0, u.1.0, m, l))))

pub whole-over : (bs : List ℕ) (top : Top) (q e : Bor (List ℕ) × ℕ) → HeadReads bs (Ok top) → Agrees keep_count (keeps top.p 8 top.rest.now) (Ok q) → Inside top.rest.now (Ok q) → Agrees node_count (parse top.n top.p 18 0 12 q.0.now) (Ok e) → Inside q.0.now (Ok e) → (length e.0.now ≡ 0 → ⊥) → WholeReads bs (Err (record { flaw = FlawLength; at = e.0 }))
whole-over bs top q e h a i b j z =
    let n = top.n in
    let p = top.p in
    let k = below-kept n p top.rest.now q a in
    let u = tree-read n p k.0 (parse n p 18 0 12 q.0.now) e b in
    (h.0 ∙ k.1.1 ∙ u.1.1 ∙ ended-more n p k.0 u.0 e.0.now z, omega (arith, h.1, i, j))

-- ---- the answer

pub bytes_of : (l : List ℕ) → ((i : ℕ) → Fits w8 (get_or l i 0)) → Bytes l
bytes_of [] h = tt
bytes_of (b ∷ bs) h = ((h 0).fits, bytes_of bs (λ i. h (suc i)))
