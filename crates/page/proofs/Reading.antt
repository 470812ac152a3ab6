-- The reading of a page is exact: it accepts the pages of the trees within the limits, each as that tree.
use Rattle.std.proofs.Common.{◌≡◌, ℕ, zero, suc, ◌+◌, ◌-◌, ◌<◌, ◌≤◌, true, cond, ◌&&◌, eqb, ltb, leb, List, [], ◌∷◌, ◌++◌, map, length, take, drop, replicate, ℤ, Some, None, Ok, Err, sym, refl, ap, ◌∙◌, subst, ap₂, append_assoc, append-nil, arith, length-append}
use Rattle.std.proofs.lemmas.Grind.{flat_map-append}
use Rattle.std.proofs.lemmas.List.{drop_at, length-replicate, length-take-le, nil_from_length, take-append-drop, take_at}
use Rattle.std.proofs.lemmas.Bool.{and_parts, cond_both, cond-false, cond-true, eqb-false, le-ltb, leb-true, lt-ltb, ltb-false, ltb-true, ne_eqb}
use Rattle.tree.proofs.Walking.{fits_head}
use Rattle.tree.specs.declared.node.Node.TheVariants.{Keep}
use Rattle.tree.specs.Trees.{Tree, split, new, leaf, none, nodes, six_forms}
use Rattle.tree.specs.Limits.{AllFormsFit, TreeFits, WithinLimits}
use Rattle.tree.specs.Finds.{head_fits}
use Rattle.tree.specs.Kinds.{byte_of}
use Rattle.page.specs.declared.record.Flaw.TheVariants.{Number as FlawNumber}
use Rattle.page.specs.Words.{Bytes, all_bytes, bytes, forms, forms_bytes, word, words}
use Rattle.page.specs.Records.{Kind, Opened, body_length, flawed, one, opened_as, page_of, record_of, head as head_kind, keep as keep_kind, split as split_kind, new as new_kind, leaf as leaf_kind, none as none_kind}
use Rattle.page.specs.Fits.{form_fits, leaf_fits, new_fits}
use Rattle.page.specs.Readings.{Out, Reader, Whole, below, done, ended, fault, head_at, keep, keep_at, keeps, keeps_from, node, opening, parse, reading, taking, then, unless, whole}
use Rattle.page.specs.Pages.{Fits, IsPage, Refused, WrittenAccepted, checked, checked_as, list_of}
use Rattle.page.specs.Ties.{Allowed}
use Rattle.page.proofs.Words.{AllTen, Ten, form-of, forms-exact, forms-of, length-form, length-forms, length-six, length-words, word_bytes, words-exact}
use Rattle.page.proofs.Fitting.{form_in, form-out, form-ten, forms-tens, leaf-in, leaf-out, new-d, new_in, new-out, six-tens, zero_form}

-- ---- soundness: a record that is opened stands there

bytes_take : (m : ℕ) (bs : List ℕ) → Bytes bs → Bytes (take m bs)
bytes_take zero bs h = tt
bytes_take (suc m) [] h = tt
bytes_take (suc m) (b ∷ bs) h = (h.0, bytes_take m bs h.1)

bytes_drop : (m : ℕ) (bs : List ℕ) → Bytes bs → Bytes (drop m bs)
bytes_drop zero bs h = h
bytes_drop (suc m) [] h = tt
bytes_drop (suc m) (b ∷ bs) h = bytes_drop m bs h.1

abbrev Stands : List ℕ → Opened → Type 0
Stands bs (one k b r) = (bs ≡ byte_of k ∷ (b ++ r)) × ((length b ≡ body_length k) × (Bytes b × Bytes r))
Stands bs (flawed e) = Unit {0}

abbrev StandsBelow : ℕ → ℕ → List ℕ → Opened → Type 0
StandsBelow made left bs (one k b r) = Allowed made left k × Stands bs (one k b r)
StandsBelow made left bs (flawed e) = Unit {0}

stands : (made left : ℕ) (k : Kind) (bs : List ℕ) → Allowed made left k → Bytes bs → StandsBelow made left (byte_of k ∷ bs) (opened_as (Some k) bs)
stands made left k bs a h =
    cond_both (ltb (length bs) (body_length k)) (flawed _) (one k (take (body_length k) bs) (drop (body_length k) bs)) (StandsBelow made left (byte_of k ∷ bs)) (λ _. tt)
    (λ e. (a, (ap {B = List ℕ} (λ l. byte_of k ∷ l) (sym (take-append-drop (body_length k) bs)), (length-take-le (body_length k) bs (ltb-false (length bs) (body_length k) e), (bytes_take (body_length k) bs h, bytes_drop (body_length k) bs h)))))

opening-stands : (made left : ℕ) (bs : List ℕ) → Bytes bs → StandsBelow made left bs (opening made left bs)
opening-stands made left [] h = tt
opening-stands made left (zero ∷ bs) h = tt
opening-stands made left (suc zero ∷ bs) h = tt
opening-stands made left (suc (suc zero) ∷ bs) h = tt
opening-stands made left (suc (suc (suc zero)) ∷ bs) h =
    cond_both (eqb left 0) (Some _) None (λ e. StandsBelow made left (3 ∷ bs) (unless e (opened_as (Some split_kind) bs))) (λ _. tt) (λ z. stands made left split_kind bs (omega (arith, eqb-false left 0 z)) h.1)
opening-stands made left (suc (suc (suc (suc zero))) ∷ bs) h =
    cond_both (ltb made 5) None (Some _) (λ e. StandsBelow made left (4 ∷ bs) (unless e (opened_as (Some new_kind) bs))) (λ z. stands made left new_kind bs (ltb-true made 5 z) h.1) (λ _. tt)
opening-stands made left (suc (suc (suc (suc (suc zero)))) ∷ bs) h = stands made left leaf_kind bs tt h.1
opening-stands made left (suc (suc (suc (suc (suc (suc zero))))) ∷ bs) h = stands made left none_kind bs tt h.1
opening-stands made left (suc (suc (suc (suc (suc (suc (suc k)))))) ∷ bs) h = tt

-- ---- what is read stands there, is as W says, and bytes follow; a refusal says nothing

abbrev Good : {A : Type 0} → (A → List ℕ) → (A → Type 0) → List ℕ → Out A → Type 0
Good pg W bs (done x r) = (bs ≡ pg x ++ r) × (W x × Bytes r)
Good pg W bs (fault e r) = Unit {0}

then-good : {A B : Type 0} (pg : A → List ℕ) (W : A → Type 0) (bs : List ℕ) (pg' : B → List ℕ) (W' : B → Type 0) (bs' : List ℕ) (o : Out A) (k : A → List ℕ → Out B) → Good pg W bs o → ((x : A) (r : List ℕ) → bs ≡ pg x ++ r → W x → Bytes r → Good pg' W' bs' (k x r)) → Good pg' W' bs' (then o k)
then-good pg W bs pg' W' bs' (done x r) k g h = h x r g.0 g.1.0 g.1.1
then-good pg W bs pg' W' bs' (fault e r) k g h = tt

abbrev tree_page : Tree → List ℕ
tree_page t = page_of (nodes t)

-- a record, and what is after it
join : (k : ℕ) (a b p r r₁ : List ℕ) → a ≡ b → r ≡ p ++ r₁ → k ∷ (b ++ r) ≡ (k ∷ (a ++ p)) ++ r₁
join k a b p r r₁ e f = ap {B = List ℕ} (λ l. k ∷ l) (ap₂ ◌++◌ (sym e) f ∙ sym (append_assoc a p r₁))

join-two : (t u : Tree) (r r₁ r₂ : List ℕ) → r ≡ tree_page t ++ r₁ → r₁ ≡ tree_page u ++ r₂ → r ≡ page_of (nodes t ++ nodes u) ++ r₂
join-two t u r r₁ r₂ e f = e ∙ ap (λ l. tree_page t ++ l) f ∙ sym (append_assoc (tree_page t) (tree_page u) r₂) ∙ ap (λ l. l ++ r₂) (sym (flat_map-append record_of (nodes t) (nodes u)))

words_more : (n : ℕ) (b : List ℕ) → words (suc n) b ≡ word b ∷ words n (drop 4 b)
unfolding words
words_more n b = refl

new-body : (b : List ℕ) → Bytes b → length b ≡ 44 → bytes (word b) ++ all_bytes (words 10 (drop 4 b)) ≡ b
new-body b h l = ap all_bytes (sym (words_more 10 b)) ∙ words-exact 11 b h l

six-is : (n : ℕ) (Cs : List (List ℤ)) → n ≤ 6 → length Cs ≡ 6 → Cs ≡ take n Cs ++ replicate (6 - n) zero_form → six_forms (take n Cs) ≡ Cs
six-is n Cs h l e = ap (λ m. take n Cs ++ replicate (6 - m) zero_form) (length-take-le n Cs (omega (arith, l))) ∙ sym e

abbrev ReadsTrees : ℕ → ℕ → Reader → Type 0
ReadsTrees n p self = (made left : ℕ) (bs : List ℕ) → Bytes bs → Good tree_page (TreeFits n p made left) bs (self made left bs)

node-good : (n p : ℕ) → n ≤ 6 → (self : Reader) → ReadsTrees n p self → (made left : ℕ) (here : List ℕ) (k : Kind) (b r : List ℕ) → Allowed made left k → here ≡ byte_of k ∷ (b ++ r) → length b ≡ body_length k → Bytes b → Bytes r → Good tree_page (TreeFits n p made left) here (node self n p made left here k b r)
node-good n p six self s made left here head_kind b r a is l hb hr = tt
node-good n p six self s made left here keep_kind b r a is l hb hr = tt
node-good n p six self s made left here split_kind b r a is l hb hr =
    let C = words 10 b in
    cond_both (form_fits p made C) _ (fault _ here) (Good tree_page (TreeFits n p made left) here)
    (λ ok. then-good tree_page (TreeFits n p made (left - 1)) r tree_page (TreeFits n p made left) here (self made (left - 1) r) (λ t r₁. then (self made (left - 1) r₁) (λ u r₂. done (split C t u) r₂)) (s made (left - 1) r hr) (λ t r₁ e₁ f₁ h₁.
    then-good tree_page (TreeFits n p made (left - 1)) r₁ tree_page (TreeFits n p made left) here (self made (left - 1) r₁) (λ u r₂. done (split C t u) r₂) (s made (left - 1) r₁ h₁) (λ u r₂ e₂ f₂ h₂.
    (is ∙ join 3 (all_bytes C) b (page_of (nodes t ++ nodes u)) r r₂ (words-exact 10 b hb l) (join-two t u r r₁ r₂ e₁ e₂), ((a, (form-out p made C (length-words 10 b) ok, (f₁, f₂))), h₂)))))
    (λ _. tt)
node-good n p six self s made left here new_kind b r a is l hb hr =
    let d = word b in
    let T = words 10 (drop 4 b) in
    cond_both (new_fits p made d T) _ (fault _ here) (Good tree_page (TreeFits n p made left) here)
    (λ ok. then-good tree_page (TreeFits n p (suc made) left) r tree_page (TreeFits n p made left) here (self (suc made) left r) (λ t r₁. done (new d T t) r₁) (s (suc made) left r hr) (λ t r₁ e₁ f₁ h₁.
    (is ∙ join 4 (bytes d ++ all_bytes T) b (tree_page t) r r₁ (new-body b hb l) e₁, ((a, (new-out p made d T (length-words 10 (drop 4 b)) ok, f₁)), h₁))))
    (λ _. tt)
node-good n p six self s made left here leaf_kind b r a is l hb hr =
    let Cs = forms 6 b in
    cond_both (leaf_fits n p made Cs) _ (fault _ here) (Good tree_page (TreeFits n p made left) here)
    (λ ok. let f = leaf-out n p made Cs (6 - n) (forms-tens 6 b) (omega (arith, length-forms 6 b, six)) ok in
    let w = ap forms_bytes (six-is n Cs six (length-forms 6 b) f.1) ∙ forms-exact 6 b hb l in
    (is ∙ join 5 (forms_bytes (six_forms (take n Cs))) b [] r r w refl, ((length-take-le n Cs (omega (arith, length-forms 6 b, six)), f.0), hr)))
    (λ _. tt)
node-good n p six self s made left here none_kind b r a is l hb hr = (is ∙ ap (λ l. 6 ∷ (l ++ r)) (nil_from_length b l), (tt, hr))

taking-good : {A : Type 0} (pg : A → List ℕ) (W : A → Type 0) (made left : ℕ) (bs : List ℕ) (o : Opened) (K : Kind → List ℕ → List ℕ → Out A) → StandsBelow made left bs o → ((k : Kind) (b r : List ℕ) → Allowed made left k → bs ≡ byte_of k ∷ (b ++ r) → length b ≡ body_length k → Bytes b → Bytes r → Good pg W bs (K k b r)) → Good pg W bs (taking o bs K)
taking-good pg W made left bs (one k b r) K s h = h k b r s.0 s.1.0 s.1.1.0 s.1.1.1.0 s.1.1.1.1
taking-good pg W made left bs (flawed e) K s h = tt

parse-good : (n p : ℕ) → n ≤ 6 → (f : ℕ) → ReadsTrees n p (parse n p f)
unfolding parse
parse-good n p six zero made left bs h = tt
parse-good n p six (suc f) made left bs h =
    taking-good tree_page (TreeFits n p made left) made left bs (opening made left bs) (node (parse n p f) n p made left bs) (opening-stands made left bs h)
    (λ k b r a is l hb hr. node-good n p six (parse n p f) (parse-good n p six f) made left bs k b r a is l hb hr)

-- ---- the keeps

abbrev keep_page : List (List ℤ) → List ℕ
keep_page Cs = page_of (map Keep Cs)

abbrev Kept : ℕ → ℕ → List (List ℤ) → Type 0
Kept p c Cs = (length Cs ≤ c) × AllFormsFit p 0 Cs

keep-good : (p c : ℕ) (self : List ℕ → Out (List (List ℤ))) → ((bs : List ℕ) → Bytes bs → Good keep_page (Kept p c) bs (self bs)) → (bs : List ℕ) → Bytes bs → Good keep_page (Kept p (suc c)) (2 ∷ bs) (taking (opened_as (Some keep_kind) bs) (2 ∷ bs) (keep self p (2 ∷ bs)))
keep-good p c self s bs h =
    cond_both (ltb (length bs) 40) (flawed _) (one keep_kind (take 40 bs) (drop 40 bs)) (λ o. Good keep_page (Kept p (suc c)) (2 ∷ bs) (taking o (2 ∷ bs) (keep self p (2 ∷ bs)))) (λ _. tt)
    (λ e. let b = take 40 bs in
    let r = drop 40 bs in
    let C = words 10 b in
    cond_both (form_fits p 0 C) _ (fault _ (2 ∷ bs)) (Good keep_page (Kept p (suc c)) (2 ∷ bs))
    (λ ok. then-good keep_page (Kept p c) r keep_page (Kept p (suc c)) (2 ∷ bs) (self r) (λ Cs r₁. done (C ∷ Cs) r₁) (s r (bytes_drop 40 bs h)) (λ Cs r₁ e₁ f₁ h₁.
    (ap {B = List ℕ} (λ l. 2 ∷ l) (sym (take-append-drop 40 bs)) ∙ join 2 (all_bytes C) b (keep_page Cs) r r₁ (words-exact 10 b (bytes_take 40 bs h) (length-take-le 40 bs (ltb-false (length bs) 40 e))) e₁, ((omega (arith, f₁.0), (form-out p 0 C (length-words 10 b) ok, f₁.1)), h₁))))
    (λ _. tt))

keeps-good : (p c : ℕ) (bs : List ℕ) → Bytes bs → Good keep_page (Kept p c) bs (keeps p c bs)
unfolding keeps
keeps-good p zero bs h = (refl, ((omega arith, tt), h))
keeps-good p (suc c) [] h = (refl, ((omega arith, tt), h))
keeps-good p (suc c) (zero ∷ bs) h = (refl, ((omega arith, tt), h))
keeps-good p (suc c) (suc zero ∷ bs) h = (refl, ((omega arith, tt), h))
keeps-good p (suc c) (suc (suc zero) ∷ bs) h = keep-good p c (keeps p c) (keeps-good p c) bs h.1
keeps-good p (suc c) (suc (suc (suc zero)) ∷ bs) h = (refl, ((omega arith, tt), h))
keeps-good p (suc c) (suc (suc (suc (suc zero))) ∷ bs) h = (refl, ((omega arith, tt), h))
keeps-good p (suc c) (suc (suc (suc (suc (suc zero)))) ∷ bs) h = (refl, ((omega arith, tt), h))
keeps-good p (suc c) (suc (suc (suc (suc (suc (suc zero))))) ∷ bs) h = (refl, ((omega arith, tt), h))
keeps-good p (suc c) (suc (suc (suc (suc (suc (suc (suc k)))))) ∷ bs) h = (refl, ((omega arith, tt), h))

-- ---- the head, and the whole

abbrev whole_page : Whole → List ℕ
whole_page w = page_of (list_of w)

-- what is read to the end is the page of a tree within the limits
abbrev Right : List ℕ → Out Whole → Type 0
Right bs (done w r) = IsPage bs w
Right bs (fault e r) = Unit {0}

then-right : {A : Type 0} (pg : A → List ℕ) (W : A → Type 0) (bs bs' : List ℕ) (o : Out A) (k : A → List ℕ → Out Whole) → Good pg W bs o → ((x : A) (r : List ℕ) → bs ≡ pg x ++ r → W x → Bytes r → Right bs' (k x r)) → Right bs' (then o k)
then-right pg W bs bs' (done x r) k g h = h x r g.0 g.1.0 g.1.1
then-right pg W bs bs' (fault e r) k g h = tt

ended-right : (n p : ℕ) (Cs : List (List ℤ)) (t : Tree) (bs r : List ℕ) → bs ≡ whole_page (whole n p Cs t) ++ r → WithinLimits n p Cs t → Right bs (ended n p Cs t r)
ended-right n p Cs t bs [] e f = (f, e ∙ append-nil (whole_page (whole n p Cs t)))
ended-right n p Cs t bs (b ∷ r) e f = tt

below_right : (n p : ℕ) (bs : List ℕ) → head_fits n p ≡ true → Bytes bs → Right (1 ∷ n ∷ p ∷ bs) (below n p bs)
below_right n p bs ok h =
    let v = and_parts (leb 1 n && leb n 6) (leb p 4) ok in
    let u = and_parts (leb 1 n) (leb n 6) v.0 in
    let six = leb-true n 6 u.1 in
    then-right keep_page (Kept p 8) bs (1 ∷ n ∷ p ∷ bs) (keeps p 8 bs) (λ Cs r₁. then (parse n p 18 0 12 r₁) (λ t r₂. ended n p Cs t r₂)) (keeps-good p 8 bs h) (λ Cs r₁ e₁ f₁ h₁.
    then-right tree_page (TreeFits n p 0 12) r₁ (1 ∷ n ∷ p ∷ bs) (parse n p 18 0 12 r₁) (λ t r₂. ended n p Cs t r₂) (parse-good n p six 18 0 12 r₁ h₁) (λ t r₂ e₂ f₂ h₂.
    ended-right n p Cs t (1 ∷ n ∷ p ∷ bs) r₂
    (ap {B = List ℕ} (λ l. 1 ∷ n ∷ p ∷ l) (e₁ ∙ ap (λ l. keep_page Cs ++ l) e₂ ∙ sym (append_assoc (keep_page Cs) (tree_page t) r₂) ∙ ap (λ l. l ++ r₂) (sym (flat_map-append record_of (map Keep Cs) (nodes t)))))
    (record { unknowns_least = leb-true 1 n u.0; unknowns_most = six; parameters_most = leb-true p 4 v.1; keeps_most = f₁.0; keeps_fit = f₁.1; tree_fits = f₂ })))

head-right : (bs b r : List ℕ) → bs ≡ 1 ∷ (b ++ r) → length b ≡ 2 → Bytes r → Right bs (head_at bs head_kind b r)
head-right bs [] r is l h = absurd (let no : ⊥ = omega (arith, l) in no)
head-right bs (n ∷ []) r is l h = absurd (let no : ⊥ = omega (arith, l) in no)
head-right bs (n ∷ p ∷ []) r is l h = cond_both (head_fits n p) _ (fault _ bs) (Right bs) (λ ok. subst (λ l. Right l (below n p r)) (sym is) (below_right n p r ok h)) (λ _. tt)
head-right bs (n ∷ p ∷ (x ∷ b)) r is l h = absurd (let no : ⊥ = omega (arith, l) in no)

reading-right : (bs : List ℕ) → Bytes bs → Right bs (reading bs)
reading-right [] h = tt
reading-right (zero ∷ bs) h = tt
reading-right (suc zero ∷ bs) h =
    let o : Opened = opened_as (Some head_kind) bs in
    first o (stands 0 0 head_kind bs tt h.1) where
      first : (o : Opened) → StandsBelow 0 0 (1 ∷ bs) o → Right (1 ∷ bs) (taking o (1 ∷ bs) (head_at (1 ∷ bs)))
      first (one head_kind b r) s = head-right (1 ∷ bs) b r s.1.0 s.1.1.0 s.1.1.1.1
      first (one keep_kind b r) s = tt
      first (one split_kind b r) s = tt
      first (one new_kind b r) s = tt
      first (one leaf_kind b r) s = tt
      first (one none_kind b r) s = tt
      first (flawed e) s = tt
reading-right (suc (suc zero) ∷ bs) h = tt
reading-right (suc (suc (suc zero)) ∷ bs) h = tt
reading-right (suc (suc (suc (suc zero))) ∷ bs) h = tt
reading-right (suc (suc (suc (suc (suc zero)))) ∷ bs) h = tt
reading-right (suc (suc (suc (suc (suc (suc zero))))) ∷ bs) h = tt
reading-right (suc (suc (suc (suc (suc (suc (suc k)))))) ∷ bs) h = tt

-- ---- completeness: a record that is written is opened

pub opened-is : (k : Kind) (b r : List ℕ) → length b ≡ body_length k → opened_as (Some k) (b ++ r) ≡ one k b r
opened-is k b r l =
    let long : body_length k ≤ length (b ++ r) = omega (arith, l, length-append b r) in
    cond-false (ltb (length (b ++ r)) (body_length k)) _ _ (le-ltb (length (b ++ r)) (body_length k) long) ∙ ap₂ (one k) (take_at b r (body_length k) l) (drop_at b r (body_length k) l)

pub form-exact : (C : List ℤ) → Ten C → words 10 (all_bytes C) ≡ C
form-exact C t = ap (words 10) (sym (append-nil (all_bytes C))) ∙ form-of C [] t

pub six-exact : (Cs : List (List ℤ)) → AllTen Cs → length Cs ≡ 6 → forms 6 (forms_bytes Cs) ≡ Cs
six-exact Cs t l = ap₂ forms (sym l) (sym (append-nil (forms_bytes Cs))) ∙ forms-of Cs [] t

parse-at : (n p f made left : ℕ) (L : List ℕ) (k : Kind) (b r : List ℕ) → opening made left L ≡ one k b r → parse n p (suc f) made left L ≡ node (parse n p f) n p made left L k b r
unfolding parse
parse-at n p f made left L k b r e = ap (λ o. taking o L (node (parse n p f) n p made left L)) e

complete : (n p : ℕ) → n ≤ 6 → (t : Tree) (f made left : ℕ) (r : List ℕ) → left + (5 - made) < f → TreeFits n p made left t → parse n p f made left (tree_page t ++ r) ≡ done t r
complete n p six t zero made left r lt h = absurd (let no : ⊥ = omega (arith, lt) in no)
complete n p six (split C t u) (suc f) made left r lt h =
    let less : left - 1 + (5 - made) < f = omega (arith, h.0, lt) in
    let ten = form-ten p made C h.1.0 in
    let b = all_bytes C in
    let rest = tree_page t ++ (tree_page u ++ r) in
    let q : tree_page (split C t u) ++ r ≡ 3 ∷ (b ++ rest) =
    ap {B = List ℕ} (λ l. 3 ∷ l) (append_assoc b (page_of (nodes t ++ nodes u)) r ∙ ap (λ l. b ++ l) (ap (λ l. l ++ r) (flat_map-append record_of (nodes t) (nodes u)) ∙ append_assoc (tree_page t) (tree_page u) r)) in
    let o : opening made left (3 ∷ (b ++ rest)) ≡ one split_kind b rest =
    ap (λ e. unless e (opened_as (Some split_kind) (b ++ rest))) (cond-false (eqb left 0) _ _ (ne_eqb left 0 (omega (arith, h.0)))) ∙ opened-is split_kind b rest (length-form C ten) in
    ap (parse n p (suc f) made left) q
    ∙ parse-at n p f made left (3 ∷ (b ++ rest)) split_kind b rest o
    ∙ ap (λ D. cond (form_fits p made D) (then (parse n p f made (left - 1) rest) (λ t r₁. then (parse n p f made (left - 1) r₁) (λ u r₂. done (split D t u) r₂))) (fault FlawNumber (3 ∷ (b ++ rest)))) (form-exact C ten)
    ∙ cond-true (form_fits p made C) _ _ (form_in p made C h.1.0)
    ∙ ap (λ o. then o (λ t r₁. then (parse n p f made (left - 1) r₁) (λ u r₂. done (split C t u) r₂))) (complete n p six t f made (left - 1) (tree_page u ++ r) less h.1.1.0)
    ∙ ap (λ o. then o (λ u r₂. done (split C t u) r₂)) (complete n p six u f made (left - 1) r less h.1.1.1)
complete n p six (new d T t) (suc f) made left r lt h =
    let fits = h.1.0 in
    let ten = form-ten p made T fits.form in
    let b = bytes d ++ all_bytes T in
    let rest = tree_page t ++ r in
    let l : length b ≡ 44 = omega (arith, length-form T ten) in
    let o : opening made left (4 ∷ (b ++ rest)) ≡ one new_kind b rest =
    ap (λ e. unless e (opened_as (Some new_kind) (b ++ rest))) (cond-true (ltb made 5) _ _ (lt-ltb made 5 h.0)) ∙ opened-is new_kind b rest l in
    ap (parse n p (suc f) made left) (ap {B = List ℕ} (λ l. 4 ∷ l) (append_assoc b (tree_page t) r))
    ∙ parse-at n p f made left (4 ∷ (b ++ rest)) new_kind b rest o
    ∙ ap₂ (λ e D. cond (new_fits p made e D) (then (parse n p f (suc made) left rest) (λ t r₁. done (new e D t) r₁)) (fault FlawNumber (4 ∷ (b ++ rest)))) (word_bytes d (all_bytes T) (new-d p made d T fits)) (form-exact T ten)
    ∙ cond-true (new_fits p made d T) _ _ (new_in p made d T fits)
    ∙ ap (λ o. then o (λ t r₁. done (new d T t) r₁)) (complete n p six t f (suc made) left r (omega (arith, h.0, lt)) h.1.1)
complete n p six (leaf Cs) (suc f) made left r lt h =
    let all = six_forms Cs in
    let b = forms_bytes all in
    let tens = six-tens p made Cs (6 - length Cs) h.1 in
    let l : length all ≡ 6 = omega (arith, length-append Cs (replicate (6 - length Cs) zero_form), length-replicate (6 - length Cs) zero_form, h.0, six) in
    let o : opening made left (5 ∷ (b ++ r)) ≡ one leaf_kind b r = opened-is leaf_kind b r (omega (arith, length-six all tens, l)) in
    ap (parse n p (suc f) made left) (ap {B = List ℕ} (λ l. 5 ∷ (l ++ r)) (append-nil b))
    ∙ parse-at n p f made left (5 ∷ (b ++ r)) leaf_kind b r o
    ∙ ap (λ Ds. cond (leaf_fits n p made Ds) (done (leaf (take n Ds)) r) (fault FlawNumber (5 ∷ (b ++ r)))) (six-exact all tens l)
    ∙ cond-true (leaf_fits n p made all) _ _ (ap (λ m. leaf_fits m p made all) (sym h.0) ∙ leaf-in p made Cs (6 - length Cs) h.1)
    ∙ ap (λ Ds. done (leaf Ds) r) (take_at Cs (replicate (6 - length Cs) zero_form) n h.0)
complete n p six none (suc f) made left r lt h = parse-at n p f made left (6 ∷ r) none_kind [] r (opened-is none_kind [] r refl)

-- a tree's page begins with no keep
no-keep : (t : Tree) → keep_at (tree_page t) ≡ None
no-keep (split C t u) = refl
no-keep (new d T t) = refl
no-keep (leaf Cs) = refl
no-keep none = refl

keeps-is : (p c : ℕ) (Cs : List (List ℤ)) (r : List ℕ) → length Cs ≤ c → AllFormsFit p 0 Cs → keep_at r ≡ None → keeps p c (keep_page Cs ++ r) ≡ done Cs r
unfolding keeps
keeps-is p zero [] r l h s = refl
keeps-is p (suc c) [] r l h s = ap (keeps_from (keeps p c) p r) s
keeps-is p zero (C ∷ Cs) r l h s = absurd (let no : ⊥ = omega arith in no)
keeps-is p (suc c) (C ∷ Cs) r l h s =
    let ten = form-ten p 0 C h.0 in
    let b = all_bytes C in
    let rest = keep_page Cs ++ r in
    ap (λ l. taking (opened_as (Some keep_kind) l) (2 ∷ l) (keep (keeps p c) p (2 ∷ l))) (append_assoc b (keep_page Cs) r)
    ∙ ap (λ o. taking o (2 ∷ (b ++ rest)) (keep (keeps p c) p (2 ∷ (b ++ rest)))) (opened-is keep_kind b rest (length-form C ten))
    ∙ ap (λ D. cond (form_fits p 0 D) (then (keeps p c rest) (λ Ds r₁. done (D ∷ Ds) r₁)) (fault FlawNumber (2 ∷ (b ++ rest)))) (form-exact C ten)
    ∙ cond-true (form_fits p 0 C) _ _ (form_in p 0 C h.0)
    ∙ ap (λ o. then o (λ Ds r₁. done (C ∷ Ds) r₁)) (keeps-is p c Cs r (omega arith) h.1 s)

of-page : (w : Whole) → Fits w → reading (whole_page w) ≡ done w []
of-page (whole n p Cs t) f =
    let rest = page_of (map Keep Cs ++ nodes t) in
    let L : List ℕ = 1 ∷ n ∷ p ∷ rest in
    ap (λ o. taking o L (head_at L)) (opened-is head_kind (n ∷ p ∷ []) rest refl)
    ∙ cond-true (head_fits n p) _ _ (fits_head n p f.unknowns_least f.unknowns_most f.parameters_most)
    ∙ ap (below n p) (flat_map-append record_of (map Keep Cs) (nodes t))
    ∙ ap (λ o. then o (λ Cs r₁. then (parse n p 18 0 12 r₁) (λ t r₂. ended n p Cs t r₂))) (keeps-is p 8 Cs (tree_page t) f.keeps_most f.keeps_fit (no-keep t))
    ∙ ap (λ o. then o (λ t r₂. ended n p Cs t r₂)) (ap (parse n p 18 0 12) (sym (append-nil (tree_page t))) ∙ complete n p f.unknowns_most t 18 0 12 [] (omega arith) f.tree_fits)

-- ---- the laws

read-page : (bs : List ℕ) (w : Whole) → IsPage bs w → reading bs ≡ done w []
read-page bs w i = ap reading i.1 ∙ of-page w i.0

done-same : (w v : Whole) (r s : List ℕ) → done w r ≡ done v s → w ≡ v
done-same w v r s e = cc

-- an accepted page is that of a tree within the limits, and of no other such tree
pub one-tree : (bs : List ℕ) → Bytes bs → (k : ℕ) → checked bs ≡ Ok k → (w : Whole) × (IsPage bs w × ((k ≡ length (list_of w)) × ((v : Whole) → IsPage bs v → v ≡ w)))
one-tree bs h k e = go (reading bs) (reading-right bs h) (read-page bs) e where
  go : (o : Out Whole) → Right bs o → ((v : Whole) → IsPage bs v → o ≡ done v []) → checked_as bs o ≡ Ok k → (w : Whole) × (IsPage bs w × ((k ≡ length (list_of w)) × ((v : Whole) → IsPage bs v → v ≡ w)))
  go (done w r) g same c = let q : k ≡ length (list_of w) = cc in (w, (g, (q, λ v i. sym (done-same w v r [] (same v i)))))
  go (fault f r) g same c = let z : ◌≡◌ {A = ℕ} 0 1 = cc in absurd (let no : ⊥ = omega arith in no)

pub written : (bs : List ℕ) → WrittenAccepted bs (checked bs)
written bs w i = ap (checked_as bs) (read-page bs w i)

pub refused : (bs : List ℕ) → Refused bs (checked bs)
refused bs e is w i = let q : Ok (length (list_of w)) ≡ Err e = sym (ap (checked_as bs) (read-page bs w i)) ∙ is in let z : ◌≡◌ {A = ℕ} 0 1 = cc in omega arith
