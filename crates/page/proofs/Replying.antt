-- A page asked record by record.
use Rattle.std.proofs.Common.{◌≡◌, ◌≢◌, ℕ, zero, suc, ◌+◌, ◌-◌, ◌≤◌, Bool, true, false, cond, eqb, List, [], ◌∷◌, length, map, ℤ, nat_abs, Ok, Err, sym, refl, ap, ◌∙◌, arith, Bor}
use Rattle.base.specs.declared.refusal.Refusal.TheVariants.{NoTree, PointLength, PointNumber, OutsideKeep}
use Rattle.base.specs.Refusals.{and_then}
use Rattle.tree.specs.declared.node.Node.{Node}
use Rattle.tree.specs.declared.state.Walk.{Walk}
use Rattle.tree.specs.Answers.{answer_at, setting}
use Rattle.tree.specs.Finds.{found_in, is_point}
use Rattle.tree.specs.Questions.{asked, keeps_hold}
use Rattle.tree.specs.Trees.{Tree}
use Rattle.tree.specs.Walks.{Follows, answer_of, in_six}
use Rattle.tree.proofs.Walking.{as_within}
use Rattle.page.specs.declared.record.Flaw.{Flaw}
use Rattle.page.specs.declared.record.Flaw.TheVariants.{Length as FlawLength, Kind as FlawKind, Number as FlawNumber, Depth as FlawDepth}
use Rattle.page.specs.declared.record.Record.{Record}
use Rattle.page.specs.Words.{Bytes}
use Rattle.page.specs.Records.{node_of, nodes_in, opened}
use Rattle.page.specs.Readings.{Out, Whole, done, fault, reading, whole}
use Rattle.page.specs.Pages.{IsPage, checked_as, list_of, refusal_of}
use Rattle.page.specs.Replies.{RepliesAsTree, replied, unless_broken}
use Rattle.page.specs.Ties.{Reads, body_in, kind_in}
use Rattle.page.proofs.Reading.{one-tree, written}
use Rattle.page.proofs.Regained.{node-first, node-none, page-back}

-- ---- the turns of the loop

-- the records that are still to come answer the walk's question as all of the page's do
abbrev pub Asking : Walk → List ℕ → List ℕ → List ℤ → Type 0
Asking w rest page point = (f : ℕ) × ((length rest ≤ f) × ((w.past + f ≤ length page) × (answer_of w (nodes_in f rest) ≡ in_six (found_in (nodes_in (length page) page) point))))

pub asking-start : (w : Walk) (page : List ℕ) (point : List ℤ) → w.past ≡ 0 → ((list : List Node) → answer_of w list ≡ in_six (found_in list point)) → Asking w page page point
asking-start w page point none start = (length page, (omega arith, (omega (arith, none), start (nodes_in (length page) page))))

pub asking-on : (w v : Walk) (rest page : List ℕ) (point : List ℤ) (q : Record × Bor (List ℕ)) (x : Node) → Asking w rest page point → Reads (opened rest) (Ok q) → length q.1.now + 1 ≤ length rest → x ≡ node_of (kind_in q.0) (body_in q.0) → Follows w x v → Asking v q.1.now page point
asking-on w v rest page point q x (zero, a) s h is f = absurd (let no : ⊥ = omega (arith, a.0, h) in no)
asking-on w v rest page point q x (suc g, a) s h is f =
    let first : nodes_in (suc g) rest ≡ x ∷ nodes_in g q.1.now = node-first g rest q s ∙ ap (λ y. y ∷ nodes_in g q.1.now) (sym is) in
    (g, (omega (arith, a.0, h), (omega (arith, a.1.0, f.0), sym (f.1 (nodes_in g q.1.now)) ∙ ap (answer_of w) (sym first) ∙ a.1.1)))

pub asking-end : (w : Walk) (rest page : List ℕ) (point : List ℤ) (e : Flaw) → Asking w rest page point → Reads (opened rest) (Err e) → answer_of w [] ≡ in_six (found_in (nodes_in (length page) page) point)
asking-end w rest page point e (f, a) s = ap (answer_of w) (sym (node-none f rest e s)) ∙ a.1.1

-- ---- the laws

pub replies_as_tree : (bs : List ℕ) (point : List ℤ) → RepliesAsTree bs point
replies_as_tree bs point n p keeps t f is =
    let w = whole n p keeps t in
    let page : IsPage bs w = (f, is) in
    ap (λ r. unless_broken r (found_in (nodes_in (length bs) bs) point)) (written bs w page)
    ∙ ap (λ l. found_in l point) (page-back bs w page)
    ∙ as_within (list_of w) point n p keeps t f refl

-- a tree's answer is never that there is none
never : (p : ℕ) (keeps : List (List ℤ)) (t : Tree) (point : List ℤ) → asked p keeps t point ≢ Err NoTree
never p keeps t point = go (eqb (length point) p) (is_point point) (keeps_hold keeps (setting (map nat_abs point))) where
  go : (a b c : Bool) → and_then (cond a (cond b (Ok tt) (Err PointNumber)) (Err PointLength)) (cond c (Ok (answer_at t (map nat_abs point))) (Err OutsideKeep)) ≢ Err NoTree
  go true true true e = let z : ◌≡◌ {A = ℕ} 0 1 = cc in absurd (let no : ⊥ = omega arith in no)
  go true true false e = let z : ◌≡◌ {A = ℕ} 0 1 = cc in absurd (let no : ⊥ = omega arith in no)
  go true false c e = let z : ◌≡◌ {A = ℕ} 0 1 = cc in absurd (let no : ⊥ = omega arith in no)
  go false b c e = let z : ◌≡◌ {A = ℕ} 0 1 = cc in absurd (let no : ⊥ = omega arith in no)

-- a refusal of the check is another
broken : (f : Flaw) (offset : ℕ) → refusal_of f offset ≢ NoTree
broken FlawLength offset e = let z : ◌≡◌ {A = ℕ} 0 1 = cc in absurd (let no : ⊥ = omega arith in no)
broken FlawKind offset e = let z : ◌≡◌ {A = ℕ} 0 1 = cc in absurd (let no : ⊥ = omega arith in no)
broken FlawNumber offset e = let z : ◌≡◌ {A = ℕ} 0 1 = cc in absurd (let no : ⊥ = omega arith in no)
broken FlawDepth offset e = let z : ◌≡◌ {A = ℕ} 0 1 = cc in absurd (let no : ⊥ = omega arith in no)

of-page : (bs : List ℕ) (point : List ℤ) (w : Whole) → IsPage bs w → replied bs point ≢ Err NoTree
of-page bs point (whole n p keeps t) i e = never p keeps t point (sym (replies_as_tree bs point n p keeps t i.0 i.1) ∙ e)

pub has_tree : (bs : List ℕ) (point : List ℤ) → Bytes bs → replied bs point ≢ Err NoTree
has_tree bs point h e = go (reading bs) refl where
  go : (o : Out Whole) → reading bs ≡ o → ⊥
  go (done w r) q = let o = one-tree bs h (length (list_of w)) (ap (checked_as bs) q) in of-page bs point o.0 o.1.0 e
  go (fault f r) q =
      let x = refusal_of f (length bs - length r) in
      let is : replied bs point ≡ Err x = ap (λ o. unless_broken (checked_as bs o) (found_in (nodes_in (length bs) bs) point)) q in
      let same : x ≡ NoTree = cc in
      broken f (length bs - length r) same
