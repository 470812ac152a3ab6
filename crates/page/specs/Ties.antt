-- What the code answers, held to the definitions.
use Rattle.std.specs.Prelude.{◌≡◌, ℕ, ◌+◌, ◌-◌, ◌<◌, ◌≤◌, Bool, true, false, List, [], ◌∷◌, length, drop, ℤ, Ok, Err, Result, ◌==◌}
use Rattle.std.specs.Borrow.{Bor}
use Rattle.page.specs.declared.record.Flaw.{Flaw}
use Rattle.page.specs.declared.record.Record.{Record}
use Rattle.page.specs.declared.record.Record.TheVariants.{Head, Keep, Split, New, Leaf, None}
use Rattle.tree.specs.Trees.{Tree, nodes}
use Rattle.page.specs.declared.check.Fault.{Fault}
use Rattle.page.specs.Fits.{form_fits, leaf_fits, new_fits}
use Rattle.page.specs.Words.{forms, word, words}
use Rattle.page.specs.Readings.{Out, Whole, below, done, fault, reading}
use Rattle.page.specs.Pages.{flaw_report, list_of, refusal_of}
use Rattle.page.specs.declared.back.Placed.{Placed}
use Rattle.base.specs.declared.refusal.Refusal.{Refusal}
use Rattle.base.specs.declared.refusal.Report.{Report}
use Rattle.tree.specs.Finds.{head_fits}
use Rattle.page.specs.declared.check.Top.{Top}
use Rattle.page.specs.Records.{Kind, Opened, flawed, head, keep, leaf, new, none, one, opened, split}

abbrev pub kind_in : Record → Kind
kind_in (Head b) = head
kind_in (Keep b) = keep
kind_in (Split b) = split
kind_in (New b) = new
kind_in (Leaf b) = leaf
kind_in None = none

abbrev pub body_in : Record → List ℕ
body_in (Head b) = b.now
body_in (Keep b) = b.now
body_in (Split b) = b.now
body_in (New b) = b.now
body_in (Leaf b) = b.now
body_in None = []

-- the record that was read is the one that stands first
abbrev pub Reads : Opened → Result (Record × Bor (List ℕ)) Flaw → Type 0
Reads (one k b r) (Ok q) = (kind_in q.0 ≡ k) × ((body_in q.0 ≡ b) × (q.1.now ≡ r))
Reads (one k b r) (Err f) = ⊥
Reads (flawed e) (Ok q) = ⊥
Reads (flawed e) (Err f) = f ≡ e

-- the kind of the record may stand there
abbrev pub Allowed : ℕ → ℕ → Kind → Type 0
Allowed made left head = Unit {0}
Allowed made left keep = Unit {0}
Allowed made left split = 0 < left
Allowed made left new = made < 5
Allowed made left leaf = Unit {0}
Allowed made left none = Unit {0}

-- the numbers of a record are within the limits
abbrev pub record_fits : ℕ → ℕ → ℕ → Kind → List ℕ → Bool
record_fits n p made head b = true
record_fits n p made keep b = true
record_fits n p made split b = form_fits p made (words 10 b)
record_fits n p made new b = new_fits p made (word b) (words 10 (drop 4 b))
record_fits n p made leaf b = leaf_fits n p made (forms 6 b)
record_fits n p made none b = true

-- what was read of a value is counted and handed on, or refused where the reading refuses
abbrev pub Agrees : {A : Type 0} → (A → ℕ) → Out A → Result (Bor (List ℕ) × ℕ) Fault → Type 0
Agrees count (done x r) (Ok q) = (q.0.now ≡ r) × (q.1 ≡ count x)
Agrees count (done x r) (Err f) = ⊥
Agrees count (fault e r) (Ok q) = ⊥
Agrees count (fault e r) (Err f) = (f.flaw ≡ e) × (f.at.now ≡ r)

-- it lies in what was given, and each node takes a byte at least
abbrev pub Inside : List ℕ → Result (Bor (List ℕ) × ℕ) Fault → Type 0
Inside bs (Ok q) = q.1 + length q.0.now ≤ length bs
Inside bs (Err f) = length f.at.now ≤ length bs

abbrev pub node_count : Tree → ℕ
node_count t = length (nodes t)

abbrev pub keep_count : List (List ℤ) → ℕ
keep_count Cs = length Cs

abbrev pub keep_first : List ℕ → Bool
keep_first [] = false
keep_first (b ∷ bs) = b == 2

-- the head is read, and what comes after it is left to read; or the page is refused there
abbrev pub Heads : List ℕ → Out Whole → List ℕ → Result Top Fault → Type 0
Heads bs o rest (Ok t) = (head_fits t.n t.p ≡ true) × ((o ≡ below t.n t.p t.rest.now) × (t.rest.now ≡ rest))
Heads bs o rest (Err f) = (o ≡ fault f.flaw f.at.now) × (f.at.now ≡ bs)

abbrev pub HeadReads : List ℕ → Result Top Fault → Type 0
HeadReads bs (Ok t) = (reading bs ≡ below t.n t.p t.rest.now) × (length t.rest.now + 1 ≤ length bs)
HeadReads bs (Err f) = (reading bs ≡ fault f.flaw f.at.now) × (length f.at.now ≤ length bs)

-- the whole page is read, and its nodes are counted; or it is refused
abbrev pub WholeReads : List ℕ → Result ℕ Fault → Type 0
WholeReads bs (Ok k) = (w : Whole) × ((r : List ℕ) × ((reading bs ≡ done w r) × (k ≡ length (list_of w))))
WholeReads bs (Err f) = (reading bs ≡ fault f.flaw f.at.now) × (length f.at.now ≤ length bs)

-- the record that stands at offset i, with its offset and the next one's; or why there is none
abbrev pub PlacedAt : List ℕ → ℕ → Result Placed Refusal → Type 0
PlacedAt bs i (Ok x) = (x.offset ≡ i) × ((rest : List ℕ) × ((opened (drop i bs) ≡ one (kind_in x.found) (body_in x.found) rest) × (x.next ≡ length bs - length rest)))
PlacedAt bs i (Err e) = (f : Flaw) × ((opened (drop i bs) ≡ flawed f) × (e ≡ refusal_of f i))

-- in numbers, why there is none: 51 or 52, and the offset
abbrev pub ReportedAt : List ℕ → ℕ → Report → Type 0
ReportedAt bs i report = (f : Flaw) × ((opened (drop i bs) ≡ flawed f) × (report ≡ flaw_report f i))
