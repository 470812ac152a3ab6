-- The reading of a page: the tree that it is the page of, or the record that is refused and why.
use Rattle.std.specs.Prelude.{ℕ, zero, suc, ◌-◌, cond, List, [], ◌∷◌, take, drop, ℤ, Some, None, Option, ◌==◌, nat_lt, slice_index}
use Rattle.tree.specs.Trees.{Tree, split, new, leaf, none}
use Rattle.tree.specs.Finds.{head_fits}
use Rattle.page.specs.declared.record.Flaw.{Flaw}
use Rattle.page.specs.declared.record.Flaw.TheVariants.{Length as FlawLength, Kind as FlawKind, Number as FlawNumber, Depth as FlawDepth}
use Rattle.page.specs.Fits.{form_fits, leaf_fits, new_fits}
use Rattle.page.specs.Records.{Kind, Opened, flawed, kind_of, one, opened, head as head_kind, keep as keep_kind, split as split_kind, new as new_kind, leaf as leaf_kind, none as none_kind}
use Rattle.page.specs.Words.{forms, word, words}

-- a whole tree: its head, its keeps and what stands below them
pub data Whole : Type 0 where
  whole : ℕ → ℕ → List (List ℤ) → Tree → Whole

-- what a reading comes to: a value and the bytes after it, or why and the bytes from the refused record on
pub data Out (A : Type 0) : Type 0 where
  done : A → List ℕ → Out A
  fault : Flaw → List ℕ → Out A

abbrev pub then : {A B : Type 0} → Out A → (A → List ℕ → Out B) → Out B
then (done x r) k = k x r
then (fault e r) k = fault e r

-- an objection comes before the record is opened, whose body may be missing
abbrev pub unless : Option Flaw → Opened → Opened
unless (Some e) o = flawed e
unless None o = o

-- the record that stands first, handed on; `here` is where it stands
abbrev pub taking : {A : Type 0} → Opened → List ℕ → (Kind → List ℕ → List ℕ → Out A) → Out A
taking (flawed e) here k = fault e here
taking (one kind b r) here k = k kind b r

-- what is wrong with a kind below the head and the keeps, where `made` new parameters are on the path and `left` splits may follow
abbrev pub objection : ℕ → ℕ → Option Kind → Option Flaw
objection made left None = Some FlawKind
objection made left (Some head_kind) = Some FlawKind
objection made left (Some keep_kind) = Some FlawKind
objection made left (Some split_kind) = cond (left == 0) (Some FlawDepth) None
objection made left (Some new_kind) = cond (nat_lt made 5) None (Some FlawDepth)
objection made left (Some leaf_kind) = None
objection made left (Some none_kind) = None

abbrev pub opening : ℕ → ℕ → List ℕ → Opened
opening made left [] = flawed FlawLength
opening made left (b ∷ bs) = unless (objection made left (kind_of b)) (opened (b ∷ bs))

abbrev pub Reader : Type 0
Reader = ℕ → ℕ → List ℕ → Out Tree

-- a record's numbers, and the trees below it
abbrev pub node : Reader → ℕ → ℕ → ℕ → ℕ → List ℕ → Kind → List ℕ → List ℕ → Out Tree
node self n p made left here split_kind b r =
    cond (form_fits p made (words 10 b)) (then (self made (left - 1) r) (λ t r₁. then (self made (left - 1) r₁) (λ u r₂. done (split (words 10 b) t u) r₂))) (fault FlawNumber here)
node self n p made left here new_kind b r =
    cond (new_fits p made (word b) (words 10 (drop 4 b))) (then (self (suc made) left r) (λ t r₁. done (new (word b) (words 10 (drop 4 b)) t) r₁)) (fault FlawNumber here)
node self n p made left here leaf_kind b r = cond (leaf_fits n p made (forms 6 b)) (done (leaf (take n (forms 6 b))) r) (fault FlawNumber here)
node self n p made left here none_kind b r = done none r
node self n p made left here head_kind b r = fault FlawKind here
node self n p made left here keep_kind b r = fault FlawKind here

-- a tree for n unknowns and p parameters; f bounds the nodes on a path
unfoldable pub parse : ℕ → ℕ → ℕ → Reader
parse n p zero made left bs = fault FlawDepth bs
parse n p (suc f) made left bs = taking (opening made left bs) bs (node (parse n p f) n p made left bs)

-- at most c keeps
abbrev pub is_keep : Option Kind → Opened → Option Opened
is_keep (Some keep_kind) o = Some o
is_keep (Some head_kind) o = None
is_keep (Some split_kind) o = None
is_keep (Some new_kind) o = None
is_keep (Some leaf_kind) o = None
is_keep (Some none_kind) o = None
is_keep None o = None

abbrev pub keep_at : List ℕ → Option Opened
keep_at [] = None
keep_at (b ∷ bs) = is_keep (kind_of b) (opened (b ∷ bs))

abbrev pub keep : (List ℕ → Out (List (List ℤ))) → ℕ → List ℕ → Kind → List ℕ → List ℕ → Out (List (List ℤ))
keep self p here kind b r = cond (form_fits p 0 (words 10 b)) (then (self r) (λ Cs r₁. done (words 10 b ∷ Cs) r₁)) (fault FlawNumber here)

abbrev pub keeps_from : (List ℕ → Out (List (List ℤ))) → ℕ → List ℕ → Option Opened → Out (List (List ℤ))
keeps_from self p here None = done [] here
keeps_from self p here (Some o) = taking o here (keep self p here)

unfoldable pub keeps : ℕ → ℕ → List ℕ → Out (List (List ℤ))
keeps p zero bs = done [] bs
keeps p (suc c) bs = keeps_from (keeps p c) p bs (keep_at bs)

-- nothing is left over
abbrev pub ended : ℕ → ℕ → List (List ℤ) → Tree → List ℕ → Out Whole
ended n p Cs t [] = done (whole n p Cs t) []
ended n p Cs t (b ∷ bs) = fault FlawLength (b ∷ bs)

-- twelve splits, five new parameters and what ends the path
abbrev pub below : ℕ → ℕ → List ℕ → Out Whole
below n p r = then (keeps p 8 r) (λ Cs r₁. then (parse n p 18 0 12 r₁) (λ t r₂. ended n p Cs t r₂))

abbrev pub head_at : List ℕ → Kind → List ℕ → List ℕ → Out Whole
head_at here head_kind b r = cond (head_fits (slice_index b 0) (slice_index b 1)) (below (slice_index b 0) (slice_index b 1) r) (fault FlawNumber here)
head_at here keep_kind b r = fault FlawKind here
head_at here split_kind b r = fault FlawKind here
head_at here new_kind b r = fault FlawKind here
head_at here leaf_kind b r = fault FlawKind here
head_at here none_kind b r = fault FlawKind here

-- only a head may stand first
abbrev pub first_objection : Option Kind → Option Flaw
first_objection (Some head_kind) = None
first_objection (Some keep_kind) = Some FlawKind
first_objection (Some split_kind) = Some FlawKind
first_objection (Some new_kind) = Some FlawKind
first_objection (Some leaf_kind) = Some FlawKind
first_objection (Some none_kind) = Some FlawKind
first_objection None = Some FlawKind

abbrev pub first_opening : List ℕ → Opened
first_opening [] = flawed FlawLength
first_opening (b ∷ bs) = unless (first_objection (kind_of b)) (opened (b ∷ bs))

abbrev pub reading : List ℕ → Out Whole
reading bs = taking (first_opening bs) bs (head_at bs)
