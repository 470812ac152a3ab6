-- What the ends of the work say: no point, or the least one.
use Rattle.std.proofs.Common.{◌≡◌, ℕ, suc, List, [], ◌∷◌, length, ℤ, pos, ◌+ℤ◌, ◌*ℤ◌, ◌≤ℤ◌, ◌<ℤ◌, sym, refl, ap, ◌∙◌, inl, inr, arith}
use borrow.Author.Differences.{ints}
use lib.IntN.{+ℤ_idl}
use Rattle.base.specs.Forms.{dot}
use Rattle.algebra.specs.Lists.{NonNeg, NonPos, products}
use Rattle.base.specs.Numbers.{zeros}
use lib.IntN.{*ℤ-zero}
use Rattle.algebra.specs.Orders.{LexLe, LexNN}
use Rattle.algebra.proofs.Integers.{cancel-l, le-mul-cancel, lt-mul-cancel, nonneg-mul}
use Rattle.algebra.proofs.Ring.{◌⊕◌, ◌⊗◌, num}
use Rattle.algebra.proofs.Claims.{given, goal, ring-from}
use Rattle.algebra.proofs.Dots.{dot-zeros, length-zeros}
use Rattle.algebra.proofs.Naturals.{dot-nonpos}
use Rattle.algebra.proofs.Columns.{columns-combine}
use Rattle.tableau_laws.specs.Lines.{Above, AllSay, AllSayAt, Line, Says, coefs_of}
use Rattle.tableau_laws.specs.Facts.{Facts, Linked, Point, Satisfied}

-- ---- none: a line below 0 with no number above 0 has no natural value at a natural point
pub none-says : (h : Line) (y : List ℤ) (v : ℤ) → pos 0 <ℤ h.div → NonPos h.coefs → h.constant <ℤ pos 0 → NonNeg y → pos 0 ≤ℤ v → Says h y v → ⊥
none-says h y v d np c ny nv e = clash (h.div *ℤ v) (dot h.coefs y) h.constant (nonneg-mul h.div v (weak d) nv) (dot-nonpos h.coefs y np ny) c e
  where
    weak : {z : ℤ} → pos 0 <ℤ z → pos 0 ≤ℤ z
    weak {z} h = omega (arith, ints)

    clash : (V D c : ℤ) → pos 0 ≤ℤ V → D ≤ℤ pos 0 → c <ℤ pos 0 → V ≡ D +ℤ c → ⊥
    clash V D c h k l e = omega (arith, ints)

-- ---- leaf: the values where the basic unknowns are all 0
abbrev pub AtZero : List Line → List ℤ → Type 0
AtZero [] [] = Unit {0}
AtZero [] (x ∷ xs) = ⊥
AtZero (h ∷ hs) [] = ⊥
AtZero (h ∷ hs) (x ∷ xs) = (h.div *ℤ x ≡ h.constant) × AtZero hs xs

-- no constant is below 0
abbrev pub Constants : List Line → Type 0
Constants [] = Unit {0}
Constants (h ∷ hs) = (pos 0 ≤ℤ h.constant) × Constants hs

zero-length : (hs : List Line) (xs : List ℤ) → AtZero hs xs → length xs ≡ length hs
zero-length [] [] z = refl
zero-length [] (x ∷ xs) z = absurd z
zero-length (h ∷ hs) [] z = absurd z
zero-length (h ∷ hs) (x ∷ xs) z = ap suc (zero-length hs xs z.1)

zero-says : (n : ℕ) (hs : List Line) (xs : List ℤ) → AtZero hs xs → AllSayAt hs (zeros n) (pos 1) xs
zero-says n [] [] z = tt
zero-says n [] (x ∷ xs) z = z
zero-says n (h ∷ hs) [] z = z
zero-says n (h ∷ hs) (x ∷ xs) z = (rw (dot-zeros n h.coefs) (one h.div x h.constant z.0), zero-says n hs xs z.1)
  where
    one : (d x c : ℤ) → d *ℤ x ≡ c → d *ℤ x ≡ pos 0 +ℤ pos 1 *ℤ c
    one = ring-from 3 (λ d x c. given (num (pos 1)) (d ⊗ x) c (goal (d ⊗ x) (num (pos 0) ⊕ num (pos 1) ⊗ c))) refl

-- by the link at 0, each row of the system is at least 0 there
zero-satisfied : (n : ℕ) (sys rest : List Line) (X : List ℤ) → Above rest → Constants rest → Linked (zeros n) (pos 1) X sys rest → Satisfied sys X
zero-satisfied n [] rest X d c l = tt
zero-satisfied n (r ∷ sys) [] X d c l = absurd l
zero-satisfied n (r ∷ sys) (h ∷ rest) X d c l =
    (one h.div (dot r.coefs X) r.constant h.constant d.0 c.0 (rw (dot-zeros n h.coefs) at l.0), zero-satisfied n sys rest X d.1 c.1 l.1)
  where
    eq : (d D c k : ℤ) → d *ℤ (D +ℤ pos 1 *ℤ c) ≡ pos 0 +ℤ pos 1 *ℤ k → d *ℤ (D +ℤ c) ≡ k
    eq = ring-from 4 (λ d D c k. given (num (pos 1)) (d ⊗ (D ⊕ num (pos 1) ⊗ c)) (num (pos 0) ⊕ num (pos 1) ⊗ k) (goal (d ⊗ (D ⊕ c)) k)) refl

    one : (d D c k : ℤ) → pos 0 <ℤ d → pos 0 ≤ℤ k → d *ℤ (D +ℤ pos 1 *ℤ c) ≡ pos 0 +ℤ pos 1 *ℤ k → pos 0 ≤ℤ (D +ℤ c)
    one d D c k h g e = le-mul-cancel d (pos 0) (D +ℤ c) h (rw (*ℤ-zero d, eq d D c k e) g)

-- a point that is reached lies ahead of it by a combination of the columns
rise : (d x x' c D : ℤ) → d *ℤ x ≡ c → d *ℤ x' ≡ D +ℤ c → pos 0 <ℤ D → (d *ℤ x) <ℤ (d *ℤ x')
rise d x x' c D e f h = more (d *ℤ x) (d *ℤ x') c D e f h
  where
    more : (p q c D : ℤ) → p ≡ c → q ≡ D +ℤ c → pos 0 <ℤ D → p <ℤ q
    more p q c D e f h = omega (arith, ints)

stay : (d x x' c D : ℤ) → d *ℤ x ≡ c → d *ℤ x' ≡ D +ℤ c → D ≡ pos 0 → d *ℤ x ≡ d *ℤ x'
stay d x x' c D e f h = e ∙ sym (f ∙ ap (λ z. z +ℤ c) h ∙ +ℤ_idl c)

zero-least : (hs : List Line) (y xs xs' : List ℤ) → Above hs → AtZero hs xs → AllSay hs y xs' → LexNN (products (coefs_of hs) y) → LexLe xs xs'
zero-least [] y [] [] d z a p = tt
zero-least [] y [] (x' ∷ xs') d z a p = a
zero-least [] y (x ∷ xs) xs' d z a p = absurd z
zero-least (h ∷ hs) y [] xs' d z a p = absurd z
zero-least (h ∷ hs) y (x ∷ xs) [] d z a p = a
zero-least (h ∷ hs) y (x ∷ xs) (x' ∷ xs') d z a (inl p) = inl (lt-mul-cancel h.div x x' d.0 (rise h.div x x' h.constant (dot h.coefs y) z.0 a.0 p))
zero-least (h ∷ hs) y (x ∷ xs) (x' ∷ xs') d z a (inr p) =
    inr (cancel-l h.div x x' d.0 (stay h.div x x' h.constant (dot h.coefs y) z.0 a.0 p.0), zero-least hs y xs xs' d.1 z.1 a.1 p.1)

pub zero-point : (n : ℕ) (sys top rest : List Line) (xs : List ℤ) → Facts n sys top rest → AtZero top xs → NonNeg xs → Constants rest → Point n sys xs
zero-point n sys top rest xs f z nn c = record {
  counted = zero-length top xs z ∙ f.size;
  natural = nn;
  satisfied = zero-satisfied 9 sys rest xs f.div.1 c (f.link (zeros 9) (pos 1) xs (length-zeros 9) (zero-says 9 top xs z));
}

pub zero-first : (n : ℕ) (sys top rest : List Line) (xs x' : List ℤ) → Facts n sys top rest → AtZero top xs → Point n sys x' → LexLe xs x'
zero-first n sys top rest xs x' f z p =
    let k = f.reach x' p in
    zero-least top k.basic xs x' f.div.0 z k.unknowns (columns-combine (coefs_of top) k.basic k.natural f.lex)
