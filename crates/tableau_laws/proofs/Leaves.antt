-- The ends of the work, by the rows of the table.
use Rattle.std.proofs.Common.{◌≡◌, ℕ, ◌+◌, ◌<◌, Bool, true, false, cond, List, [], ◌∷◌, ◌++◌, map, ℤ, pos, negsuc, ◌+ℤ◌, ◌*ℤ◌, ◌<ℤ◌, Some, None, sym, refl, ap, ◌∙◌, subst, arith}
use borrow.Author.Differences.{ints}
use Rattle.std.proofs.lemmas.Bool.{and_parts}
use Rattle.base.specs.Numbers.{DividesAll, floor_div, is_zero, mod_by, quot_by}
use Rattle.base.specs.Forms.{dot, value_at}
use Rattle.base.proofs.Divisors.{quots-times}
use Rattle.tableau.specs.declared.table.Row.{Row}
use Rattle.tableau.specs.Columns.{Enters}
use Rattle.tableau.specs.Cuts.{first_fraction, whole, whole_by}
use Rattle.tableau.proofs.Entering.{enters}
use Rattle.algebra.specs.Lists.{NonNeg}
use Rattle.algebra.proofs.Integers.{le-mul-cancel}
use Rattle.algebra.proofs.Division.{divided}
use Rattle.algebra.proofs.Dots.{times-dot}
use Rattle.algebra.proofs.Naturals.{nonpos-at}
use Rattle.tableau_laws.specs.Lines.{Above, under}
use Rattle.tableau_laws.specs.Ends.{NonNegAt, leaf_forms}
use Rattle.tree.specs.Answers.{values_at}
use Rattle.tableau_laws.specs.Laws.{LeafRight, NoneRight}
use Rattle.base.proofs.Zeros.{is_zero-is}
use lib.IntN.{*ℤ-zero}
use Rattle.tableau_laws.proofs.Pivots.{div-in, reached-value, shape-in}
use Rattle.tableau_laws.proofs.Ends.{AtZero, Constants, none-says, zero-first, zero-point}

-- ---- none
pub none_right : NoneRight
none_right n sys ρ top rest i t m c e x p =
    let k = t.facts.reach x p in
    let v = reached-value n sys ρ top rest x i m p k in
    let none : Enters top i None = subst (Enters top i) e (enters top i (shape-in n sys ρ top rest i t m).0) in
    none-says (under ρ i) k.basic v.0 (div-in n sys ρ top rest i t m) (nonpos-at i.coefs (λ l lt. none l)) c k.natural v.1 v.2

-- ---- rows whose divisor divides their form
whole-divides : (n : ℕ) (xs : List ℤ) → 0 < n → whole_by (pos n) xs ≡ true → DividesAll n xs
whole-divides n [] h e = tt
whole-divides n (x ∷ xs) h e =
    let p = and_parts (is_zero (mod_by (pos n) x)) (whole_by (pos n) xs) e in
    let d = divided x (pos n) (omega (arith, ints)) in
    ((floor_div x (pos n), d.is ∙ ap (λ r. pos n *ℤ floor_div x (pos n) +ℤ r) (is_zero-is (mod_by (pos n) x) p.0) ∙ plus-zero (pos n *ℤ floor_div x (pos n))), whole-divides n xs h p.1)
  where
    plus-zero : (z : ℤ) → z +ℤ pos 0 ≡ z
    plus-zero z = omega (arith, ints)

-- d times the value of the divided form is the value of the form
pub whole-value : (ρ : List ℤ) (d : ℤ) (C : List ℤ) → pos 0 <ℤ d → whole_by d C ≡ true → d *ℤ value_at (map (quot_by d) C) ρ ≡ value_at C ρ
whole-value ρ (negsuc n) C h e = absurd (let no : ⊥ = omega (arith, ints) in no)
whole-value ρ (pos n) C h e =
    sym (times-dot (pos n) (map (quot_by (pos n)) C) (ρ ++ (pos 1 ∷ [])))
    ∙ ap (λ (t : List ℤ). dot t (ρ ++ (pos 1 ∷ []))) (quots-times n C (whole-divides n C (omega (arith, ints)) e))

-- ---- leaf
abbrev AllWhole : List Row → Type 0
AllWhole [] = Unit {0}
AllWhole (r ∷ rs) = (whole r ≡ true) × AllWhole rs

all_whole : (k : ℕ) (rs : List Row) → first_fraction k rs ≡ None → AllWhole rs
all_whole k [] e = tt
all_whole k (r ∷ rs) e = go (whole r) refl e (all_whole (k + 1) rs)
  where
    go : (b : Bool) → whole r ≡ b → cond b (first_fraction (k + 1) rs) (Some k) ≡ None → (first_fraction (k + 1) rs ≡ None → AllWhole rs) → (whole r ≡ true) × AllWhole rs
    go true w e ih = (w, ih e)
    go false w e ih = (cc, ih cc)

leaf-zero : (ρ : List ℤ) (rs : List Row) → AllWhole rs → Above (map (under ρ) rs) → AtZero (map (under ρ) rs) (values_at ρ (leaf_forms rs))
leaf-zero ρ [] w d = tt
leaf-zero ρ (r ∷ rs) w d = (whole-value ρ r.div r.form d.0 w.0, leaf-zero ρ rs w.1 d.1)

leaf-natural : (ρ : List ℤ) (rs : List Row) → AllWhole rs → Above (map (under ρ) rs) → NonNegAt ρ rs → NonNeg (values_at ρ (leaf_forms rs))
leaf-natural ρ [] w d n = tt
leaf-natural ρ (r ∷ rs) w d n =
    (le-mul-cancel r.div (pos 0) (value_at (map (quot_by r.div) r.form) ρ) d.0 (rw (*ℤ-zero r.div, whole-value ρ r.div r.form d.0 w.0) n.0), leaf-natural ρ rs w.1 d.1 n.1)

constants : (ρ : List ℤ) (rs : List Row) → NonNegAt ρ rs → Constants (map (under ρ) rs)
constants ρ [] n = tt
constants ρ (r ∷ rs) n = (n.0, constants ρ rs n.1)

pub nonneg-left : (ρ : List ℤ) (xs ys : List Row) → NonNegAt ρ (xs ++ ys) → NonNegAt ρ xs
nonneg-left ρ [] ys h = tt
nonneg-left ρ (x ∷ xs) ys h = (h.0, nonneg-left ρ xs ys h.1)

pub nonneg-right : (ρ : List ℤ) (xs ys : List Row) → NonNegAt ρ (xs ++ ys) → NonNegAt ρ ys
nonneg-right ρ [] ys h = h
nonneg-right ρ (x ∷ xs) ys h = nonneg-right ρ xs ys h.1

pub leaf-right : LeafRight
leaf-right n sys ρ top rest k t h e =
    let w = all_whole k top e in
    let f = t.facts in
    let x = values_at ρ (leaf_forms top) in
    let z = leaf-zero ρ top w f.div.0 in
    record {
      point = zero-point n sys (map (under ρ) top) (map (under ρ) rest) x f z (leaf-natural ρ top w f.div.0 (nonneg-left ρ top rest h)) (constants ρ rest (nonneg-right ρ top rest h));
      first = λ x' p. zero-first n sys (map (under ρ) top) (map (under ρ) rest) x x' f z p;
    }
