-- A pivot keeps the four facts.
use Rattle.std.proofs.Common.{◌≡◌, ℕ, ◌<◌, List, [], ◌∷◌, ◌++◌, map, length, set, ℤ, pos, ◌+ℤ◌, ◌*ℤ◌, ◌≤ℤ◌, ◌<ℤ◌, Some, sym, refl, ◌∙◌, subst, inl, inr, arith, length-set}
use Rattle.std.proofs.lemmas.List.{length-map}
use Rattle.base.specs.Numbers.{at}
use Rattle.base.specs.Forms.{dot}
use Rattle.base.proofs.Products.{mul-above}
use Rattle.tableau.specs.declared.table.Row.{Row}
use Rattle.tableau.specs.Rows.{pivoted, turned}
use Rattle.tableau.specs.Columns.{Enters}
use Rattle.tableau.proofs.Entering.{enters}
use Rattle.algebra.specs.Lists.{column, scaled}
use Rattle.algebra.specs.Orders.{LexNN}
use Rattle.algebra.proofs.Ring.{◌⊕◌, ◌⊗◌, ring}
use Rattle.algebra.proofs.Dots.{dot-scaled, length-scaled}
use Rattle.algebra.proofs.Naturals.{nonneg-set}
use Rattle.tableau_laws.specs.Lines.{Above, AllSay, AllSayAt, In, Line, Says, SaysAt, Shaped, coefs_of, under}
use Rattle.tableau_laws.specs.Facts.{Facts, Linked, Point, Reached, Right}
use Rattle.tableau_laws.specs.Laws.{PivotKeeps}
use Rattle.tableau_laws.proofs.Lowest.{lowest-at, lowest-div, lowest-says, raised_at}
use Rattle.tableau_laws.proofs.Rows.{above_of, in_either, of_either, shape_of, shaped-pivoted, value_of}
use Rattle.tableau_laws.proofs.Turns.{back, turned-back, turned-forth, turned-says}
use Rattle.tableau_laws.proofs.Lex.{lex-pivoted}

module _ (ρ : List ℤ) (i : Row) (j : ℕ) (lt : j < 9) (wide : length i.coefs ≡ 9) (form : length i.form ≡ 10) (above : pos 0 <ℤ at i.coefs j) where
  inside : j < length i.coefs
  inside = omega (arith, wide)

  turned-div : (h : Row) → pos 0 <ℤ h.div → pos 0 <ℤ (turned i j h).div
  turned-div h d = mul-above (at i.coefs j) h.div above d

  -- ---- all rows of a list
  pub pivoted-say : (rs : List Row) (y : List ℤ) (v : ℤ) (vs : List ℤ) → length y ≡ 9 → Shaped rs → Above (map (under ρ) rs) → Says (under ρ i) y v → AllSay (map (under ρ) rs) y vs → AllSay (map (under ρ) (map (pivoted i j) rs)) (set y j v) vs
  pivoted-say [] y v [] n s d p q = tt
  pivoted-say [] y v (w ∷ vs) n s d p q = q
  pivoted-say (h ∷ rs) y v [] n s d p q = q
  pivoted-say (h ∷ rs) y v (w ∷ vs) n s d p q = (
    lowest-says ρ (turned i j h) (set y j v) w (turned-div h d.0) (turned-says i j h inside (s.0 ∙ sym wide) (s.1 ∙ sym form) ρ y v w (omega (arith, n)) p q.0),
    pivoted-say rs y v vs n s.2 d.1 p q.1,
  )

  pivoted-back : (rs : List Row) (y : List ℤ) (s : ℤ) (X : List ℤ) → length y ≡ 9 → Shaped rs → AllSayAt (map (under ρ) (map (pivoted i j) rs)) y s X → AllSayAt (map (under ρ) rs) (back (under ρ i) j y s) (at i.coefs j *ℤ s) (scaled (at i.coefs j) X)
  pivoted-back [] y s [] n sh h = tt
  pivoted-back [] y s (x ∷ X) n sh h = h
  pivoted-back (r ∷ rs) y s [] n sh h = h
  pivoted-back (r ∷ rs) y s (x ∷ X) n sh h = (
    turned-back i j r inside (sh.0 ∙ sym wide) (sh.1 ∙ sym form) ρ y s x (omega (arith, n)) (raised_at ρ (turned i j r) y s x h.0),
    pivoted-back rs y s X n sh.2 h.1,
  )

  -- the value that the system gives a row, at a times the unknowns
  value-scaled : (a : ℤ) (r : Line) (s : ℤ) (X : List ℤ) → dot r.coefs (scaled a X) +ℤ (a *ℤ s) *ℤ r.constant ≡ a *ℤ (dot r.coefs X +ℤ s *ℤ r.constant)
  value-scaled a r s X = rw (dot-scaled a r.coefs X) (ring 4 (λ a D s c. (a ⊗ D ⊕ (a ⊗ s) ⊗ c, a ⊗ (D ⊕ s ⊗ c))) refl a (dot r.coefs X) s r.constant)

  pivoted-linked : (sys : List Line) (rest : List Row) (y : List ℤ) (s : ℤ) (X : List ℤ) → length y ≡ 9 → Shaped rest → Above (map (under ρ) rest) → Linked (back (under ρ i) j y s) (at i.coefs j *ℤ s) (scaled (at i.coefs j) X) sys (map (under ρ) rest) → Linked y s X sys (map (under ρ) (map (pivoted i j) rest))
  pivoted-linked [] rest y s X n sh d h = tt
  pivoted-linked (r ∷ sys) [] y s X n sh d h = h
  pivoted-linked (r ∷ sys) (q ∷ rest) y s X n sh d h =
      let V = dot r.coefs X +ℤ s *ℤ r.constant in
      let told : SaysAt (under ρ q) (back (under ρ i) j y s) (at i.coefs j *ℤ s) (at i.coefs j *ℤ V) =
      subst (λ v. SaysAt (under ρ q) (back (under ρ i) j y s) (at i.coefs j *ℤ s) v) (value-scaled (at i.coefs j) r s X) h.0 in
      (lowest-at ρ (turned i j q) y s V (turned-div q d.0) (turned-forth i j q inside (sh.0 ∙ sym wide) (sh.1 ∙ sym form) ρ y s V (omega (arith, n)) told), pivoted-linked sys rest y s X n sh.2 d.1 h.1)

  pub pivoted-above : (rs : List Row) → Above (map (under ρ) rs) → Above (map (under ρ) (map (pivoted i j) rs))
  pivoted-above [] d = tt
  pivoted-above (h ∷ rs) d = (lowest-div (turned i j h) (turned-div h d.0), pivoted-above rs d.1)

-- the row's value at the basic unknowns that reach x
pub reached-value : (n : ℕ) (sys : List Line) (ρ : List ℤ) (top rest : List Row) (x : List ℤ) (i : Row) → In i (top ++ rest) → Point n sys x → (k : Reached (map (under ρ) top) (map (under ρ) rest) x) → (v : ℤ) × (pos 0 ≤ℤ v) × Says (under ρ i) k.basic v
reached-value n sys ρ top rest x i m p k = elim (in_either i top rest m) [
  | inl m ↦ value_of ρ i top k.basic x m p.natural k.unknowns
  | inr m ↦ value_of ρ i rest k.basic k.values m k.values_natural k.others
]

pub shape-in : (n : ℕ) (sys : List Line) (ρ : List ℤ) (top rest : List Row) (i : Row) → Right n sys ρ top rest → In i (top ++ rest) → (length i.coefs ≡ 9) × (length i.form ≡ 10)
shape-in n sys ρ top rest i t m = of_either Shaped _ i top rest (shape_of i) m t.top_shaped t.rest_shaped

pub div-in : (n : ℕ) (sys : List Line) (ρ : List ℤ) (top rest : List Row) (i : Row) → Right n sys ρ top rest → In i (top ++ rest) → pos 0 <ℤ i.div
div-in n sys ρ top rest i t m = of_either (λ (rs : List Row). Above (map (under ρ) rs)) _ i top rest (above_of ρ i) m t.facts.div.0 t.facts.div.1

pub pivot-keeps : PivotKeeps
pivot-keeps n sys ρ top rest i j t m e = record {
  facts = record { reach = reach; link = link; lex = lex; div = (pivoted-above ρ i j lt wide form above top f.div.0, pivoted-above ρ i j lt wide form above rest f.div.1); size = size };
  top_shaped = shaped-pivoted i j top wide form t.top_shaped;
  rest_shaped = shaped-pivoted i j rest wide form t.rest_shaped;
}
  where
    f : Facts n sys (map (under ρ) top) (map (under ρ) rest)
    f = t.facts

    wide : length i.coefs ≡ 9
    wide = (shape-in n sys ρ top rest i t m).0

    form : length i.form ≡ 10
    form = (shape-in n sys ρ top rest i t m).1

    best : Enters top i (Some j)
    best = subst (Enters top i) e (enters top i wide)

    lt : j < 9
    lt = best.0

    above : pos 0 <ℤ at i.coefs j
    above = best.1

    reach : (x : List ℤ) → Point n sys x → Reached (map (under ρ) (map (pivoted i j) top)) (map (under ρ) (map (pivoted i j) rest)) x
    reach x p =
        let k = f.reach x p in
        let v = reached-value n sys ρ top rest x i m p k in
        record {
          basic = set k.basic j v.0;
          wide = length-set k.basic j v.0 ∙ k.wide;
          natural = nonneg-set k.basic j v.0 k.natural v.1;
          unknowns = pivoted-say ρ i j lt wide form above top k.basic v.0 x k.wide t.top_shaped f.div.0 v.2 k.unknowns;
          values = k.values;
          values_natural = k.values_natural;
          others = pivoted-say ρ i j lt wide form above rest k.basic v.0 k.values k.wide t.rest_shaped f.div.1 v.2 k.others;
        }

    link : (y : List ℤ) (s : ℤ) (X : List ℤ) → length y ≡ 9 → AllSayAt (map (under ρ) (map (pivoted i j) top)) y s X → Linked y s X sys (map (under ρ) (map (pivoted i j) rest))
    link y s X ny h =
        let a = at i.coefs j in
        pivoted-linked ρ i j lt wide form above sys rest y s X ny t.rest_shaped f.div.1
        (f.link (back (under ρ i) j y s) (a *ℤ s) (scaled a X) (length-set (scaled a y) j _ ∙ length-scaled a y ∙ ny) (pivoted-back ρ i j lt wide form above top y s X ny t.top_shaped h))

    lex : (l : ℕ) → LexNN (column (coefs_of (map (under ρ) (map (pivoted i j) top))) l)
    lex = lex-pivoted ρ i j lt wide above top t.top_shaped f.div.0 (div-in n sys ρ top rest i t m) f.lex best.2

    size : length (map (under ρ) (map (pivoted i j) top)) ≡ n
    size = length-map (map (pivoted i j) top) (under ρ) ∙ length-map top (pivoted i j) ∙ sym (length-map top (under ρ)) ∙ f.size
