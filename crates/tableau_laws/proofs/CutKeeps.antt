-- A cut keeps the four facts.
use Rattle.std.proofs.Common.{◌≡◌, ℕ, ◌<◌, true, List, [], ◌∷◌, ◌++◌, map, length, ℤ, pos, ◌<ℤ◌, Some, None, Option, sym, ap, ◌∙◌, subst, arith, length-set}
use borrow.Author.Differences.{ints}
use Rattle.std.proofs.lemmas.List.{length-map, map-append}
use Rattle.base.specs.Numbers.{at, mod_by}
use Rattle.tableau.specs.declared.table.Row.{Row}
use Rattle.tableau.specs.Cuts.{CutNumbers, cut_form, cut_of, cut_row, is_constant}
use Rattle.algebra.proofs.Naturals.{nonneg-append}
use Rattle.tableau_laws.specs.Lines.{Above, AllSay, In, Line, Says, Unused, under}
use Rattle.tableau_laws.specs.Facts.{Facts, Linked, Point, Reached, Right}
use Rattle.tableau_laws.specs.Settings.{gained, new_value}
use Rattle.tableau_laws.proofs.Lowest.{lowest-div}
use Rattle.tableau_laws.proofs.Rows.{of_either, shape-lowest, shaped-more}
use Rattle.tableau_laws.proofs.Unused.{unused-of}
use Rattle.tableau_laws.proofs.Settings.{lines-unused}
use Rattle.tableau_laws.proofs.Pivots.{div-in, reached-value, shape-in}
use Rattle.tableau_laws.proofs.Cuts.{length_cut, new-cut, plain-cut}

-- ---- one line more, which has a natural value wherever a point is reached
above_more : (hs : List Line) (h : Line) → Above hs → pos 0 <ℤ h.div → Above (hs ++ (h ∷ []))
above_more [] h a d = (d, tt)
above_more (x ∷ hs) h a d = (a.0, above_more hs h a.1 d)

say-more : (hs : List Line) (h : Line) (y vs : List ℤ) (v : ℤ) → AllSay hs y vs → Says h y v → AllSay (hs ++ (h ∷ [])) y (vs ++ (v ∷ []))
say-more [] h y [] v a e = (e, tt)
say-more [] h y (w ∷ vs) v a e = absurd a
say-more (x ∷ hs) h y [] v a e = absurd a
say-more (x ∷ hs) h y (w ∷ vs) v a e = (a.0, say-more hs h y vs v a.1 e)

linked-more : (sys rest : List Line) (h : Line) (y : List ℤ) (s : ℤ) (X : List ℤ) → Linked y s X sys rest → Linked y s X sys (rest ++ (h ∷ []))
linked-more [] rest h y s X k = tt
linked-more (r ∷ sys) [] h y s X k = absurd k
linked-more (r ∷ sys) (x ∷ rest) h y s X k = (k.0, linked-more sys rest h y s X k.1)

pub facts-more : (n : ℕ) (sys top rest : List Line) (h : Line) → Facts n sys top rest → pos 0 <ℤ h.div → ((x : List ℤ) → Point n sys x → (k : Reached top rest x) → (v : ℕ) × Says h k.basic (pos v)) → Facts n sys top (rest ++ (h ∷ []))
facts-more n sys top rest h f d more = record {
  reach = λ x p.
      let k = f.reach x p in
      let v = more x p k in
      record {
        basic = k.basic;
        wide = k.wide;
        natural = k.natural;
        unknowns = k.unknowns;
        values = k.values ++ (pos v.0 ∷ []);
        values_natural = nonneg-append k.values (pos v.0 ∷ []) k.values_natural (omega (arith, ints), tt);
        others = say-more rest h k.basic k.values (pos v.0) k.others v.1;
      };
  link = λ y s X n a. linked-more sys rest h y s X (f.link y s X n a);
  lex = f.lex;
  div = (f.div.0, above_more rest h f.div.1 d);
  size = f.size;
}

-- the rows of the table with the cut row, as lines
lines_more : (ρ : List ℤ) (rs : List Row) (r : Row) → map (under ρ) (rs ++ (r ∷ [])) ≡ map (under ρ) rs ++ (under ρ r ∷ [])
lines_more ρ rs r = map-append (under ρ) rs (r ∷ [])

length-form : (c : CutNumbers) (new : Option ℕ) → length (cut_form c new) ≡ length c.form
length-form c None = length-map c.form _
length-form c (Some q) = length-set (map _ c.form) q c.div ∙ length-map c.form _

pub shape-cut : (r : Row) (new : Option ℕ) → length r.coefs ≡ 9 → length r.form ≡ 10 → (length (cut_row (cut_of r) new).coefs ≡ 9) × (length (cut_row (cut_of r) new).form ≡ 10)
shape-cut r new c f =
    let raw : Row = record { coefs = (cut_of r).coefs; form = cut_form (cut_of r) new; div = r.div } in
    shape-lowest raw (length-map r.coefs (mod_by r.div) ∙ c) (length-form (cut_of r) new ∙ length_cut r ∙ f)

module _ (n : ℕ) (sys : List Line) (ρ : List ℤ) (top rest : List Row) (r : Row) (t : Right n sys ρ top rest) (m : In r (top ++ rest)) (nine : length ρ ≡ 9) where
  shape : (length r.coefs ≡ 9) × (length r.form ≡ 10)
  shape = shape-in n sys ρ top rest r t m

  above : pos 0 <ℤ r.div
  above = div-in n sys ρ top rest r t m

  -- T names no parameter
  pub cut_keeps : is_constant (cut_of r) ≡ true → Right n sys ρ top (rest ++ (cut_row (cut_of r) None ∷ []))
  cut_keeps c =
      let cut = cut_row (cut_of r) None in
      let raw : Row = record { coefs = (cut_of r).coefs; form = cut_form (cut_of r) None; div = r.div } in
      let s = shape-cut r None shape.0 shape.1 in
      let f = facts-more n sys (map (under ρ) top) (map (under ρ) rest) (under ρ cut) t.facts (lowest-div raw above) (λ x p k. let v = reached-value n sys ρ top rest x r m p k in plain-cut ρ r k.basic v.0 shape.1 nine above c k.natural v.2) in
      record { facts = subst (Facts n sys (map (under ρ) top)) (sym (lines_more ρ rest cut)) f; top_shaped = t.top_shaped; rest_shaped = shaped-more rest cut t.rest_shaped s.0 s.1 }

  -- a new parameter at the place q, at the setting that gains it
  pub new-keeps : (q : ℕ) → q < 9 → Unused q top → Unused q rest → Right n sys (gained (cut_of r) q ρ) top (rest ++ (cut_row (cut_of r) (Some q) ∷ []))
  new-keeps q lt ut ur =
      let cut = cut_row (cut_of r) (Some q) in
      let ρ' = gained (cut_of r) q ρ in
      let v' = new_value (cut_of r) ρ in
      let raw : Row = record { coefs = (cut_of r).coefs; form = cut_form (cut_of r) (Some q); div = r.div } in
      let s = shape-cut r (Some q) shape.0 shape.1 in
      let f = facts-more n sys (map (under ρ) top) (map (under ρ) rest) (under ρ' cut) t.facts (lowest-div raw above) (λ x p k. let v = reached-value n sys ρ top rest x r m p k in new-cut ρ r q shape.1 nine lt above free k.basic v.0 k.natural v.2) in
      let tops : map (under ρ') top ≡ map (under ρ) top = lines-unused ρ q v' top ut (omega (arith, nine)) in
      let rests : map (under ρ') (rest ++ (cut ∷ [])) ≡ map (under ρ) rest ++ (under ρ' cut ∷ []) = lines_more ρ' rest cut ∙ ap (λ (hs : List Line). hs ++ (under ρ' cut ∷ [])) (lines-unused ρ q v' rest ur (omega (arith, nine))) in
      record {
        facts = subst (λ (hs : List Line). Facts n sys hs (map (under ρ') (rest ++ (cut ∷ [])))) (sym tops) (subst (Facts n sys (map (under ρ) top)) (sym rests) f);
        top_shaped = t.top_shaped;
        rest_shaped = shaped-more rest cut t.rest_shaped s.0 s.1;
      }
    where
      free : at r.form q ≡ pos 0
      free = of_either (Unused q) _ r top rest (unused-of q r) m ut ur
