-- The shape of the work: nine coefficients, forms of ten numbers, and nothing at places that are not in use. Every move keeps it.
use Rattle.std.proofs.Common.{◌≡◌, ℕ, suc, ◌+◌, ◌<◌, ◌≤◌, List, [], ◌∷◌, map, length, set, ℤ, pos, ◌+ℤ◌, ◌-ℤ◌, neg_ℤ, Some, None, ◌∙◌, arith, length-set}
use Rattle.std.proofs.lemmas.List.{length-map}
use Rattle.base.specs.Numbers.{at}
use Rattle.tableau.specs.declared.table.Row.{Row}
use Rattle.tableau.specs.Cuts.{cut_of, cut_row, lower, upper}
use Rattle.tableau_laws.specs.Lines.{In, Shaped, Unused}
use Rattle.tableau_laws.proofs.CutKeeps.{shape-cut}
use Rattle.tableau_laws.proofs.Cuts.{length_cut}
use Rattle.tableau_laws.proofs.Rows.{of_either, shape_of, shaped-more, shaped-pivoted}
use Rattle.tableau_laws.proofs.Unused.{lower-unused, new-unused, pivoted-unused, plain-unused, unused-more, unused-of, upper-unused}
use Rattle.solver.specs.Rules.{Work, where_form}
use Rattle.solver_laws.specs.Places.{AllUse, Spare, Uses}
use Rattle.solver_laws.proofs.Induction.{new_work, plain_work, rows_in}
use Rattle.solver.proofs.Turning.{turned_work}
use Rattle.solver_laws.proofs.Places.{all_append, all-later, spare-later, spare-not-nine, spare-other}

pub record Formed (s : Work) : Type 0 where
  pub few : s.parameters ≤ 4
  pub new : s.made ≤ 5
  pub context : AllUse s.parameters s.made s.context
  pub top_shaped : Shaped s.top
  pub rest_shaped : Shaped s.rest
  pub top_free : (q : ℕ) → Spare s.parameters s.made q → Unused q s.top
  pub rest_free : (q : ℕ) → Spare s.parameters s.made q → Unused q s.rest

module _ (s : Work) (f : Formed s) (r : Row) (m : In r (rows_in s)) where
  pub row-shape : (length r.coefs ≡ 9) × (length r.form ≡ 10)
  row-shape = of_either Shaped _ r s.top s.rest (shape_of r) m f.top_shaped f.rest_shaped

  pub row-uses : Uses s.parameters s.made r.form
  row-uses = record { ten = row-shape.1; free = λ q h. of_either (Unused q) _ r s.top s.rest (unused-of q r) m (f.top_free q h) (f.rest_free q h) }

  pub formed-turn : (j : ℕ) → Formed (turned_work r j s)
  formed-turn j = record {
    few = f.few;
    new = f.new;
    context = f.context;
    top_shaped = shaped-pivoted r j s.top row-shape.0 row-shape.1 f.top_shaped;
    rest_shaped = shaped-pivoted r j s.rest row-shape.0 row-shape.1 f.rest_shaped;
    top_free = λ q h. pivoted-unused q r j s.top row-shape.1 f.top_shaped (row-uses.free q h) (f.top_free q h);
    rest_free = λ q h. pivoted-unused q r j s.rest row-shape.1 f.rest_shaped (row-uses.free q h) (f.rest_free q h);
  }

  pub formed-plain : Formed (plain_work s r)
  formed-plain =
      let c = shape-cut r None row-shape.0 row-shape.1 in
      record {
        few = f.few;
        new = f.new;
        context = f.context;
        top_shaped = f.top_shaped;
        rest_shaped = shaped-more s.rest (cut_row (cut_of r) None) f.rest_shaped c.0 c.1;
        top_free = f.top_free;
        rest_free = λ q h. unused-more q s.rest (cut_row (cut_of r) None) (f.rest_free q h) (plain-unused q r (row-uses.free q h));
      }

  lower-uses : Uses s.parameters (suc s.made) (lower (cut_of r) (4 + s.made))
  lower-uses = record {
    ten = length-set (cut_of r).form (4 + s.made) (neg_ℤ r.div) ∙ length_cut r ∙ row-shape.1;
    free = λ q h. lower-unused q (4 + s.made) r (spare-other s.parameters s.made q h) (row-uses.free q (spare-later s.parameters s.made q h));
  }

  upper-uses : Uses s.parameters (suc s.made) (upper (cut_of r) (4 + s.made))
  upper-uses =
      let T = (cut_of r).form in
      record {
        ten = length-set (set (map neg_ℤ T) (4 + s.made) r.div) 9 (neg_ℤ (at T 9) +ℤ (r.div -ℤ pos 1)) ∙ length-set (map neg_ℤ T) (4 + s.made) r.div ∙ length-map T neg_ℤ ∙ length_cut r ∙ row-shape.1;
        free = λ q h. upper-unused q (4 + s.made) r (spare-other s.parameters s.made q h) (spare-not-nine s.parameters (suc s.made) q h) (row-uses.free q (spare-later s.parameters s.made q h));
      }

  pub formed-new : s.made < 5 → Formed (new_work s r)
  formed-new less =
      let c = shape-cut r (Some (4 + s.made)) row-shape.0 row-shape.1 in
      let p = s.parameters in
      let k = s.made in
      record {
        few = f.few;
        new = omega arith;
        context = all_append p (suc k) s.context _ (all-later p k s.context f.context) (lower-uses, (upper-uses, tt));
        top_shaped = f.top_shaped;
        rest_shaped = shaped-more s.rest (cut_row (cut_of r) (Some (4 + k))) f.rest_shaped c.0 c.1;
        top_free = λ q h. f.top_free q (spare-later p k q h);
        rest_free = λ q h. unused-more q s.rest (cut_row (cut_of r) (Some (4 + k))) (f.rest_free q (spare-later p k q h)) (new-unused q (4 + k) r (spare-other p k q h) (row-uses.free q (spare-later p k q h)));
      }

pub formed-where : (s : Work) → Formed s → (C : List ℤ) → Uses s.parameters s.made C → Formed (where_form s C)
formed-where s f C u = record {
  few = f.few;
  new = f.new;
  context = all_append s.parameters s.made s.context (C ∷ []) f.context (u, tt);
  top_shaped = f.top_shaped;
  rest_shaped = f.rest_shaped;
  top_free = f.top_free;
  rest_free = f.rest_free;
}
