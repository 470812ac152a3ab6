-- The tree of a node is right at every setting that meets its context.
use Rattle.std.proofs.Common.{◌≡◌, ℕ, zero, suc, ◌+◌, ◌<◌, ◌≤◌, Bool, true, false, cond, T, eqb, ◌≢◌, List, [], ◌∷◌, ℤ, pos, ◌≤ℤ◌, ◌<ℤ◌, Some, None, Option, sym, refl, ◌∙◌, subst, arith, length-set}
use borrow.Author.Differences.{ints}
use lib.Signed.{le_z, le_z_yes}
use Rattle.std.proofs.lemmas.Int.{by_lt_z}
use Rattle.base.specs.declared.refusal.Place.TheVariants.{Node}
use Rattle.base.specs.declared.refusal.Refusal.TheVariants.{Depth}
use Rattle.base.specs.Forms.{opposite, value_at}
use Rattle.tableau.specs.declared.table.Row.{Row}
use Rattle.tableau.specs.Cuts.{cut_of, lower, upper}
use Rattle.tableau_laws.specs.Ends.{Least, NoPoint, NonNegAt}
use Rattle.tableau_laws.specs.Facts.{Right}
use Rattle.tableau_laws.specs.Lines.{In, Line}
use Rattle.tableau_laws.specs.Settings.{gained, new_value}
use Rattle.tableau_laws.proofs.CutKeeps.{cut_keeps, new-keeps}
use Rattle.tableau_laws.proofs.Cuts.{new-holds, setting-natural}
use Rattle.tableau_laws.proofs.Leaves.{leaf-right, none_right}
use Rattle.tableau_laws.proofs.Pivots.{div-in, pivot-keeps}
use Rattle.tableau_laws.proofs.Settings.{value-opposite}
use Rattle.tree.specs.Answers.{answer_from}
use Rattle.tree.specs.Trees.{Tree, split}
use Rattle.solver.specs.declared.sign.Sign.{Sign}
use Rattle.solver.specs.Runs.{Run}
use Rattle.solver.specs.Rules.{Work, branch, branches, node, plenty, solving, where_form}
use Rattle.solver_laws.specs.Meaning.{Meets, Setting, SignRight, Yields}
use Rattle.solver_laws.specs.Places.{Uses}
use Rattle.solver_laws.proofs.Yields.{y-any, y-bar, y-bind, y-return, y-then, y-weaken}
use Rattle.solver_laws.proofs.Induction.{AllSigned, Sound, new_work, rows_in, settle-sound}
use Rattle.solver_laws.proofs.Formed.{Formed, formed-new, formed-plain, formed-turn, formed-where, row-shape, row-uses}
use Rattle.solver_laws.proofs.Places.{meets-append, meets-unused, opposite-uses, spare-next}
use Rattle.solver_laws.proofs.Signs.{sign-right}
use Rattle.solver_laws.proofs.Tests.{no_fraction}

pub made-less : (m : ℕ) → m ≤ 5 → eqb m 5 ≡ false → m < 5
made-less m h e = let ne : m ≢ 5 = λ q. absurd (subst T e (subst (λ k. T (eqb k 5)) (sym q) tt)) in omega arith

-- an answer for a system of n unknowns: its least point, or that it has none
abbrev pub Correct : ℕ → List Line → Option (List ℤ) → Type 0
Correct n sys (Some x) = Least n sys x
Correct n sys None = NoPoint n sys

signs-hold : (context : List (List ℤ)) (ρ : List ℤ) → Setting ρ → Meets context ρ → (rs : List Row) → AllSigned (SignRight context) rs → NonNegAt ρ rs
signs-hold context ρ st m [] h = tt
signs-hold context ρ st m (r ∷ rs) h = (h.0 ρ st m, signs-hold context ρ st m rs h.1)

module _ (n : ℕ) (sys : List Line) where
  -- the table is right at the setting, which meets the context
  pub record Good (s : Work) (ρ : List ℤ) : Type 0 where
    pub right : Right n sys ρ s.top s.rest
    pub formed : Formed s
    pub setting : Setting ρ
    pub meets : Meets s.context ρ

  abbrev Signed : Work → List ℤ → List ℤ → Sign → Type 0
  Signed s ρ C g = SignRight s.context C g

  abbrev pub Answers : Work → List ℤ → Tree → Type 0
  Answers s ρ t = Correct n sys (answer_from s.made ρ t)

  good_new : (s : Work) (ρ : List ℤ) (r : Row) → Good s ρ → In r (rows_in s) → eqb s.made 5 ≡ false → Good (new_work s r) (gained (cut_of r) (4 + s.made) ρ)
  good_new s ρ r g m k =
      let q = 4 + s.made in
      let less = made-less s.made g.formed.new k in
      let nine = g.setting.nine in
      let lt : q < 9 = omega arith in
      let spare = spare-next s.parameters s.made less in
      let above = div-in n sys ρ s.top s.rest r g.right m in
      let ten = (row-shape s g.formed r m).1 in
      let free = (row-uses s g.formed r m).free q spare in
      let two = new-holds ρ r q ten nine lt above free in
      record {
        right = new-keeps n sys ρ s.top s.rest r g.right m nine q lt (g.formed.top_free q spare) (g.formed.rest_free q spare);
        formed = formed-new s g.formed r m less;
        setting = record { nine = length-set ρ q (new_value (cut_of r) ρ) ∙ nine; natural = setting-natural ρ r q above g.setting.natural };
        meets = meets-append s.context (lower (cut_of r) q ∷ (upper (cut_of r) q ∷ [])) (gained (cut_of r) q ρ) (meets-unused s.parameters s.made s.context ρ q (new_value (cut_of r) ρ) g.formed.context spare nine g.meets) (two.0, (two.1, tt));
      }

  solving-sound : (splits : Work → List ℤ → Run Tree) → ((s : Work) (ρ : List ℤ) (C : List ℤ) → Good s ρ → Uses s.parameters s.made C → Yields (Answers s ρ) (splits s C)) → Sound (List ℤ) (solving splits) Good Signed Answers
  solving-sound splits h = record {
    signs = λ s ρ r g m. sign-right s g.formed.few g.formed.new g.formed.context r.form (row-uses s g.formed r m);
    turns = λ s ρ i j g m q fit. (record { right = pivot-keeps n sys ρ s.top s.rest i j g.right m q; formed = formed-turn s g.formed i m j; setting = g.setting; meets = g.meets }, λ t k. k);
    nones = λ s ρ i g m v q. none_right n sys ρ s.top s.rest i g.right m (v ρ g.setting g.meets) q;
    leaves = λ s ρ g v q. leaf-right n sys ρ s.top s.rest 0 g.right (signs-hold s.context ρ g.setting g.meets (rows_in s) v) (no_fraction 0 s.top q);
    splits = λ s ρ i g m v. h s ρ i.form g (row-uses s g.formed i m);
    plains = λ s ρ r g m c fit. (record { right = cut_keeps n sys ρ s.top s.rest r g.right m g.setting.nine c; formed = formed-plain s g.formed r m; setting = g.setting; meets = g.meets }, λ t k. k);
    news = λ s ρ r g m c k two fit. (gained (cut_of r) (4 + s.made) ρ, good_new s ρ r g m k, λ t a. a);
  }

  -- ---- splits
  good-where : (s : Work) (ρ : List ℤ) (C : List ℤ) → Good s ρ → Uses s.parameters s.made C → pos 0 ≤ℤ value_at C ρ → Good (where_form s C) ρ
  good-where s ρ C g u h = record { right = g.right; formed = formed-where s g.formed C u; setting = g.setting; meets = meets-append s.context (C ∷ []) ρ g.meets (h, tt) }

  module _ (deeper : Work → Run Tree) (ih : (s : Work) (ρ : List ℤ) → Good s ρ → Yields (Answers s ρ) (deeper s)) where
    -- where the branch's form holds, its tree is right
    branch-right : (s : Work) (ρ : List ℤ) (C : List ℤ) → Good s ρ → Uses s.parameters s.made C → Yields (λ t. pos 0 ≤ℤ value_at C ρ → Answers s ρ t) (branch deeper s C)
    unfolding branch
    branch-right s ρ C g u = y-then _ _ _ (by_lt_z (value_at C ρ) (pos 0)
        (λ no-go. y-weaken _ _ _ (λ t _ h. absurd (let k : ⊥ = omega (arith, ints) in k)) (y-any _))
        (λ h. y-weaken _ _ _ (λ t k _. k) (ih (where_form s C) ρ (good-where s ρ C g u h))))

    split-answer : (s : Work) (ρ : List ℤ) (C : List ℤ) (t u : Tree) → (pos 0 ≤ℤ value_at C ρ → Answers s ρ t) → (value_at C ρ <ℤ pos 0 → Answers s ρ u) → Answers s ρ (split C t u)
    split-answer s ρ C t u h k = go (le_z (pos 0) (value_at C ρ)) refl
      where
        go : (b : Bool) → le_z (pos 0) (value_at C ρ) ≡ b → Correct n sys (cond b (answer_from s.made ρ t) (answer_from s.made ρ u))
        go true e = h (le_z_yes (subst T (sym e) tt))
        go false e = k (grind (arith, ints))

    branches-right : (s : Work) (ρ : List ℤ) (C : List ℤ) → Good s ρ → Uses s.parameters s.made C → Yields (Answers s ρ) (branches deeper s C)
    unfolding branches
    branches-right s ρ C g u =
        y-then _ _ _ (y-then _ _ _
        (y-bind _ _ _ _ (branch-right s ρ C g u) (λ t a.
        y-bind _ _ _ _ (branch-right s ρ (opposite C) g (opposite-uses s.parameters s.made C u)) (λ v b.
        y-return _ (split C t v) (split-answer s ρ C t v a (λ low. b (let e = value-opposite C ρ u.ten g.setting.nine in omega (arith, ints, e))))))))

  pub node-right : (left : ℕ) (s : Work) (ρ : List ℤ) → Good s ρ → Yields (Answers s ρ) (node left s)
  unfolding node
  node-right zero s ρ g = settle-sound (List ℤ) _ Good Signed Answers (solving-sound _ (λ s ρ C g u. y-bar _ Depth Node)) plenty s ρ g
  node-right (suc left) s ρ g =
      let ih : (s : Work) (ρ : List ℤ) → Good s ρ → Yields (Answers s ρ) (node left s) = λ s ρ g. node-right left s ρ g in
      settle-sound (List ℤ) _ Good Signed Answers (solving-sound _ (branches-right (node left) ih)) plenty s ρ g
