-- Signs are right.
use Rattle.std.proofs.Common.{◌≡◌, ◌≤◌, Bool, true, false, ◌&&◌, T, List, [], ◌∷◌, ◌++◌, length, ℤ, pos, ◌+ℤ◌, ◌≤ℤ◌, ◌<ℤ◌, sym, subst, arith}
use borrow.Author.Differences.{ints}
use lib.Signed.{le_z, le_z_yes, lt_z, lt_z_yes}
use Rattle.std.proofs.lemmas.Int.{by_lt_z}
use Rattle.std.proofs.lemmas.Bool.{and_parts}
use Rattle.base.specs.Forms.{dot, opposite, value_at}
use Rattle.base.specs.Numbers.{at}
use Rattle.base.proofs.Values.{value-is}
use Rattle.algebra.specs.Lists.{NonNeg, NonPos}
use Rattle.algebra.proofs.Naturals.{dot-nonneg, dot-nonpos, nonneg-append}
use Rattle.tableau_laws.proofs.Settings.{value-opposite}
use Rattle.solver.specs.declared.sign.Sign.TheVariants.{NonNegative, Negative, Unknown}
use Rattle.solver.specs.Rules.{Work, after_above, after_below, none_above, none_below, sign_in, test_with}
use Rattle.solver_laws.specs.Meaning.{HasSetting, Setting, SignRight, Yields}
use Rattle.solver_laws.specs.Places.{AllUse, Uses}
use Rattle.solver_laws.proofs.Yields.{y-bind, y-cond, y-return, y-then}
use Rattle.solver_laws.proofs.Places.{all_append, meets-append, meets-left, meets-right, opposite-uses}
use Rattle.solver_laws.proofs.Tests.{test-right}

-- ---- the quick rules
none_below_lem : (C : List ℤ) → none_below C ≡ true → NonNeg C
none_below_lem [] e = tt
none_below_lem (x ∷ C) e = let p = and_parts (le_z (pos 0) x) (none_below C) e in (le_z_yes (subst T (sym p.0) tt), none_below_lem C p.1)

none_above_lem : (C : List ℤ) → none_above C ≡ true → NonPos C
none_above_lem [] e = tt
none_above_lem (x ∷ C) e = let p = and_parts (le_z x (pos 0)) (none_above C) e in (le_z_yes (subst T (sym p.0) tt), none_above_lem C p.1)

quick-nonneg : (context : List (List ℤ)) (C : List ℤ) → none_below C ≡ true → SignRight context C NonNegative
quick-nonneg context C e ρ st m = dot-nonneg C (ρ ++ (pos 1 ∷ [])) (none_below_lem C e) (nonneg-append ρ (pos 1 ∷ []) st.natural (omega (arith, ints), tt))

quick-negative : (context : List (List ℤ)) (C : List ℤ) → length C ≡ 10 → (lt_z (at C 9) (pos 0) && none_above C) ≡ true → SignRight context C Negative
quick-negative context C ten e ρ st m =
    let p = and_parts (lt_z (at C 9) (pos 0)) (none_above C) e in
    below (at C 9) (dot C ρ) (value_at C ρ) (value-is C ρ ten st.nine) (lt_z_yes (subst T (sym p.0) tt)) (dot-nonpos C ρ (none_above_lem C p.1) st.natural)
  where
    below : (c d v : ℤ) → v ≡ c +ℤ d → c <ℤ pos 0 → d ≤ℤ pos 0 → v <ℤ pos 0
    below c d v e h k = omega (arith, ints)

-- ---- the two tests
module _ (s : Work) (few : s.parameters ≤ 4) (new : s.made ≤ 5) (u : AllUse s.parameters s.made s.context) where
  with-right : (C : List ℤ) → Uses s.parameters s.made C → Yields (HasSetting (s.context ++ C ∷ [])) (test_with s C)
  unfolding test_with
  with-right C k = y-then _ _ _ (test-right s.parameters s.made few new (s.context ++ C ∷ []) (all_append s.parameters s.made s.context (C ∷ []) u (k, tt)))

  module _ (C : List ℤ) (k : Uses s.parameters s.made C) where
    -- the opposite form is at least 0 exactly where the form is below 0
    turned-below : (ρ : List ℤ) → Setting ρ → pos 0 ≤ℤ value_at (opposite C) ρ → value_at C ρ <ℤ pos 0
    turned-below ρ st h = let e = value-opposite C ρ k.ten st.nine in omega (arith, ints, e)

    below-turned : (ρ : List ℤ) → Setting ρ → value_at C ρ <ℤ pos 0 → pos 0 ≤ℤ value_at (opposite C) ρ
    below-turned ρ st h = let e = value-opposite C ρ k.ten st.nine in omega (arith, ints, e)

    above-right : HasSetting (s.context ++ opposite C ∷ []) true → (b : Bool) → HasSetting (s.context ++ C ∷ []) b → Yields (SignRight s.context C) (after_above b)
    unfolding after_above
    above-right low true high =
        y-return _ Unknown (
          (high.0, high.1, meets-left s.context (C ∷ []) high.0 high.2, (meets-right s.context (C ∷ []) high.0 high.2).0),
          (low.0, low.1, meets-left s.context (opposite C ∷ []) low.0 low.2, turned-below low.0 low.1 (meets-right s.context (opposite C ∷ []) low.0 low.2).0),
        )
    above-right low false high = y-return _ Negative (λ ρ st m. by_lt_z (value_at C ρ) (pos 0) (λ h. h) (λ h. absurd (high ρ st (meets-append s.context (C ∷ []) ρ m (h, tt)))))

    below_right : (b : Bool) → HasSetting (s.context ++ opposite C ∷ []) b → Yields (SignRight s.context C) (after_below s C b)
    unfolding after_below
    below_right true low = y-bind _ _ _ _ (with-right C k) (λ b h. above-right low b h)
    below_right false low = y-return _ NonNegative (λ ρ st m. by_lt_z (value_at C ρ) (pos 0) (λ h. absurd (low ρ st (meets-append s.context (opposite C ∷ []) ρ m (below-turned ρ st h, tt)))) (λ h. h))

    pub sign-right : Yields (SignRight s.context C) (sign_in s C)
    unfolding sign_in
    sign-right =
        y-cond _ (none_below C) _ _ (λ e. y-return _ NonNegative (quick-nonneg s.context C e)) (λ _.
        y-cond _ (lt_z (at C 9) (pos 0) && none_above C) _ _ (λ e. y-return _ Negative (quick-negative s.context C k.ten e)) (λ _.
        y-bind _ _ _ _ (with-right (opposite C) (opposite-uses s.parameters s.made C k)) below_right))
