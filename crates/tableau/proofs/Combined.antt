-- What a pivot makes of two lists, number by number.
use Rattle.std.proofs.Common.{◌≡◌, ℕ, zero, suc, ◌+◌, ◌<◌, List, [], ◌∷◌, map, length, get_or, set, ℤ, pos, ◌-ℤ◌, ◌*ℤ◌, sym, refl, ap, ◌∙◌, subst, arith, w64, SFits, to_z, of_z}
use Rattle.std.proofs.lemmas.List.{get_or-map, set-get_or}
use Rattle.std.proofs.lemmas.Int.{ints, to_z-of_z}
use Rattle.base.specs.Numbers.{at}
use Rattle.base.proofs.Fill.{Filled, filled_more}
use Rattle.tableau.specs.declared.table.Row.{Row}
use Rattle.tableau.specs.Rows.{combined, crossed, times, turned}

module _ (a b : ℤ) where
  pub length-combined : (xs ys : List ℤ) → length xs ≡ length ys → length (combined a b xs ys) ≡ length xs
  length-combined [] ys e = refl
  length-combined (x ∷ xs) [] e = omega arith
  length-combined (x ∷ xs) (y ∷ ys) e = ap suc (length-combined xs ys (omega arith))

  pub get_d-combined : (xs ys : List ℤ) (k : ℕ) (d : ℤ) → k < length xs → length xs ≡ length ys → get_or (combined a b xs ys) k d ≡ crossed a b (get_or xs k d) (get_or ys k d)
  get_d-combined [] ys k d h e = absurd (let no : ⊥ = omega arith in no)
  get_d-combined (x ∷ xs) [] k d h e = absurd (let no : ⊥ = omega arith in no)
  get_d-combined (x ∷ xs) (y ∷ ys) zero d h e = refl
  get_d-combined (x ∷ xs) (y ∷ ys) (suc k) d h e = get_d-combined xs ys k d (omega arith) (omega arith)

  -- one turn of the loop: what a call gave as r is put in the place of x
  pub combined-turn : (old ys all : List ℤ) (k : ℕ) (r : ℤ) → k < length old → length old ≡ length ys → SFits w64 (get_or all k (pos 0)) → SFits w64 (get_or ys k (pos 0)) → SFits w64 r → r ≡ crossed a b (to_z w64 (of_z w64 (get_or all k (pos 0)))) (to_z w64 (of_z w64 (get_or ys k (pos 0)))) → Filled (pos 0) (combined a b old ys) old all k → Filled (pos 0) (combined a b old ys) old (set all k (to_z w64 (of_z w64 r))) (k + 1)
  combined-turn old ys all k r n same fx fy fr v inv =
      let y = get_or ys k (pos 0) in
      let e = v ∙ ap (λ x. crossed a b x (to_z w64 (of_z w64 y))) (to_z-of_z w64 (get_or all k (pos 0)) fx ∙ inv.2 k (omega arith)) ∙ ap (crossed a b (get_or old k (pos 0))) (to_z-of_z w64 y fy) ∙ sym (get_d-combined old ys k (pos 0) n same) in
      subst (λ z. Filled (pos 0) (combined a b old ys) old (set all k z) (k + 1)) (sym (to_z-of_z w64 r fr)) (filled_more (pos 0) (combined a b old ys) old all k r (omega (arith, length-combined old ys same)) e inv)

-- ---- where b is 0, each x becomes a × x
zero-times : (y : ℤ) → pos 0 *ℤ y ≡ pos 0
zero-times y = omega (arith, ints)

times_zero : (a : ℤ) → a *ℤ pos 0 ≡ pos 0
times_zero a = omega (arith, ints)

pub combined-zero : (a : ℤ) (xs ys : List ℤ) → length xs ≡ length ys → combined a (pos 0) xs ys ≡ map (λ x. a *ℤ x) xs
combined-zero a [] ys e = refl
combined-zero a (x ∷ xs) [] e = absurd (let no : ⊥ = omega arith in no)
combined-zero a (x ∷ xs) (y ∷ ys) e =
    let c : crossed a (pos 0) x y ≡ a *ℤ x = ap (λ z. a *ℤ x -ℤ z) (zero-times y) ∙ omega (arith, ints) in
    rw (c, combined-zero a xs ys (omega arith))

pub turned_zero : (i : Row) (j : ℕ) (h : Row) → j < length h.coefs → length h.coefs ≡ length i.coefs → length h.form ≡ length i.form → at h.coefs j ≡ pos 0 → turned i j h ≡ times (at i.coefs j) h
turned_zero i j h lt e f none =
    let a = at i.coefs j in
    let all = map (λ x. a *ℤ x) h.coefs in
    let there : pos 0 *ℤ i.div ≡ get_or all j (pos 0) = zero-times i.div ∙ sym (times_zero a) ∙ ap (λ x. a *ℤ x) (sym none) ∙ sym (get_or-map (λ x. a *ℤ x) h.coefs j (pos 0) (pos 0) lt) in
    let coefs : set (combined a (pos 0) h.coefs i.coefs) j (pos 0 *ℤ i.div) ≡ all =
    ap (λ l. set l j (pos 0 *ℤ i.div)) (combined-zero a h.coefs i.coefs e) ∙ ap (set all j) there ∙ set-get_or all j (pos 0) in
    let by_zero : turned i j h ≡ record { coefs = set (combined a (pos 0) h.coefs i.coefs) j (pos 0 *ℤ i.div); form = combined a (pos 0) h.form i.form; div = a *ℤ h.div } =
    ap (λ b. record { coefs = set (combined a b h.coefs i.coefs) j (b *ℤ i.div); form = combined a b h.form i.form; div = a *ℤ h.div }) none in
    by_zero ∙ rw (coefs, combined-zero a h.form i.form f)
