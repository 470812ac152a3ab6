-- A cut row has a natural value wherever its row has a whole one, and the context rows of its new parameter hold.
use Rattle.std.proofs.Common.{◌≡◌, ℕ, zero, suc, ◌<◌, true, List, [], ◌∷◌, ◌++◌, map, length, take, ℤ, pos, negsuc, ◌+ℤ◌, ◌-ℤ◌, ◌*ℤ◌, neg_ℤ, ◌≤ℤ◌, ◌<ℤ◌, Some, None, sym, refl, ap, ◌∙◌, arith, length-set, get_or-set_other}
use borrow.Author.Differences.{ints}
use Rattle.std.proofs.lemmas.List.{length-map}
use Rattle.base.specs.Numbers.{all_zero, at, floor_by, mod_by, modulo}
use Rattle.base.specs.Forms.{dot, value_at}
use Rattle.algebra.proofs.Integers.{neg-l}
use Rattle.tableau.specs.declared.table.Row.{Row}
use Rattle.tableau.specs.Cuts.{cut_form, cut_of, cut_row, lower, upper}
use Rattle.algebra.specs.Lists.{NonNeg}
use Rattle.algebra.proofs.Ring.{◌⊕◌, ◌⊖◌, ◌⊗◌, num, ring, ⊝◌}
use Rattle.algebra.proofs.Claims.{given, goal, ring-from}
use Rattle.algebra.proofs.Dots.{at-negs, dot-negs}
use Rattle.algebra.proofs.Division.{Divided, divided, dot-divided, floor-nonneg, mods-nonneg, natural-multiple}
use Rattle.algebra.proofs.Naturals.{dot-nonneg, nonneg-append, nonneg-set}
use Rattle.tableau_laws.specs.Lines.{Says, under}
use Rattle.tableau_laws.specs.Settings.{gained, new_value}
use Rattle.tableau_laws.specs.Laws.{CutNatural, NewHolds, SettingNatural}
use Rattle.tableau_laws.proofs.Lowest.{lowest-says}
use Rattle.tableau_laws.proofs.Unused.{mod-unused, negs-unused}
use Rattle.tableau_laws.proofs.Settings.{value-constant, value_none, value-used}

-- ---- d × k = r·y - T + d × q, with k natural: a multiple of d above -d
value-law : (d v D c Q R t T q : ℤ) → d *ℤ v ≡ D +ℤ c → D ≡ d *ℤ Q +ℤ R → neg_ℤ c ≡ d *ℤ t +ℤ T → R +ℤ (neg_ℤ T +ℤ d *ℤ q) ≡ d *ℤ (v -ℤ Q +ℤ t +ℤ q)
value-law = ring-from 9 (λ d v D c Q R t T q. given (num (negsuc 0)) (d ⊗ v) (D ⊕ c) (given (num (negsuc 0)) D (d ⊗ Q ⊕ R) (given (num (pos 1)) (⊝ c) (d ⊗ t ⊕ T) (goal (R ⊕ (⊝ T ⊕ d ⊗ q)) (d ⊗ (v ⊖ Q ⊕ t ⊕ q)))))) refl

pub cut-value : (ρ : List ℤ) (r : Row) (y : List ℤ) (v q : ℤ) → pos 0 <ℤ r.div → NonNeg y → Says (under ρ r) y v → (value_at (cut_of r).form ρ -ℤ r.div *ℤ q) <ℤ r.div → (k : ℕ) × (r.div *ℤ pos k ≡ dot (cut_of r).coefs y +ℤ (neg_ℤ (value_at (cut_of r).form ρ) +ℤ r.div *ℤ q))
cut-value ρ r y v q h ny e small =
    let d = r.div in
    let z = ρ ++ (pos 1 ∷ []) in
    let Q = dot (map (floor_by d) r.coefs) y in
    let R = dot (map (mod_by d) r.coefs) y in
    let t = dot (map (floor_by d) (map neg_ℤ r.form)) z in
    let T = dot (map (mod_by d) (map neg_ℤ r.form)) z in
    natural-multiple d (v -ℤ Q +ℤ t +ℤ q) (R +ℤ (neg_ℤ T +ℤ d *ℤ q)) h
    (value-law d v (dot r.coefs y) (value_at r.form ρ) Q R t T q e (dot-divided d r.coefs y h) (sym (dot-negs r.form z) ∙ dot-divided d (map neg_ℤ r.form) z h))
    (above d R T (d *ℤ q) (dot-nonneg (map (mod_by d) r.coefs) y (mods-nonneg d r.coefs h) ny) small)
  where
    above : (d R T dq : ℤ) → pos 0 ≤ℤ R → (T -ℤ dq) <ℤ d → neg_ℤ d <ℤ (R +ℤ (neg_ℤ T +ℤ dq))
    above d R T dq h k = omega (arith, ints)

-- ---- the cut's numbers
at-mods : (d : ℤ) (xs : List ℤ) (k : ℕ) → pos 0 <ℤ d → at (map (mod_by d) xs) k <ℤ d
at-mods d [] k h = h
at-mods d (x ∷ xs) zero h = (divided x d h).high
at-mods d (x ∷ xs) (suc k) h = at-mods d xs k h

pub length_cut : (r : Row) → length (cut_of r).form ≡ length r.form
length_cut r = length-map (map neg_ℤ r.form) (mod_by r.div) ∙ length-map r.form neg_ℤ

-- ---- the row of a cut whose T names no parameter
pub plain-cut : CutNatural
plain-cut ρ r y v f n h c ny e =
    let T = (cut_of r).form in
    let none : all_zero (take (length ρ) T) ≡ true = ap (λ k. all_zero (take k T)) n ∙ c in
    let k = cut-value ρ r y v (pos 0) h ny e (small (value_at T ρ) (at T (length ρ)) r.div (value_none T ρ (omega (arith, length_cut r, f, n)) none) (at-mods r.div (map neg_ℤ r.form) (length ρ) h)) in
    (k.0, lowest-says ρ (record { coefs = (cut_of r).coefs; form = cut_form (cut_of r) None; div = r.div }) y (pos k.0) h (k.1 ∙ ap (λ z. dot (cut_of r).coefs y +ℤ z) (tidy (value_at T ρ) r.div ∙ sym (dot-negs T (ρ ++ (pos 1 ∷ []))))))
  where
    small : (w u d : ℤ) → w ≡ u → u <ℤ d → (w -ℤ d *ℤ pos 0) <ℤ d
    small w u d e k = omega (arith, ints)

    tidy : (T d : ℤ) → neg_ℤ T +ℤ d *ℤ pos 0 ≡ neg_ℤ T
    tidy = ring 2 (λ T d. (⊝ T ⊕ d ⊗ num (pos 0), ⊝ T)) refl

-- ---- with a new parameter at the place q, which the row's form does not use
module _ (ρ : List ℤ) (r : Row) (q : ℕ) (form : length r.form ≡ 10) (n : length ρ ≡ 9) (lt : q < 9) (above : pos 0 <ℤ r.div) (free : at r.form q ≡ pos 0) where
  rest : Divided (value_at (cut_of r).form ρ) r.div (new_value (cut_of r) ρ) (modulo (value_at (cut_of r).form ρ) r.div)
  rest = divided (value_at (cut_of r).form ρ) r.div above

  wide : length (cut_of r).form ≡ 10
  wide = length_cut r ∙ form

  negs-wide : length (map neg_ℤ (cut_of r).form) ≡ 10
  negs-wide = length-map (cut_of r).form neg_ℤ ∙ wide

  unused : at (map neg_ℤ (cut_of r).form) q ≡ pos 0
  unused = negs-unused (cut_of r).form q (mod-unused r.div r.form q free)

  -- -T + d × q
  pub value-new : value_at (cut_form (cut_of r) (Some q)) (gained (cut_of r) q ρ) ≡ neg_ℤ (value_at (cut_of r).form ρ) +ℤ r.div *ℤ new_value (cut_of r) ρ
  value-new =
      value-used (map neg_ℤ (cut_of r).form) ρ q r.div (new_value (cut_of r) ρ) unused (omega (arith, negs-wide)) (omega (arith, n))
      ∙ ap (λ z. z +ℤ r.div *ℤ new_value (cut_of r) ρ) (dot-negs (cut_of r).form (ρ ++ (pos 1 ∷ [])))

  pub new-cut : (y : List ℤ) (v : ℤ) → NonNeg y → Says (under ρ r) y v → (k : ℕ) × Says (under (gained (cut_of r) q ρ) (cut_row (cut_of r) (Some q))) y (pos k)
  new-cut y v ny e =
      let k = cut-value ρ r y v (new_value (cut_of r) ρ) above ny e (small (value_at (cut_of r).form ρ) (r.div *ℤ new_value (cut_of r) ρ) (modulo (value_at (cut_of r).form ρ) r.div) r.div rest.is rest.high) in
      (k.0, lowest-says (gained (cut_of r) q ρ) (record { coefs = (cut_of r).coefs; form = cut_form (cut_of r) (Some q); div = r.div }) y (pos k.0) above (k.1 ∙ ap (λ z. dot (cut_of r).coefs y +ℤ z) (sym value-new)))
    where
      small : (T dq m d : ℤ) → T ≡ dq +ℤ m → m <ℤ d → (T -ℤ dq) <ℤ d
      small T dq m d e h = omega (arith, ints)

  -- T - d × q and -T + d × q + d - 1 are at least 0
  pub lower-holds : pos 0 ≤ℤ value_at (lower (cut_of r) q) (gained (cut_of r) q ρ)
  lower-holds =
      rw (value-used (cut_of r).form ρ q (neg_ℤ r.div) (new_value (cut_of r) ρ) (mod-unused r.div r.form q free) (omega (arith, wide)) (omega (arith, n)), neg-l r.div (new_value (cut_of r) ρ))
      (low (value_at (cut_of r).form ρ) (r.div *ℤ new_value (cut_of r) ρ) (modulo (value_at (cut_of r).form ρ) r.div) rest.is rest.low)
    where
      low : (T dq m : ℤ) → T ≡ dq +ℤ m → pos 0 ≤ℤ m → pos 0 ≤ℤ (T +ℤ neg_ℤ dq)
      low T dq m e h = omega (arith, ints)

  pub upper-holds : pos 0 ≤ℤ value_at (upper (cut_of r) q) (gained (cut_of r) q ρ)
  upper-holds =
      rw (value-constant (cut_form (cut_of r) (Some q)) (gained (cut_of r) q ρ) (neg_ℤ (at (cut_of r).form 9) +ℤ (r.div -ℤ pos 1)) (length-set ρ q (new_value (cut_of r) ρ) ∙ n) (omega (arith, length-set (map neg_ℤ (cut_of r).form) q r.div, negs-wide)), value-new, last)
      (high (value_at (cut_of r).form ρ) (r.div *ℤ new_value (cut_of r) ρ) (modulo (value_at (cut_of r).form ρ) r.div) r.div (at (cut_of r).form 9) rest.is rest.high)
    where
      last : at (cut_form (cut_of r) (Some q)) 9 ≡ neg_ℤ (at (cut_of r).form 9)
      last = get_or-set_other (map neg_ℤ (cut_of r).form) q 9 r.div (pos 0) (λ e. let no : ⊥ = omega (arith, e) in no) ∙ at-negs (cut_of r).form 9

      high : (T dq m d c : ℤ) → T ≡ dq +ℤ m → m <ℤ d → pos 0 ≤ℤ (neg_ℤ T +ℤ dq +ℤ ((neg_ℤ c +ℤ (d -ℤ pos 1)) -ℤ neg_ℤ c))
      high T dq m d c e h = omega (arith, ints)

pub new-holds : NewHolds
new-holds ρ r q form n lt above free = (lower-holds ρ r q form n lt above free, upper-holds ρ r q form n lt above free)

-- a natural setting stays natural: T has no number below 0
pub setting-natural : SettingNatural
setting-natural ρ r q above nn =
    let T = (cut_of r).form in
    let one : NonNeg (ρ ++ (pos 1 ∷ [])) = nonneg-append ρ (pos 1 ∷ []) nn (omega (arith, ints), tt) in
    nonneg-set ρ q (new_value (cut_of r) ρ) nn (floor-nonneg (value_at T ρ) r.div (dot-nonneg T (ρ ++ (pos 1 ∷ [])) (mods-nonneg r.div (map neg_ℤ r.form) above) one))
