-- A system's rows as rows of the table: the same points, and the same parameter points.
use Rattle.std.proofs.Common.{◌≡◌, ℕ, zero, suc, ◌+◌, ◌-◌, ◌<◌, ◌≤◌, List, [], ◌∷◌, ◌++◌, map, length, take, drop, ℤ, pos, ◌+ℤ◌, ◌*ℤ◌, nat_abs, Some, None, Option, sym, refl, ap, ◌∙◌, subst, inl, inr, arith}
use Rattle.std.proofs.lemmas.List.{append_assoc, get_or_append_left, get_or-append_right, get_or-drop, length-append, length-drop, length-map, length-take-le, take-append-drop}
use Rattle.base.specs.Numbers.{at, zeros}
use Rattle.base.specs.Forms.{dot, value_at}
use Rattle.algebra.specs.Lists.{NonNeg}
use Rattle.algebra.specs.Orders.{LexLe}
use Rattle.algebra.proofs.Dots.{dot-append, dot-comm, dot-padded, dot-zeros, length-zeros}
use Rattle.base.proofs.Values.{dot-nil}
use Rattle.base.proofs.Zeros.{at-zeros}
use Rattle.algebra.proofs.Naturals.{nonneg_pos, pos-sizes}
use Rattle.algebra.proofs.Precedes.{lex-precedes}
use Rattle.algebra.proofs.Ring.{◌⊕◌, ◌⊗◌, num, ring}
use Rattle.algebra.proofs.Systems.{row-parts}
use Rattle.source.specs.Systems.{AllHold, MeetsContext, Point, System}
use Rattle.tableau_laws.specs.Facts.{Point as LinePoint, Satisfied}
use Rattle.tableau_laws.specs.Lines.{Line, Shaped, Unused, under}
use Rattle.tableau_laws.specs.Start.{Plain}
use Rattle.tree.specs.Answers.{setting}
use Rattle.solver.specs.Solves.{context_of, fitted, form_of, row_of, rows_of}
use Rattle.solver_laws.specs.Meaning.{Meets, RightAnswer, Setting}
use Rattle.solver_laws.specs.Places.{AllUse, Spare, Uses}
use Rattle.solver_laws.proofs.Gathers.{dot_at, dot-one}
use Rattle.solver_laws.proofs.Nodes.{Correct}

-- ---- a row of the right length
pub length-fitted : (w : ℕ) (row : List ℤ) → length (fitted w row) ≡ w
length-fitted zero row = refl
length-fitted (suc w) [] = ap suc (length-fitted w [])
length-fitted (suc w) (x ∷ xs) = ap suc (length-fitted w xs)

-- it has the same products
dot-fitted : (w : ℕ) (row v : List ℤ) → length v ≡ w → dot (fitted w row) v ≡ dot row v
dot-fitted zero row [] e = sym (dot-nil row)
dot-fitted zero row (y ∷ v) e = absurd (let no : ⊥ = omega arith in no)
dot-fitted (suc w) row [] e = absurd (let no : ⊥ = omega arith in no)
dot-fitted (suc w) [] (y ∷ v) e = rw (dot-fitted w [] v (omega arith)) (ring 1 (λ y. (num (pos 0) ⊗ y ⊕ num (pos 0), num (pos 0))) refl y)
dot-fitted (suc w) (x ∷ xs) (y ∷ v) e = ap (λ d. x *ℤ y +ℤ d) (dot-fitted w xs v (omega arith))

-- ---- forms of p parameters
-- the value of a form where the parameters are us
form-value : (p : ℕ) (g us vs : List ℤ) → p < length g → length us ≡ p → length vs ≡ 9 - p → value_at (form_of p g) (us ++ vs) ≡ dot g (us ++ (pos 1 ∷ []))
form-value p g us vs h lu lv =
    let one : List ℤ = pos 1 ∷ [] in
    let lg : length (take p g) ≡ length us = length-take-le p g (omega arith) ∙ sym lu in
    let lz : length (zeros (9 - p)) ≡ length vs = length-zeros (9 - p) ∙ sym lv in
    let zero-part : dot (zeros (9 - p)) vs ≡ pos 0 = dot-comm (zeros (9 - p)) vs ∙ dot-zeros (9 - p) vs in
    ap (dot (form_of p g)) (append_assoc us vs one)
    ∙ dot-append (take p g) (zeros (9 - p) ++ at g p ∷ []) us (vs ++ one) lg
    ∙ ap (λ v. dot (take p g) us +ℤ v) (dot-append (zeros (9 - p)) (at g p ∷ []) vs one lz ∙ rw zero-part (ring 1 (λ c. (num (pos 0) ⊕ (c ⊗ num (pos 1) ⊕ num (pos 0)), c)) refl (at g p)))
    ∙ sym (dot_at p g us one lu ∙ ap (λ v. dot (take p g) us +ℤ v) (dot-one (drop p g) ∙ get_or-drop p g 0 (pos 0) ∙ ap (at g) plus_none))
  where
    plus_none : p + 0 ≡ p
    plus_none = omega arith

-- it uses the p parameters and no others
pub form-uses : (p made : ℕ) (g : List ℤ) → p ≤ 4 → p < length g → Uses p made (form_of p g)
form-uses p made g few h = record { ten = ten; free = free }
  where
    lg : length (take p g) ≡ p
    lg = length-take-le p g (omega arith)

    ten : length (form_of p g) ≡ 10
    ten = length-append (take p g) (zeros (9 - p) ++ at g p ∷ []) ∙ rw (lg, length-append (zeros (9 - p)) (at g p ∷ []), length-zeros (9 - p)) (omega arith)

    past : (q : ℕ) → p ≤ q → q < 9 → at (form_of p g) q ≡ pos 0
    past q low high =
        get_or-append_right (take p g) (zeros (9 - p) ++ at g p ∷ []) p q (pos 0) lg low
        ∙ get_or_append_left (zeros (9 - p)) (at g p ∷ []) (pos 0) (q - p) (omega (arith, length-zeros (9 - p)))
        ∙ at-zeros (9 - p) (q - p)

    free : (q : ℕ) → Spare p made q → at (form_of p g) q ≡ pos 0
    free q (inl k) = past q k.0 (omega arith)
    free q (inr k) = past q (omega arith) k.1

-- ---- the parameters as a setting
pub setting-parts : (p : ℕ) (z : List ℕ) → length z ≡ p → (length (map pos z) ≡ p) × (length (zeros (9 - length z)) ≡ 9 - p)
setting-parts p z e = (length-map z pos ∙ e, length-zeros (9 - length z) ∙ ap (λ k. 9 - k) e)

pub context-value : (p : ℕ) (row : List ℤ) (us vs : List ℤ) → length us ≡ p → length vs ≡ 9 - p → value_at (form_of p (fitted (p + 1) row)) (us ++ vs) ≡ dot row (us ++ (pos 1 ∷ []))
context-value p row us vs lu lv =
    form-value p (fitted (p + 1) row) us vs (omega (arith, length-fitted (p + 1) row)) lu lv
    ∙ dot-fitted (p + 1) row (us ++ (pos 1 ∷ [])) (length-append us (pos 1 ∷ []) ∙ ap (λ k. k + 1) lu)

-- ---- rows
row-width : (n p : ℕ) (row : List ℤ) → length (drop n (fitted (n + p + 1) row)) ≡ p + 1
row-width n p row = length-drop n (fitted (n + p + 1) row) ∙ rw (length-fitted (n + p + 1) row) (omega arith)

row-value : (n p : ℕ) (row : List ℤ) (x z : List ℕ) → length x ≡ n → length z ≡ p → dot (row_of n p (fitted (n + p + 1) row)).coefs (map pos x) +ℤ value_at (row_of n p (fitted (n + p + 1) row)).form (setting z) ≡ dot row (map pos (x ++ z) ++ (pos 1 ∷ []))
row-value n p row x z ex ez =
    let f : List ℤ = fitted (n + p + 1) row in
    let sp = setting-parts p z ez in
    let cs : dot (take n f ++ zeros (9 - n)) (map pos x) ≡ dot (take n f) (map pos x) = dot-comm (take n f ++ zeros (9 - n)) (map pos x) ∙ dot-padded (map pos x) (take n f) (9 - n) ∙ dot-comm (map pos x) (take n f) in
    let fs : value_at (form_of p (drop n f)) (setting z) ≡ dot (drop n f) (map pos z ++ (pos 1 ∷ [])) = form-value p (drop n f) (map pos z) (zeros (9 - length z)) (omega (arith, row-width n p row)) sp.0 sp.1 in
    let wide : length (map pos (x ++ z) ++ (pos 1 ∷ [])) ≡ n + p + 1 = length-append (map pos (x ++ z)) (pos 1 ∷ []) ∙ ap (λ k. k + 1) (length-map (x ++ z) pos ∙ length-append x z ∙ rw (ex, ez) refl) in
    rw (cs, fs) (sym (row-parts f x z n ex)) ∙ dot-fitted (n + p + 1) row (map pos (x ++ z) ++ (pos 1 ∷ [])) wide

pub rows-shaped : (n p : ℕ) (rows : List (List ℤ)) → n ≤ 9 → p ≤ 4 → Shaped (map (row_of n p) (map (fitted (n + p + 1)) rows))
rows-shaped n p [] few less = tt
rows-shaped n p (row ∷ rows) few less =
    let f : List ℤ = fitted (n + p + 1) row in
    let lt : length (take n f) ≡ n = length-take-le n f (omega (arith, length-fitted (n + p + 1) row)) in
    (length-append (take n f) (zeros (9 - n)) ∙ rw (lt, length-zeros (9 - n)) (omega arith), (form-uses p 0 (drop n f) less (omega (arith, row-width n p row))).ten, rows-shaped n p rows few less)

pub rows-plain : (n p : ℕ) (rows : List (List ℤ)) → Plain n (map (row_of n p) (map (fitted (n + p + 1)) rows))
rows-plain n p [] = tt
rows-plain n p (row ∷ rows) =
    let f : List ℤ = fitted (n + p + 1) row in
    let lt : length (take n f) ≡ n = length-take-le n f (omega (arith, length-fitted (n + p + 1) row)) in
    (refl, (λ l h. get_or-append_right (take n f) (zeros (9 - n)) n l (pos 0) lt h ∙ at-zeros (9 - n) (l - n)), rows-plain n p rows)

pub rows-free : (n p made q : ℕ) (rows : List (List ℤ)) → p ≤ 4 → Spare p made q → Unused q (map (row_of n p) (map (fitted (n + p + 1)) rows))
rows-free n p made q [] few h = tt
rows-free n p made q (row ∷ rows) few h = ((form-uses p made (drop n (fitted (n + p + 1) row)) few (omega (arith, row-width n p row))).free q h, rows-free n p made q rows few h)

-- ---- the system at a parameter point
abbrev pub lines_at : System → List ℤ → List Line
lines_at S ρ = map (under ρ) (map (row_of S.n S.p) (rows_of S))

rows-satisfied : (n p : ℕ) (rows : List (List ℤ)) (x z : List ℕ) → length x ≡ n → length z ≡ p → AllHold rows (x ++ z) → Satisfied (map (under (setting z)) (map (row_of n p) (map (fitted (n + p + 1)) rows))) (map pos x)
rows-satisfied n p [] x z ex ez h = tt
rows-satisfied n p (row ∷ rows) x z ex ez h = (rw (row-value n p row x z ex ez) h.0, rows-satisfied n p rows x z ex ez h.1)

rows-hold : (n p : ℕ) (rows : List (List ℤ)) (x z : List ℕ) → length x ≡ n → length z ≡ p → Satisfied (map (under (setting z)) (map (row_of n p) (map (fitted (n + p + 1)) rows))) (map pos x) → AllHold rows (x ++ z)
rows-hold n p [] x z ex ez h = tt
rows-hold n p (row ∷ rows) x z ex ez h = (rw (row-value n p row x z ex ez) at h.0, rows-hold n p rows x z ex ez h.1)

module _ (S : System) (z : List ℕ) (counted : length z ≡ S.p) where
  to-point : (x : List ℕ) → Point S z x → LinePoint S.n (lines_at S (setting z)) (map pos x)
  to-point x k = record { counted = length-map x pos ∙ k.counted; natural = nonneg_pos x; satisfied = rows-satisfied S.n S.p S.rows x z k.counted counted k.holds }

  of-point : (x : List ℕ) → LinePoint S.n (lines_at S (setting z)) (map pos x) → Point S z x
  of-point x k = let e : length x ≡ S.n = sym (length-map x pos) ∙ k.counted in record { counted = e; holds = rows-hold S.n S.p S.rows x z e counted k.satisfied }

  -- an answer for the rows of the table is one for the system
  pub right_answer : (o : Option (List ℤ)) → Correct S.n (lines_at S (setting z)) o → RightAnswer S z o
  right_answer None no_point = λ x k. no_point (map pos x) (to-point x k)
  right_answer (Some values) least =
      let x = map nat_abs values in
      let same : map pos x ≡ values = pos-sizes values least.point.natural in
      (x, sym same, (of-point x (subst (LinePoint S.n (lines_at S (setting z))) (sym same) least.point), λ y k. lex-precedes x y (subst (λ (v : List ℤ). LexLe v (map pos y)) (sym same) (least.first (map pos y) (to-point y k)))))

-- ---- the context
pub context-uses : (p made : ℕ) (rows : List (List ℤ)) → p ≤ 4 → AllUse p made (map (λ row. form_of p (fitted (p + 1) row)) rows)
context-uses p made [] few = tt
context-uses p made (row ∷ rows) few = (form-uses p made (fitted (p + 1) row) few (omega (arith, length-fitted (p + 1) row)), context-uses p made rows few)

pub context-meets : (p : ℕ) (rows : List (List ℤ)) (z : List ℕ) → length z ≡ p → AllHold rows z → Meets (map (λ row. form_of p (fitted (p + 1) row)) rows) (setting z)
context-meets p [] z e h = tt
context-meets p (row ∷ rows) z e h = let sp = setting-parts p z e in (rw (context-value p row (map pos z) (zeros (9 - length z)) sp.0 sp.1) h.0, context-meets p rows z e h.1)

pub meets-setting : (S : System) (z : List ℕ) → MeetsContext S z → Meets (context_of S) (setting z)
meets-setting S z m = context-meets S.p S.context z m.counted m.holds

-- a setting that meets the forms of the context has a parameter point at its front
pub front-holds : (p : ℕ) (rows : List (List ℤ)) (z : List ℕ) (vs : List ℤ) → length z ≡ p → length vs ≡ 9 - p → Meets (map (λ row. form_of p (fitted (p + 1) row)) rows) (map pos z ++ vs) → AllHold rows z
front-holds p [] z vs e lv m = tt
front-holds p (row ∷ rows) z vs e lv m = (rw (context-value p row (map pos z) vs (length-map z pos ∙ e) lv) at m.0, front-holds p rows z vs e lv m.1)

nonneg-front : (k : ℕ) (xs : List ℤ) → NonNeg xs → NonNeg (take k xs)
nonneg-front zero xs h = tt
nonneg-front (suc k) [] h = tt
nonneg-front (suc k) (x ∷ xs) h = (h.0, nonneg-front k xs h.1)

pub setting-point : (S : System) → S.p ≤ 4 → (ρ : List ℤ) → Setting ρ → Meets (context_of S) ρ → (z : List ℕ) × MeetsContext S z
setting-point S few ρ st m =
    let p = S.p in
    let us = take p ρ in
    let vs = drop p ρ in
    let z = map nat_abs us in
    let same : map pos z ≡ us = pos-sizes us (nonneg-front p ρ st.natural) in
    let lu : length us ≡ p = length-take-le p ρ (omega (arith, st.nine)) in
    let lv : length vs ≡ 9 - p = length-drop p ρ ∙ ap (λ k. k - p) st.nine in
    let whole : map pos z ++ vs ≡ ρ = ap (λ (t : List ℤ). t ++ vs) same ∙ take-append-drop p ρ in
    (z, record { counted = length-map us nat_abs ∙ lu; holds = front-holds p S.context z vs (length-map us nat_abs ∙ lu) lv (subst (Meets (context_of S)) (sym whole) m) })
