-- The table that work starts from is right.
use Rattle.std.proofs.Common.{◌≡◌, ℕ, zero, suc, ◌+◌, ◌-◌, ◌<◌, ◌≤◌, List, [], ◌∷◌, ◌++◌, map, length, ℤ, pos, ◌+ℤ◌, ◌*ℤ◌, ◌<ℤ◌, sym, refl, ap, ◌∙◌, inl, inr, add-zero, arith, length-set, get_or-set_other, get_or-set_same}
use native.Mathlib.Decide.{ℕ_discrete}
use borrow.Author.Differences.{ints}
use Rattle.std.proofs.lemmas.List.{length-append, length-map}
use Rattle.base.specs.Numbers.{at, zeros}
use Rattle.base.specs.Forms.{dot, value_at}
use Rattle.tableau.specs.declared.table.Row.{Row}
use Rattle.algebra.specs.Lists.{NonNeg, column}
use Rattle.algebra.specs.Orders.{LexNN}
use Rattle.algebra.proofs.Ring.{◌⊕◌, ◌⊖◌, ◌⊗◌, num, ring}
use Rattle.algebra.proofs.Claims.{given, goal, ring-from}
use Rattle.algebra.proofs.Dots.{dot-comm, dot-padded, dot-zeros, length-zeros, set-dot}
use Rattle.base.proofs.Zeros.{at-zeros}
use Rattle.base.proofs.Values.{dot-nil}
use Rattle.tableau.proofs.Units.{length-units}
use Rattle.algebra.proofs.Naturals.{nonneg-append, nonneg-zeros}
use Rattle.tableau_laws.specs.Lines.{Above, AllSay, AllSayAt, Shaped, coefs_of, under}
use Rattle.tableau_laws.specs.Facts.{Linked, Satisfied}
use Rattle.tableau_laws.specs.Start.{Plain}
use Rattle.tableau.specs.Tables.{unit_row, unit_rows}
use Rattle.tableau_laws.specs.Laws.{StartRight}

-- ---- the unknowns' rows
dot-unit : (l : ℕ) (y : List ℤ) → l < 9 → dot (unit_row l).coefs y ≡ at y l
dot-unit l y h =
    set-dot (zeros 9) y l (pos 1) h
    ∙ rw (dot-comm (zeros 9) y, dot-zeros 9 y, at-zeros 9 l) (ring 1 (λ v. (num (pos 0) ⊕ (num (pos 1) ⊖ num (pos 0)) ⊗ v, v)) refl (at y l))

zero-value : (ρ : List ℤ) → value_at (zeros 10) ρ ≡ pos 0
zero-value ρ = dot-comm (zeros 10) (ρ ++ (pos 1 ∷ [])) ∙ dot-zeros 10 (ρ ++ (pos 1 ∷ []))

shift : (l m : ℕ) → suc l + m ≡ l + suc m
shift l m = omega arith

units-say : (ρ : List ℤ) (l k : ℕ) (y x : List ℤ) → l + k ≤ 9 → length x ≡ k → ((m : ℕ) → m < k → at x m ≡ at y (l + m)) → AllSay (map (under ρ) (unit_rows l k)) y x
units-say ρ l zero y [] h e f = tt
units-say ρ l zero y (v ∷ x) h e f = absurd (let no : ⊥ = omega arith in no)
units-say ρ l (suc k) y [] h e f = absurd (let no : ⊥ = omega arith in no)
units-say ρ l (suc k) y (v ∷ x) h e f = (
  rw (f 0 (omega arith) ∙ ap (λ m. at y m) (add-zero l), dot-unit l y (omega arith), zero-value ρ) (ring 1 (λ v. (num (pos 1) ⊗ v, v ⊕ num (pos 0))) refl (at y l)),
  units-say ρ (suc l) k y x (omega arith) (omega arith) (λ m lt. f (suc m) (omega arith) ∙ ap (λ m. at y m) (sym (shift l m))),
)

-- and back: they say what the basic unknowns are
units-back : (ρ : List ℤ) (l k : ℕ) (y : List ℤ) (s : ℤ) (X : List ℤ) → l + k ≤ 9 → AllSayAt (map (under ρ) (unit_rows l k)) y s X → (length X ≡ k) × ((m : ℕ) → m < k → at X m ≡ at y (l + m))
units-back ρ l zero y s [] h a = (refl, λ m lt. absurd (let no : ⊥ = omega arith in no))
units-back ρ l zero y s (x ∷ X) h a = absurd a
units-back ρ l (suc k) y s [] h a = absurd a
units-back ρ l (suc k) y s (x ∷ X) h a =
    let r = units-back ρ (suc l) k y s X (omega arith) a.1 in
    (ap suc r.0, place r.1 (plain x (at y l) s (rw (dot-unit l y (omega arith), zero-value ρ) at a.0)))
  where
    plain : (x v s : ℤ) → pos 1 *ℤ x ≡ v +ℤ s *ℤ pos 0 → x ≡ v
    plain = ring-from 3 (λ x v s. given (num (pos 1)) (num (pos 1) ⊗ x) (v ⊕ s ⊗ num (pos 0)) (goal x v)) refl

    place : ((m : ℕ) → m < k → at X m ≡ at y (suc l + m)) → x ≡ at y l → (m : ℕ) → m < suc k → at (x ∷ X) m ≡ at y (l + m)
    place f e zero lt = e ∙ ap (λ m. at y m) (sym (add-zero l))
    place f e (suc m) lt = f m (omega arith) ∙ ap (λ m. at y m) (shift l m)

units-lex : (ρ : List ℤ) (l k c : ℕ) → l + k ≤ 9 → LexNN (column (coefs_of (map (under ρ) (unit_rows l k))) c)
units-lex ρ l zero c h = tt
units-lex ρ l (suc k) c h = go (units-lex ρ (suc l) k c (omega arith)) (ℕ_discrete c l)
  where
    up : {v : ℤ} → v ≡ pos 1 → pos 0 <ℤ v
    up {v} e = omega (arith, ints)

    go : LexNN (column (coefs_of (map (under ρ) (unit_rows (suc l) k))) c) → Dec (c ≡ l) → LexNN (column (coefs_of (map (under ρ) (unit_rows l (suc k)))) c)
    go ih (yes e) = inl (up (ap (λ m. at (unit_row l).coefs m) e ∙ get_or-set_same (zeros 9) l (pos 1) (pos 0) (omega arith)))
    go ih (no ne) = inr (get_or-set_other (zeros 9) l c (pos 1) (pos 0) ne ∙ at-zeros 9 c, ih)

units-above : (ρ : List ℤ) (l k : ℕ) → Above (map (under ρ) (unit_rows l k))
units-above ρ l zero = tt
units-above ρ l (suc k) = (omega (arith, ints), units-above ρ (suc l) k)

units-shaped : (l k : ℕ) → Shaped (unit_rows l k)
units-shaped l zero = tt
units-shaped l (suc k) = (length-set (zeros 9) l (pos 1), refl, units-shaped (suc l) k)

-- ---- the system's rows
abbrev row_values : List ℤ → List Row → List ℤ → List ℤ
row_values ρ [] x = []
row_values ρ (r ∷ rs) x = (dot r.coefs x +ℤ value_at r.form ρ) ∷ row_values ρ rs x

rows-say : (ρ : List ℤ) (n m : ℕ) (rs : List Row) (x : List ℤ) → Plain n rs → AllSay (map (under ρ) rs) (x ++ zeros m) (row_values ρ rs x)
rows-say ρ n m [] x p = tt
rows-say ρ n m (r ∷ rs) x p = (rw (p.0, dot-padded r.coefs x m) (ring 1 (λ v. (num (pos 1) ⊗ v, v)) refl (dot r.coefs x +ℤ value_at r.form ρ)), rows-say ρ n m rs x p.2)

rows-natural : (ρ : List ℤ) (rs : List Row) (x : List ℤ) → Satisfied (map (under ρ) rs) x → NonNeg (row_values ρ rs x)
rows-natural ρ [] x s = tt
rows-natural ρ (r ∷ rs) x s = (s.0, rows-natural ρ rs x s.1)

rows_above : (ρ : List ℤ) (n : ℕ) (rs : List Row) → Plain n rs → Above (map (under ρ) rs)
rows_above ρ n [] p = tt
rows_above ρ n (r ∷ rs) p = (one p.0, rows_above ρ n rs p.2)
  where
    one : {v : ℤ} → v ≡ pos 1 → pos 0 <ℤ v
    one {v} e = omega (arith, ints)

-- a product with the first numbers of y, where the others meet only zeros
dot-front : (C X y : List ℤ) → length X ≤ length y → ((m : ℕ) → m < length X → at X m ≡ at y m) → ((m : ℕ) → length X ≤ m → at C m ≡ pos 0) → dot C X ≡ dot C y
dot-front [] X y h f z = refl
dot-front (c ∷ C) [] [] h f z = refl
dot-front (c ∷ C) [] (v ∷ y) h f z = sym (rw (z 0 (omega arith), sym (dot-front C [] y (omega arith) (λ m lt. absurd (let no : ⊥ = omega arith in no)) (λ m le. z (suc m) (omega arith))) ∙ dot-nil C) (ring 1 (λ v. (num (pos 0) ⊗ v ⊕ num (pos 0), num (pos 0))) refl v))
dot-front (c ∷ C) (x ∷ X) [] h f z = absurd (let no : ⊥ = omega arith in no)
dot-front (c ∷ C) (x ∷ X) (v ∷ y) h f z = rw (f 0 (omega arith), dot-front C X y (omega arith) (λ m lt. f (suc m) (omega arith)) (λ m le. z (suc m) (omega arith)))

rows-linked : (ρ : List ℤ) (n : ℕ) (rs : List Row) (y : List ℤ) (s : ℤ) (X : List ℤ) → Plain n rs → length X ≡ n → n ≤ length y → ((m : ℕ) → m < n → at X m ≡ at y m) → Linked y s X (map (under ρ) rs) (map (under ρ) rs)
rows-linked ρ n [] y s X p e h f = tt
rows-linked ρ n (r ∷ rs) y s X p e h f = (
  rw (p.0, dot-front r.coefs X y (omega (arith, e)) (λ m lt. f m (omega (arith, e))) (λ m le. p.1 m (omega (arith, e)))) (ring 1 (λ v. (num (pos 1) ⊗ v, v)) refl (dot r.coefs y +ℤ s *ℤ value_at r.form ρ)),
  rows-linked ρ n rs y s X p.2 e h f,
)

-- ---- where y is x, and 0 past n
at_front : (x zs : List ℤ) (m : ℕ) → m < length x → at x m ≡ at (x ++ zs) m
at_front [] zs m h = absurd (let no : ⊥ = omega arith in no)
at_front (v ∷ x) zs zero h = refl
at_front (v ∷ x) zs (suc m) h = at_front x zs m (omega arith)

zero-add : (m : ℕ) → 0 + m ≡ m
zero-add m = omega arith

pub start_right : StartRight
start_right n ρ rest few shaped plain = record {
  facts = record {
    reach = λ x p. record {
      basic = x ++ zeros (9 - n);
      wide = length-append x (zeros (9 - n)) ∙ wide x p.counted;
      natural = nonneg-append x (zeros (9 - n)) p.natural (nonneg-zeros (9 - n));
      unknowns = units-say ρ 0 n (x ++ zeros (9 - n)) x (omega arith) p.counted (λ m lt. at_front x (zeros (9 - n)) m (omega (arith, p.counted)) ∙ ap (λ k. at (x ++ zeros (9 - n)) k) (sym (zero-add m)));
      values = row_values ρ rest x;
      values_natural = rows-natural ρ rest x p.satisfied;
      others = rows-say ρ n (9 - n) rest x plain;
    };
    link = λ y s X ny a.
        let b = units-back ρ 0 n y s X (omega arith) a in
        rows-linked ρ n rest y s X plain b.0 (omega (arith, ny)) (λ m lt. b.1 m lt ∙ ap (λ k. at y k) (zero-add m));
    lex = λ c. units-lex ρ 0 n c (omega arith);
    div = (units-above ρ 0 n, rows_above ρ n rest plain);
    size = length-map (unit_rows 0 n) (under ρ) ∙ length-units 0 n;
  };
  top_shaped = units-shaped 0 n;
  rest_shaped = shaped;
}
  where
    wide : (x : List ℤ) → length x ≡ n → length x + length (zeros (9 - n)) ≡ 9
    wide x e = omega (arith, length-zeros (9 - n))
