-- Steps along rows that stand one after another.
use Rattle.std.proofs.Common.{◌≡◌, ℕ, zero, suc, ◌+◌, ◌*◌, ◌<◌, List, [], ◌∷◌, ◌++◌, length, take, drop, ℤ, Ok, Err, Result, sym, refl, ap, ap₂, ◌∙◌, suc-mul, arith}
use Rattle.std.proofs.lemmas.List.{drop-take, length-append}
use Rattle.std.proofs.Math.Seq.{drop-append_seam, take-append_seam}
use Rattle.base.specs.declared.refusal.Refusal.{Refusal}
use Rattle.source.specs.Systems.{System}
use Rattle.listing.specs.Listings.{and_then, rows_of, each_row}

take_take : (w m : ℕ) (xs : List ℤ) → take w (take (w + m) xs) ≡ take w xs
take_take zero m xs = refl
take_take (suc w) m [] = let one : suc w + m ≡ suc (w + m) = omega arith in ap (λ n. take (suc w) (take n [])) one
take_take (suc w) m (x ∷ xs) = let one : suc w + m ≡ suc (w + m) = omega arith in ap (λ n. take (suc w) (take n (x ∷ xs))) one ∙ ap (λ ys. x ∷ ys) (take_take w m xs)

-- the numbers after the rows do not count
pub rows-front : (n w : ℕ) (xs : List ℤ) → rows_of n w (take (n * w) xs) ≡ rows_of n w xs
rows-front zero w xs = refl
rows-front (suc n) w xs =
    let e : suc n * w ≡ w + n * w = omega (arith, suc-mul n w) in
    ap (λ m. rows_of (suc n) w (take m xs)) e
    ∙ ap₂ (λ x y. x ∷ rows_of n w y) (take_take w (n * w) xs) (drop-take w (n * w) xs)
    ∙ ap (λ rows. take w xs ∷ rows) (rows-front n w (drop w xs))

-- one row, and those after it
rows_next : (k w : ℕ) (row rest : List ℤ) → length row ≡ w → rows_of (suc k) w (row ++ rest) ≡ row ∷ rows_of k w rest
rows_next k w row rest e =
    ap₂ (λ x y. x ∷ rows_of k w y) (ap (λ n. take n (row ++ rest)) (sym e) ∙ take-append_seam row rest) (ap (λ n. drop n (row ++ rest)) (sym e) ∙ drop-append_seam row rest)

-- ---- what the rows that are left come to

module _ (answer : System → List ℤ → Result (Unit {0}) Refusal) (left : System → List ℤ → System) where
  -- so many rows are left in `rest`, and from S on they give the outcome
  abbrev pub Leads : ℕ → List ℤ → System → Result System Refusal → Type 0
  Leads w rest S outcome = (k : ℕ) × ((length rest ≡ k * w) × (each_row answer left (rows_of k w rest) S ≡ outcome))

  some_left : (k w : ℕ) (row rest : List ℤ) → 0 < w → length row ≡ w → length (row ++ rest) ≡ k * w → (j : ℕ) × ((k ≡ suc j) × (length rest ≡ j * w))
  some_left zero w row rest h e l = absurd (let a = length-append row rest in let no : ⊥ = omega arith in no)
  some_left (suc j) w row rest h e l = (j, (refl, let a = length-append row rest in omega (arith, suc-mul j w)))

  pub row-taken : (w : ℕ) (all row rest : List ℤ) (S T : System) (outcome : Result System Refusal) → 0 < w → all ≡ row ++ rest → length row ≡ w → Ok tt ≡ answer S row → T ≡ left S row → Leads w all S outcome → Leads w rest T outcome
  row-taken w all row rest S T outcome h s e a t (k, (l, r)) =
      let q = some_left k w row rest h e (ap length (sym s) ∙ l) in
      let j = q.0 in
      (j, (q.1.1, sym (ap (λ U. each_row answer left (rows_of j w rest) U) (sym t)) ∙ (sym (ap (λ x. and_then x (λ _. each_row answer left (rows_of j w rest) (left S row))) (sym a)) ∙ (sym (ap (λ rows. each_row answer left rows S) (ap (λ n. rows_of n w all) q.1.0 ∙ (ap (rows_of (suc j) w) s ∙ rows_next j w row rest e))) ∙ r))))

  pub row-refused : (w : ℕ) (all row rest : List ℤ) (S : System) (outcome : Result System Refusal) (d : Refusal) → 0 < w → all ≡ row ++ rest → length row ≡ w → Err d ≡ answer S row → Leads w all S outcome → Err d ≡ outcome
  row-refused w all row rest S outcome d h s e a (k, (l, r)) =
      let q = some_left k w row rest h e (ap length (sym s) ∙ l) in
      let j = q.0 in
      ap (λ x. and_then x (λ _. each_row answer left (rows_of j w rest) (left S row))) a ∙ (sym (ap (λ rows. each_row answer left rows S) (ap (λ n. rows_of n w all) q.1.0 ∙ (ap (rows_of (suc j) w) s ∙ rows_next j w row rest e))) ∙ r)

  no-rows : (k w : ℕ) (rest : List ℤ) → length rest < w → length rest ≡ k * w → k ≡ 0
  no-rows zero w rest h l = refl
  no-rows (suc k) w rest h l = absurd (let e = suc-mul k w in let no : ⊥ = omega arith in no)

  pub rows_end : (w : ℕ) (rest : List ℤ) (S : System) (outcome : Result System Refusal) → length rest < w → Leads w rest S outcome → Ok S ≡ outcome
  rows_end w rest S outcome h (k, (l, r)) = sym (ap (λ n. each_row answer left (rows_of n w rest) S) (no-rows k w rest h l)) ∙ r
