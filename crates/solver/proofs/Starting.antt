-- The rows that a table starts from, one more at a time and place by place.
use Rattle.std.proofs.Common.{◌≡◌, ℕ, zero, suc, ◌+◌, ◌-◌, ◌≤◌, List, [], ◌∷◌, ◌++◌, length, take, drop, ℤ, pos, sym, ap, ◌∙◌, add-one, arith}
use Rattle.std.proofs.lemmas.List.{length-append, length-drop, length-replicate, length-take}
use Rattle.base.specs.Numbers.{zeros}
use Rattle.solver.specs.Tests.{test_row}
use Rattle.tableau.specs.Tables.{unit_row, unit_rows}

-- one unknown more
units-from : (h k : ℕ) → unit_rows h (suc k) ≡ unit_rows h k ++ unit_row (h + k) ∷ []
units-from h zero = ap (λ n. unit_row n ∷ []) (sym (let e : h + 0 ≡ h = omega arith in e))
units-from h (suc k) = ap (λ l. unit_row h ∷ l) (units-from (suc h) k ∙ ap (λ n. unit_rows (suc h) k ++ unit_row n ∷ []) (let e : suc h + k ≡ h + suc k = omega arith in e))

pub units-more : (k : ℕ) → unit_rows 0 (k + 1) ≡ unit_rows 0 k ++ unit_row k ∷ []
units-more k = ap (unit_rows 0) (add-one k) ∙ units-from 0 k ∙ ap (λ n. unit_rows 0 k ++ unit_row n ∷ []) (let e : 0 + k ≡ k = omega arith in e)

module _ (p made : ℕ) (C : List ℤ) (hp : p ≤ 4) (hm : made ≤ 5) (long : length C ≡ 10) where
  front : length (take p C) ≡ p
  front = length-take p C ∙ (omega arith)

  middle : length (take made (drop 4 C)) ≡ made
  middle = let d = length-drop 4 C in length-take made (drop 4 C) ∙ (omega arith)

  pub test-width : length (test_row p made C).coefs ≡ 9
  test-width =
      let a = length-append (take p C) (take made (drop 4 C) ++ zeros (9 - (p + made))) in
      let b = length-append (take made (drop 4 C)) (zeros (9 - (p + made))) in
      let z = length-replicate (9 - (p + made)) (pos 0) in
      let f = front in
      let m = middle in
      omega arith
