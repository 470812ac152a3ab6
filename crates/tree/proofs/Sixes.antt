-- Lists with zeros after them: the values of a leaf's forms in a place of six, and numbers written one by one.
use Rattle.std.proofs.Common.{◌≡◌, ℕ, suc, ◌+◌, ◌-◌, ◌<◌, ◌≤◌, List, [], ◌∷◌, ◌++◌, length, get_or, take, set, replicate, ℤ, pos, sym, refl, ap, ◌∙◌, ap₂, append_assoc, arith}
use Rattle.std.proofs.lemmas.List.{get_or-map, length-map, length_push, length-take-le, set_at, take_more}
use Rattle.base.specs.Forms.{value_at}
use Rattle.tree.specs.Answers.{values_at}
use Rattle.tree.specs.Finds.{padded, six_numbers}

padded-push : (m : ℕ) (vs : List ℤ) (x : ℤ) → length vs < m → set (padded m vs) (length vs) x ≡ padded m (vs ++ x ∷ [])
padded-push m vs x h =
    let r = m - length (vs ++ x ∷ []) in
    let e : m - length vs ≡ suc r = omega (arith, length_push vs x) in
    ap (λ n. set (vs ++ replicate n (pos 0)) (length vs) x) e ∙ set_at vs (pos 0) (replicate r (pos 0)) x (length vs) refl ∙ sym (append_assoc vs (x ∷ []) (replicate r (pos 0)))

-- one number more
pub padded-more : (m : ℕ) (xs : List ℤ) (k : ℕ) (out : List ℤ) (x : ℤ) → k < length xs → k < m → x ≡ get_or xs k (pos 0) → out ≡ padded m (take k xs) → set out k x ≡ padded m (take (k + 1) xs)
padded-more m xs k out x h l e inv =
    let n : length (take k xs) ≡ k = length-take-le k xs (omega arith) in
    ap₂ (λ v i. set v i x) inv (sym n) ∙ padded-push m (take k xs) x (omega (arith, n)) ∙ ap (λ y. padded m (take k xs ++ y ∷ [])) e ∙ ap (padded m) (sym (take_more xs k (pos 0) h))

-- one value of a form more
pub value-more : (ρ : List ℤ) (forms : List (List ℤ)) (k : ℕ) (values : List ℤ) (x : ℤ) → k < length forms → length forms ≤ 6 → x ≡ value_at (get_or forms k []) ρ → values ≡ six_numbers (take k (values_at ρ forms)) → set values k x ≡ six_numbers (take (k + 1) (values_at ρ forms))
value-more ρ forms k values x h l e inv =
    padded-more 6 (values_at ρ forms) k values x (omega (arith, h, length-map forms (λ C. value_at C ρ))) (omega (arith, h, l)) (e ∙ sym (get_or-map (λ C. value_at C ρ) forms k [] (pos 0) h)) inv
