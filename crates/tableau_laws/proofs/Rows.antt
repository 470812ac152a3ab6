-- Rows of a table: which they are, their shape, and their lines.
use Rattle.std.proofs.Common.{◌≡◌, ℕ, zero, suc, ◌<◌, ◌⊎◌, List, [], ◌∷◌, ◌++◌, map, length, get_or, ℤ, pos, ◌≤ℤ◌, ◌<ℤ◌, sym, refl, ◌∙◌, subst, inl, inr, arith}
use Rattle.std.proofs.lemmas.List.{length-map, length-set}
use Rattle.base.specs.Numbers.{at}
use Rattle.tableau.specs.declared.table.Row.{Row}
use Rattle.tableau.specs.Rows.{lowest, pivoted, turned}
use Rattle.tableau.proofs.Combined.{length-combined}
use Rattle.algebra.specs.Lists.{NonNeg}
use Rattle.tableau_laws.specs.Lines.{Above, AllSay, In, Says, Shaped, under}

-- ---- membership
pub in-at : (rs : List Row) (k : ℕ) (d : Row) → k < length rs → In (get_or rs k d) rs
in-at [] k d h = absurd (let no : ⊥ = omega arith in no)
in-at (r ∷ rs) zero d h = inl refl
in-at (r ∷ rs) (suc k) d h = inr (in-at rs k d (omega arith))

pub in_either : (r : Row) (xs ys : List Row) → In r (xs ++ ys) → In r xs ⊎ In r ys
in_either r [] ys i = inr i
in_either r (x ∷ xs) ys (inl e) = inl (inl e)
in_either r (x ∷ xs) ys (inr i) = go (in_either r xs ys i)
  where
    go : In r xs ⊎ In r ys → In r (x ∷ xs) ⊎ In r ys
    go (inl i) = inl (inr i)
    go (inr i) = inr i

pub in_left : (r : Row) (xs ys : List Row) → In r xs → In r (xs ++ ys)
in_left r [] ys i = absurd i
in_left r (x ∷ xs) ys (inl e) = inl e
in_left r (x ∷ xs) ys (inr i) = inr (in_left r xs ys i)

pub in_right : (r : Row) (xs ys : List Row) → In r ys → In r (xs ++ ys)
in_right r [] ys i = i
in_right r (x ∷ xs) ys i = inr (in_right r xs ys i)

-- a fact of both lists is one of each row of either
pub of_either : (P : List Row → Type 0) (Q : Type 0) (r : Row) (xs ys : List Row) → ((zs : List Row) → In r zs → P zs → Q) → In r (xs ++ ys) → P xs → P ys → Q
of_either P Q r xs ys f i p q = go (in_either r xs ys i)
  where
    go : In r xs ⊎ In r ys → Q
    go (inl i) = f xs i p
    go (inr i) = f ys i q

pub shape_of : (r : Row) (rs : List Row) → In r rs → Shaped rs → (length r.coefs ≡ 9) × (length r.form ≡ 10)
shape_of r [] i s = absurd i
shape_of r (x ∷ rs) (inl e) s = subst (λ (t : Row). (length t.coefs ≡ 9) × (length t.form ≡ 10)) e (s.0, s.1)
shape_of r (x ∷ rs) (inr i) s = shape_of r rs i s.2

pub above_of : (ρ : List ℤ) (r : Row) (rs : List Row) → In r rs → Above (map (under ρ) rs) → pos 0 <ℤ r.div
above_of ρ r [] i a = absurd i
above_of ρ r (x ∷ rs) (inl e) a = subst (λ (t : Row). pos 0 <ℤ t.div) e a.0
above_of ρ r (x ∷ rs) (inr i) a = above_of ρ r rs i a.1

-- a row has a natural value where all have
pub value_of : (ρ : List ℤ) (r : Row) (rs : List Row) (y vs : List ℤ) → In r rs → NonNeg vs → AllSay (map (under ρ) rs) y vs → (v : ℤ) × (pos 0 ≤ℤ v) × Says (under ρ r) y v
value_of ρ r [] y vs i n h = absurd i
value_of ρ r (x ∷ rs) y [] i n h = absurd h
value_of ρ r (x ∷ rs) y (v ∷ vs) (inl e) n h = (v, n.0, subst (λ (t : Row). Says (under ρ t) y v) e h.0)
value_of ρ r (x ∷ rs) y (v ∷ vs) (inr i) n h = value_of ρ r rs y vs i n.1 h.1

-- ---- shapes
pub shape-lowest : (r : Row) → length r.coefs ≡ 9 → length r.form ≡ 10 → (length (lowest r).coefs ≡ 9) × (length (lowest r).form ≡ 10)
shape-lowest r c f = (length-map r.coefs _ ∙ c, length-map r.form _ ∙ f)

pub shape-turned : (i : Row) (j : ℕ) (h : Row) → length i.coefs ≡ 9 → length i.form ≡ 10 → length h.coefs ≡ 9 → length h.form ≡ 10 → (length (turned i j h).coefs ≡ 9) × (length (turned i j h).form ≡ 10)
shape-turned i j h ic if hc hf =
    let a = at i.coefs j in
    let b = at h.coefs j in
    (length-set _ j _ ∙ length-combined a b h.coefs i.coefs (hc ∙ sym ic) ∙ hc, length-combined a b h.form i.form (hf ∙ sym if) ∙ hf)

pub shaped-pivoted : (i : Row) (j : ℕ) (rs : List Row) → length i.coefs ≡ 9 → length i.form ≡ 10 → Shaped rs → Shaped (map (pivoted i j) rs)
shaped-pivoted i j [] c f s = tt
shaped-pivoted i j (h ∷ rs) c f s =
    let t = shape-turned i j h c f s.0 s.1 in
    let l = shape-lowest (turned i j h) t.0 t.1 in
    (l.0, l.1, shaped-pivoted i j rs c f s.2)

pub shaped-more : (rs : List Row) (r : Row) → Shaped rs → length r.coefs ≡ 9 → length r.form ≡ 10 → Shaped (rs ++ (r ∷ []))
shaped-more [] r s c f = (c, f, tt)
shaped-more (x ∷ rs) r s c f = (s.0, s.1, shaped-more rs r s.2 c f)
