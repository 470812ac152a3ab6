-- How large the numbers of a setting can grow.
use Rattle.std.proofs.Common.{◌≡◌, ℕ, zero, suc, ◌+◌, ◌-◌, ◌*◌, ◌/◌, ◌^◌, ◌<◌, ◌≤◌, true, ◌&&◌, ltb, leb, List, [], ◌∷◌, ◌++◌, length, set, replicate, ℤ, pos, negsuc, ◌+ℤ◌, ◌*ℤ◌, nat_abs, sym, refl, ap, ◌∙◌, subst, mul_comm, div-lt_iff_lt-mul, mul-suc, mul-add, arith}
use native.Mathlib.Nat.{two-pow-succ}
use lib.Signed.{le_z, lt_z}
use Rattle.std.proofs.lemmas.Nat.{mul-le}
use Rattle.std.specs.List.{list_all}
use Rattle.std.proofs.lemmas.Bool.{and_from, and_parts, false≢true, leb-true, le-leb, ltb-true}
use Rattle.base.specs.Forms.{dot, value_at}
use Rattle.base.specs.Numbers.{AllWithin, floor_div}
use Rattle.tree.specs.Answers.{gaining}
use Rattle.tree.specs.Finds.{all_below, is_point, proper, spread}
use Rattle.tree.specs.Parts.{NoneBelow, total}

pub each_within : (ρ : List ℤ) (m : ℕ) → total ρ ≤ m → AllWithin m ρ
each_within [] m h k = omega arith
each_within (x ∷ xs) m h zero = omega arith
each_within (x ∷ xs) m h (suc k) = each_within xs m (omega arith) k

pub set-total : (ρ : List ℤ) (k q m : ℕ) → total ρ + q ≤ m → total (set ρ k (pos q)) ≤ m
set-total [] k q m h = omega arith
set-total (x ∷ xs) zero q m h = omega arith
set-total (x ∷ xs) (suc k) q m h = let r = set-total xs k q (m - nat_abs x) (omega arith) in omega (arith, r)

above-parts : (x : ℤ) (xs : List ℤ) → NoneBelow (x ∷ xs) → (le_z (pos 0) x ≡ true) × NoneBelow xs
above-parts x xs h = and_parts (le_z (pos 0) x) (list_all (le_z (pos 0)) xs) h

above-more : (x : ℤ) (xs : List ℤ) → le_z (pos 0) x ≡ true → NoneBelow xs → NoneBelow (x ∷ xs)
above-more x xs l h = and_from (le_z (pos 0) x) (list_all (le_z (pos 0)) xs) l h

pub set-above : (ρ : List ℤ) (k q : ℕ) → NoneBelow ρ → NoneBelow (set ρ k (pos q))
set-above [] k q h = refl
set-above (x ∷ xs) zero q h = above-more (pos q) xs (le-leb 0 q (omega arith)) (above-parts x xs h).1
set-above (x ∷ xs) (suc k) q h = let p = above-parts x xs h in above-more x (set xs k (pos q)) p.0 (set-above xs k q p.1)

-- ---- the value of a new parameter

below_parts : (d : ℕ) (x : ℤ) → (le_z (pos 0) x && lt_z x (pos (suc d))) ≡ true → (n : ℕ) × (x ≡ pos n) × (n ≤ d)
below_parts d (pos n) e = (n, refl, let h = ltb-true n (suc d) (and_parts (le_z (pos 0) (pos n)) (ltb n (suc d)) e).1 in omega (arith, h))
below_parts d (negsuc n) e = absurd (false≢true e)

-- coefficients from 0 to d at values from 0 up: from 0 to d times their total
dot-bound : (d : ℕ) (T ρ : List ℤ) → all_below (pos (suc d)) T ≡ true → NoneBelow ρ → (v : ℕ) × (dot T ρ ≡ pos v) × (v ≤ d * total ρ)
dot-bound d [] ρ a h = (0, refl, omega arith)
dot-bound d (x ∷ xs) [] a h = (0, refl, omega arith)
dot-bound d (x ∷ xs) (negsuc r ∷ ρ) a h = absurd (false≢true h)
dot-bound d (x ∷ xs) (pos r ∷ ρ) a h =
    let t = and_parts (le_z (pos 0) x && lt_z x (pos (suc d))) (all_below (pos (suc d)) xs) a in
    let b = below_parts d x t.0 in
    let i = dot-bound d xs ρ t.1 (above-parts (pos r) ρ h).1 in
    let m = mul-le b.0 r d r b.2 (omega arith) in
    let s = mul-add d r (total ρ) in
    (b.0 * r + i.0, ap (λ y. y *ℤ pos r +ℤ dot xs ρ) b.1 ∙ ap (λ z. pos (b.0 * r) +ℤ z) i.1, omega (arith, m, s, i.2))

total-one : (ρ : List ℤ) → total (ρ ++ pos 1 ∷ []) ≡ total ρ + 1
total-one [] = refl
total-one (x ∷ xs) = omega (arith, total-one xs)

above-one : (ρ : List ℤ) → NoneBelow ρ → NoneBelow (ρ ++ pos 1 ∷ [])
above-one [] h = refl
above-one (x ∷ xs) h = let p = above-parts x xs h in above-more x (xs ++ pos 1 ∷ []) p.0 (above-one xs p.1)

-- the floor of a proper T / d is from 0 to the total of the values
new-bound : (d : ℤ) (T ρ : List ℤ) → le_z (pos 2) d ≡ true → all_below d T ≡ true → NoneBelow ρ → (q : ℕ) × (floor_div (value_at T ρ) d ≡ pos q) × (q ≤ total ρ)
new-bound (negsuc d) T ρ e a h = absurd (false≢true e)
new-bound (pos zero) T ρ e a h = absurd (false≢true e)
new-bound (pos (suc d)) T ρ e a h =
    let b = dot-bound d T (ρ ++ pos 1 ∷ []) a (above-one ρ h) in
    let S = total ρ in
    let one : d * total (ρ ++ pos 1 ∷ []) ≡ d * (S + 1) = ap (λ n. d * n) (total-one ρ) in
    let less : b.0 < (S + 1) * suc d = omega (arith, b.2, one, mul-suc (S + 1) d, mul_comm (S + 1) d) in
    let q : b.0 / suc d < S + 1 = (div-lt_iff_lt-mul {k = suc d} {x = b.0} {y = S + 1} (omega arith)).1 less in
    (b.0 / suc d, ap (λ v. floor_div v (pos (suc d))) b.1, omega (arith, q))

-- ---- the start of a walk

total-zeros : (n : ℕ) → total (replicate n (pos 0)) ≡ 0
total-zeros zero = refl
total-zeros (suc n) = omega (arith, total-zeros n)

above-zeros : (n : ℕ) → NoneBelow (replicate n (pos 0))
above-zeros zero = refl
above-zeros (suc n) = above-zeros n

point-small : (x : ℤ) → (le_z (pos 0) x && le_z x (pos 1000000)) ≡ true → nat_abs x ≤ 1000000
point-small (pos n) e = leb-true n 1000000 (and_parts (le_z (pos 0) (pos n)) (leb n 1000000) e).1
point-small (negsuc n) e = absurd (false≢true e)

spread-total : (point : List ℤ) (m : ℕ) → is_point point ≡ true → total (point ++ replicate m (pos 0)) ≤ 1000000 * length point
spread-total [] m e = omega (arith, total-zeros m)
spread-total (x ∷ xs) m e =
    let t = and_parts (le_z (pos 0) x && le_z x (pos 1000000)) (is_point xs) e in
    omega (arith, point-small x t.0, spread-total xs m t.1)

pub spread-above : (point : List ℤ) (m : ℕ) → is_point point ≡ true → NoneBelow (point ++ replicate m (pos 0))
spread-above [] m e = above-zeros m
spread-above (x ∷ xs) m e =
    let t = and_parts (le_z (pos 0) x && le_z x (pos 1000000)) (is_point xs) e in
    above-more x (xs ++ replicate m (pos 0)) (and_parts (le_z (pos 0) x) (le_z x (pos 1000000)) t.0).0 (spread-above xs m t.1)

pub spread-small : (point : List ℤ) → is_point point ≡ true → length point ≤ 4 → total (spread point) ≤ 4000000
spread-small point e h = omega (arith, spread-total point (9 - length point) e)

-- ---- one new parameter more

doubled : (m : ℕ) → 4000000 * 2 ^ suc m ≡ 4000000 * 2 ^ m + 4000000 * 2 ^ m
doubled m = omega (arith, two-pow-succ m)

pub gained : (made : ℕ) (d : ℤ) (T ρ : List ℤ) → proper made d T ≡ true → NoneBelow ρ → total ρ ≤ 4000000 * 2 ^ made → NoneBelow (gaining made d T ρ) × (total (gaining made d T ρ) ≤ 4000000 * 2 ^ suc made)
gained made d T ρ e h s =
    let t = and_parts (ltb made 5) (le_z (pos 2) d && all_below d T) e in
    let u = and_parts (le_z (pos 2) d) (all_below d T) t.1 in
    let b = new-bound d T ρ u.0 u.1 h in
    subst (λ q. NoneBelow (set ρ (4 + made) q) × (total (set ρ (4 + made) q) ≤ 4000000 * 2 ^ suc made)) (sym b.1)
    (set-above ρ (4 + made) b.0 h, set-total ρ (4 + made) b.0 (4000000 * 2 ^ suc made) (omega (arith, b.2, s, doubled made)))

pub few_made : (made : ℕ) (d : ℤ) (T : List ℤ) → proper made d T ≡ true → made + 1 ≤ 5
few_made made d T e = let five = ltb-true made 5 (and_parts (ltb made 5) (le_z (pos 2) d && all_below d T) e).0 in omega (arith, five)

-- with at most five of them every number is at most 2^27
powers : (m : ℕ) → m ≤ 5 → 4000000 * 2 ^ m ≤ 2 ^ 27
powers zero h = omega arith
powers (suc zero) h = omega arith
powers (suc (suc zero)) h = omega arith
powers (suc (suc (suc zero))) h = omega arith
powers (suc (suc (suc (suc zero)))) h = omega arith
powers (suc (suc (suc (suc (suc zero))))) h = omega arith
powers (suc (suc (suc (suc (suc (suc m)))))) h = absurd (let no : ⊥ = omega arith in no)

pub setting-within : (made : ℕ) (ρ : List ℤ) → made ≤ 5 → total ρ ≤ 4000000 * 2 ^ made → AllWithin (2 ^ 27) ρ
setting-within made ρ h s = each_within ρ (2 ^ 27) (omega (arith, s, powers made h))
