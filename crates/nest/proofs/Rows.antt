-- The numbers of a nest's rows, place by place.
use Rattle.std.proofs.Common.{◌≡◌, ℕ, zero, suc, ◌+◌, ◌-◌, ◌*◌, ◌<◌, ◌≤◌, ◌≢◌, List, [], ◌∷◌, ◌++◌, map, length, get_or, take, drop, set, ℤ, pos, negsuc, ◌+ℤ◌, neg_ℤ, nat_abs, sym, refl, ap, ◌∙◌, arith}
use Rattle.std.proofs.lemmas.List.{get_or_append_left, get_or-append_right, get_or-drop, get_or_past, get_or-set_other, get_or-set_same, get_or-take, length-append, length-drop, length-map, length-set, length-take-le}
use Rattle.std.proofs.lemmas.Int.{ints}
use Rattle.base.proofs.Products.{add-within}
use Rattle.base.specs.Numbers.{at, zeros}
use Rattle.base.specs.Forms.{dot}
use Rattle.source.specs.Systems.{entry}
use Rattle.algebra.specs.Lists.{column, plus, scaled}
use Rattle.algebra.proofs.Dots.{at-negs, at_scaled, length-scaled, length-zeros}
use Rattle.base.proofs.Zeros.{at-zeros}
use Rattle.algebra.proofs.Ring.{◌⊕◌, ◌⊗◌, num, ring}
use Rattle.nest.specs.Loops.{AllLong, Loops, Shaped}
use Rattle.nest.specs.Tables.{cell_rows, in_unknowns, loop_rows, system_of, with_bounds}

-- ---- sums of lists
pub length-plus : (xs ys : List ℤ) → length xs ≡ length ys → length (plus xs ys) ≡ length ys
length-plus [] [] e = refl
length-plus [] (y ∷ ys) e = absurd (let no : ⊥ = omega arith in no)
length-plus (x ∷ xs) [] e = absurd (let no : ⊥ = omega arith in no)
length-plus (x ∷ xs) (y ∷ ys) e = ap suc (length-plus xs ys (omega arith))

pub at-plus : (xs ys : List ℤ) (k : ℕ) → length xs ≡ length ys → at (plus xs ys) k ≡ at xs k +ℤ at ys k
at-plus [] [] k e = refl
at-plus [] (y ∷ ys) k e = absurd (let no : ⊥ = omega arith in no)
at-plus (x ∷ xs) [] k e = absurd (let no : ⊥ = omega arith in no)
at-plus (x ∷ xs) (y ∷ ys) zero e = refl
at-plus (x ∷ xs) (y ∷ ys) (suc k) e = at-plus xs ys k (omega arith)

-- ---- the bounds put in
pub length-with_bounds : (cs : List ℤ) (Us : List (List ℤ)) (over : List ℤ) → AllLong (length over) Us → length (with_bounds cs Us over) ≡ length over
length-with_bounds [] Us over a = refl
length-with_bounds (c ∷ cs) [] over a = refl
length-with_bounds (c ∷ cs) (U ∷ Us) over a =
    let rest = length-with_bounds cs Us over (λ k l. a (suc k) (omega arith)) in
    length-plus (scaled c U) (with_bounds cs Us over) (length-scaled c U ∙ a 0 (omega arith) ∙ sym rest) ∙ rest

pub at-with_bounds : (cs : List ℤ) (Us : List (List ℤ)) (over : List ℤ) (k : ℕ) → AllLong (length over) Us → at (with_bounds cs Us over) k ≡ at over k +ℤ dot cs (column Us k)
at-with_bounds [] Us over k a = ring 1 (λ o. (o, o ⊕ num (pos 0))) refl (at over k)
at-with_bounds (c ∷ cs) [] over k a = ring 1 (λ o. (o, o ⊕ num (pos 0))) refl (at over k)
at-with_bounds (c ∷ cs) (U ∷ Us) over k a =
    let less : AllLong (length over) Us = λ k l. a (suc k) (omega arith) in
    at-plus (scaled c U) (with_bounds cs Us over) k (length-scaled c U ∙ a 0 (omega arith) ∙ sym (length-with_bounds cs Us over less))
    ∙ rw (at_scaled c U k, at-with_bounds cs Us over k less)
    (ring 4 (λ c u o d. (c ⊗ u ⊕ (o ⊕ d), o ⊕ (c ⊗ u ⊕ d))) refl c (at U k) (at over k) (dot cs (column Us k)))

-- ---- a condition in the unknowns
pub front_length : (n : ℕ) (C : List ℤ) → n ≤ length C → length (map neg_ℤ (take n C)) ≡ n
front_length n C h = length-map (take n C) neg_ℤ ∙ length-take-le n C h

pub unknown-at : (n : ℕ) (B : List (List ℤ)) (C : List ℤ) (j : ℕ) → n ≤ length C → j < n → at (in_unknowns n B C) j ≡ neg_ℤ (at C j)
unknown-at n B C j h l =
    get_or_append_left (map neg_ℤ (take n C)) (with_bounds C B (drop n C)) (pos 0) j (omega (arith, front_length n C h))
    ∙ at-negs (take n C) j
    ∙ ap neg_ℤ (get_or-take n C j (pos 0) l)

pub parameter-at : (n w : ℕ) (B : List (List ℤ)) (C : List ℤ) (j : ℕ) → length C ≡ n + w → AllLong w B → n ≤ j → at (in_unknowns n B C) j ≡ at C (n + (j - n)) +ℤ dot C (column B (j - n))
parameter-at n w B C j e a h =
    get_or-append_right (map neg_ℤ (take n C)) (with_bounds C B (drop n C)) n j (pos 0) (front_length n C (omega arith)) h
    ∙ at-with_bounds C B (drop n C) (j - n) (λ k l. a k l ∙ sym (length-drop n C ∙ left))
    ∙ ap (λ x. x +ℤ dot C (column B (j - n))) (get_or-drop n C (j - n) (pos 0))
  where
    left : length C - n ≡ w
    left = omega arith

pub length-in_unknowns : (n w : ℕ) (B : List (List ℤ)) (C : List ℤ) → length C ≡ n + w → AllLong w B → length (in_unknowns n B C) ≡ n + w
length-in_unknowns n w B C e a =
    length-append (map neg_ℤ (take n C)) (with_bounds C B (drop n C))
    ∙ rw (front_length n C (omega arith), length-with_bounds C B (drop n C) (λ k l. a k l ∙ sym (length-drop n C ∙ left)), length-drop n C, left) refl
  where
    left : length C - n ≡ w
    left = omega arith

-- ---- the rows of the loops
pub length-loop_rows : (n k : ℕ) (Us : List (List ℤ)) → length (loop_rows n k Us) ≡ length Us
length-loop_rows n k [] = refl
length-loop_rows n k (U ∷ Us) = ap suc (length-loop_rows n (suc k) Us)

pub loop-row : (n k i : ℕ) (Us : List (List ℤ)) → i < length Us → get_or (loop_rows n k Us) i [] ≡ set (zeros n) (k + i) (negsuc 0) ++ get_or Us i []
loop-row n k i [] h = absurd (let no : ⊥ = omega arith in no)
loop-row n k zero (U ∷ Us) h = let e : k ≡ k + 0 = omega arith in ap (λ (m : ℕ). set (zeros n) m (negsuc 0) ++ U) e
loop-row n k (suc i) (U ∷ Us) h =
    let e : suc k + i ≡ k + suc i = omega arith in
    loop-row n (suc k) i Us (omega arith) ∙ ap (λ (m : ℕ). set (zeros n) m (negsuc 0) ++ get_or Us i []) e

pub first-row : (n i : ℕ) (Us : List (List ℤ)) → i < length Us → get_or (loop_rows n 0 Us) i [] ≡ set (zeros n) i (negsuc 0) ++ get_or Us i []
first-row n i Us h = let e : 0 + i ≡ i = omega arith in loop-row n 0 i Us h ∙ ap (λ (m : ℕ). set (zeros n) m (negsuc 0) ++ get_or Us i []) e

pub unit-length : (n i : ℕ) → length (set (zeros n) i (negsuc 0)) ≡ n
unit-length n i = length-set (zeros n) i (negsuc 0) ∙ length-zeros n

pub loop-bound-at : (n i j : ℕ) (Us : List (List ℤ)) → i < length Us → n ≤ j → entry (loop_rows n 0 Us) i j ≡ entry Us i (j - n)
loop-bound-at n i j Us h l =
    ap (λ (row : List ℤ). at row j) (first-row n i Us h) ∙ get_or-append_right (set (zeros n) i (negsuc 0)) (get_or Us i []) n j (pos 0) (unit-length n i) l

loop-unit-at : (n i j : ℕ) (Us : List (List ℤ)) → i < length Us → j < n → entry (loop_rows n 0 Us) i j ≡ at (set (zeros n) i (negsuc 0)) j
loop-unit-at n i j Us h l =
    ap (λ (row : List ℤ). at row j) (first-row n i Us h) ∙ get_or_append_left (set (zeros n) i (negsuc 0)) (get_or Us i []) (pos 0) j (omega (arith, unit-length n i))

pub loop-own-at : (n i : ℕ) (Us : List (List ℤ)) → i < length Us → i < n → entry (loop_rows n 0 Us) i i ≡ negsuc 0
loop-own-at n i Us h l = loop-unit-at n i i Us h l ∙ get_or-set_same (zeros n) i (negsuc 0) (pos 0) (omega (arith, length-zeros n))

pub loop-other-at : (n i j : ℕ) (Us : List (List ℤ)) → i < length Us → j < n → j ≢ i → entry (loop_rows n 0 Us) i j ≡ pos 0
loop-other-at n i j Us h l ne = loop-unit-at n i j Us h l ∙ get_or-set_other (zeros n) i j (negsuc 0) (pos 0) ne ∙ at-zeros n j

-- ---- the rows of the conditions
pub length-cell_rows : (n : ℕ) (B Cs : List (List ℤ)) → length (cell_rows n B Cs) ≡ 2 * length Cs
length-cell_rows n B [] = refl
length-cell_rows n B (C ∷ Cs) = let h = length-cell_rows n B Cs in omega (arith, h)

pub cell_row : (n : ℕ) (B Cs : List (List ℤ)) (r q : ℕ) → r ≡ 2 * q → q < length Cs → get_or (cell_rows n B Cs) r [] ≡ in_unknowns n B (get_or Cs q [])
cell_row n B [] r q e h = absurd (let no : ⊥ = omega arith in no)
cell_row n B (C ∷ Cs) zero zero e h = refl
cell_row n B (C ∷ Cs) zero (suc q) e h = absurd (let no : ⊥ = omega arith in no)
cell_row n B (C ∷ Cs) (suc zero) q e h = absurd (let no : ⊥ = omega arith in no)
cell_row n B (C ∷ Cs) (suc (suc r)) zero e h = absurd (let no : ⊥ = omega arith in no)
cell_row n B (C ∷ Cs) (suc (suc r)) (suc q) e h = cell_row n B Cs r q (omega arith) (omega arith)

pub negative-row : (n : ℕ) (B Cs : List (List ℤ)) (r q : ℕ) → r ≡ 2 * q + 1 → q < length Cs → get_or (cell_rows n B Cs) r [] ≡ map neg_ℤ (in_unknowns n B (get_or Cs q []))
negative-row n B [] r q e h = absurd (let no : ⊥ = omega arith in no)
negative-row n B (C ∷ Cs) zero q e h = absurd (let no : ⊥ = omega arith in no)
negative-row n B (C ∷ Cs) (suc zero) zero e h = refl
negative-row n B (C ∷ Cs) (suc zero) (suc q) e h = absurd (let no : ⊥ = omega arith in no)
negative-row n B (C ∷ Cs) (suc (suc r)) zero e h = absurd (let no : ⊥ = omega arith in no)
negative-row n B (C ∷ Cs) (suc (suc r)) (suc q) e h = negative-row n B Cs r q (omega arith) (omega arith)

pub no_row : (rows : List (List ℤ)) (i j : ℕ) → length rows ≤ i → entry rows i j ≡ pos 0
no_row rows i j h = ap (λ (row : List ℤ). at row j) (get_or_past rows i [] h)

-- ---- every row of the system has n + p + 1 numbers
pub long-append : (w : ℕ) (xs ys : List (List ℤ)) → AllLong w xs → AllLong w ys → AllLong w (xs ++ ys)
long-append w [] ys a b i h = b i h
long-append w (x ∷ xs) ys a b zero h = a 0 (omega arith)
long-append w (x ∷ xs) ys a b (suc i) h = long-append w xs ys (λ k l. a (suc k) (omega arith)) b i (omega arith)

long-loops : (n w k : ℕ) (Us : List (List ℤ)) → AllLong w Us → AllLong (n + w) (loop_rows n k Us)
long-loops n w k [] a i h = absurd (let no : ⊥ = omega arith in no)
long-loops n w k (U ∷ Us) a zero h = length-append (set (zeros n) k (negsuc 0)) U ∙ rw (unit-length n k, a 0 (omega arith)) refl
long-loops n w k (U ∷ Us) a (suc i) h = long-loops n w (suc k) Us (λ k l. a (suc k) (omega arith)) i (omega arith)

long-cells : (n w : ℕ) (B Cs : List (List ℤ)) → AllLong w B → AllLong (n + w) Cs → AllLong (n + w) (cell_rows n B Cs)
long-cells n w B [] b a i h = absurd (let no : ⊥ = omega arith in no)
long-cells n w B (C ∷ Cs) b a zero h = length-in_unknowns n w B C (a 0 (omega arith)) b
long-cells n w B (C ∷ Cs) b a (suc zero) h = length-map (in_unknowns n B C) neg_ℤ ∙ length-in_unknowns n w B C (a 0 (omega arith)) b
long-cells n w B (C ∷ Cs) b a (suc (suc i)) h = long-cells n w B Cs b (λ k l. a (suc k) (omega arith)) i (omega arith)

pub rows_long : (L : Loops) → Shaped L → AllLong (L.n + (L.p + 1)) (system_of L).rows
rows_long L s =
    let w = L.p + 1 in
    let e : L.n + L.p + 1 ≡ L.n + w = omega arith in
    long-append (L.n + w) (loop_rows L.n 0 L.bounds) (cell_rows L.n L.bounds L.cells)
    (long-loops L.n w 0 L.bounds s.bounds_long)
    (long-cells L.n w L.bounds L.cells s.bounds_long (λ i h. s.cells_long i h ∙ e))

pub beside-row : (w : ℕ) (rows : List (List ℤ)) (i j : ℕ) → AllLong w rows → w ≤ j → entry rows i j ≡ pos 0
beside-row w [] i j a h = refl
beside-row w (row ∷ rows) zero j a h = get_or_past row j (pos 0) (omega (arith, a 0 (omega arith)))
beside-row w (row ∷ rows) (suc i) j a h = beside-row w rows i j (λ k l. a (suc k) (omega arith)) h

-- ---- a column of the bounds
pub at-column : (rows : List (List ℤ)) (k i : ℕ) → at (column rows k) i ≡ entry rows i k
at-column [] k i = refl
at-column (row ∷ rows) k zero = refl
at-column (row ∷ rows) k (suc i) = at-column rows k i

pub length-column : (rows : List (List ℤ)) (k : ℕ) → length (column rows k) ≡ length rows
length-column [] k = refl
length-column (row ∷ rows) k = ap suc (length-column rows k)

-- ---- a sum of products as it grows: t, with p more; D is what is still to come
pub sum_more : (t t' p D D' E : ℤ) → t' ≡ t +ℤ p → D ≡ p +ℤ D' → t +ℤ D ≡ E → t' +ℤ D' ≡ E
sum_more t t' p D D' E h k e = omega (arith, ints)

pub sum-small : (t t' p : ℤ) (i m n : ℕ) → t' ≡ t +ℤ p → nat_abs t ≤ m + i * n → nat_abs p ≤ n → nat_abs t' ≤ m + (i + 1) * n
sum-small t t' p i m n h a b = let q = add-within t p (m + i * n) n a b in rw h (omega (arith, q))

pub sum_done : (t D E : ℤ) → D ≡ pos 0 → t +ℤ D ≡ E → t ≡ E
sum_done t D E h e = omega (arith, ints)
