-- When the rows of a nest hold: the unknowns are within the bounds, and the conditions are met by the counters.
use Rattle.std.proofs.Common.{◌≡◌, ℕ, zero, suc, ◌+◌, ◌-◌, ◌<◌, List, [], ◌∷◌, ◌++◌, map, length, get_or, take, drop, set, ℤ, pos, negsuc, ◌+ℤ◌, ◌-ℤ◌, ◌*ℤ◌, neg_ℤ, ◌≤ℤ◌, sym, refl, ap, ◌∙◌, subst, ap₂, arith}
use borrow.Author.Differences.{ints}
use Rattle.std.proofs.lemmas.List.{drop_at, get_or-map, length-drop, take_at}
use Rattle.base.specs.Forms.{dot, value_at}
use Rattle.source.specs.Systems.{AllHold, Holds}
use Rattle.algebra.specs.Lists.{products, scaled}
use Rattle.base.specs.Numbers.{zeros}
use Rattle.algebra.proofs.Dots.{dot-comm, dot-negs, dot-plus, dot-zeros, length-scaled, length-zeros, scaled-dot, set-dot}
use Rattle.base.proofs.Zeros.{at-zeros}
use Rattle.algebra.proofs.Ring.{◌⊕◌, ◌⊖◌, ◌⊗◌, num, ring}
use Rattle.algebra.proofs.Systems.{row-parts}
use Rattle.nest.specs.Loops.{AllLong}
use Rattle.nest.specs.Tables.{cell_rows, in_unknowns, loop_rows, with_bounds}
use Rattle.nest.proofs.Rows.{first-row, front_length, length-loop_rows, length-with_bounds, unit-length}
use Rattle.nest_laws.specs.Postings.{AllMet, UpToBounds}
use Rattle.nest_laws.proofs.Pairs.{Pairs, pairs-dot, pairs-to, pairs-turn}

-- ---- rows that hold, by their places
pub hold_at : (rows : List (List ℤ)) (v : List ℕ) (i : ℕ) → AllHold rows v → i < length rows → Holds (get_or rows i []) v
hold_at [] v i a h = absurd (let no : ⊥ = omega arith in no)
hold_at (row ∷ rows) v zero a h = a.0
hold_at (row ∷ rows) v (suc i) a h = hold_at rows v i a.1 (omega arith)

pub hold-from : (rows : List (List ℤ)) (v : List ℕ) → ((i : ℕ) → i < length rows → Holds (get_or rows i []) v) → AllHold rows v
hold-from [] v a = tt
hold-from (row ∷ rows) v a = (a 0 (omega arith), hold-from rows v (λ i h. a (suc i) (omega arith)))

pub hold-both : (xs ys : List (List ℤ)) (v : List ℕ) → AllHold xs v → AllHold ys v → AllHold (xs ++ ys) v
hold-both [] ys v a b = b
hold-both (x ∷ xs) ys v a b = (a.0, hold-both xs ys v a.1 b)

pub hold-parts : (xs ys : List (List ℤ)) (v : List ℕ) → AllHold (xs ++ ys) v → AllHold xs v × AllHold ys v
hold-parts [] ys v a = (tt, a)
hold-parts (x ∷ xs) ys v a = let r = hold-parts xs ys v a.1 in ((a.0, r.0), r.1)

-- ---- the rows of the loops
unit-value : (n i : ℕ) (x : List ℕ) → length x ≡ n → i < n → dot (set (zeros n) i (negsuc 0)) (map pos x) ≡ negsuc 0 *ℤ pos (get_or x i 0)
unit-value n i x e h =
    set-dot (zeros n) (map pos x) i (negsuc 0) (omega (arith, length-zeros n))
    ∙ rw (dot-comm (zeros n) (map pos x), dot-zeros n (map pos x), at-zeros n i, get_or-map pos x i 0 (pos 0) (omega (arith, e)))
    (ring 1 (λ a. (num (pos 0) ⊕ (num (negsuc 0) ⊖ num (pos 0)) ⊗ a, num (negsuc 0) ⊗ a)) refl (pos (get_or x i 0)))

loop-value : (n i : ℕ) (U : List ℤ) (x z : List ℕ) → length x ≡ n → i < n → dot (set (zeros n) i (negsuc 0) ++ U) (map pos (x ++ z) ++ pos 1 ∷ []) ≡ value_at U (map pos z) -ℤ pos (get_or x i 0)
loop-value n i U x z e h =
    let R = set (zeros n) i (negsuc 0) in
    row-parts (R ++ U) x z n e
    ∙ ap₂ (λ (a b : List ℤ). dot a (map pos x) +ℤ dot b (map pos z ++ pos 1 ∷ [])) (take_at R U n (unit-length n i)) (drop_at R U n (unit-length n i))
    ∙ ap (λ v. v +ℤ value_at U (map pos z)) (unit-value n i x e h)
    ∙ ring 2 (λ a v. (num (negsuc 0) ⊗ a ⊕ v, v ⊖ a)) refl (pos (get_or x i 0)) (value_at U (map pos z))

upto_from : (Us : List (List ℤ)) (z x : List ℕ) → length x ≡ length Us → ((i : ℕ) → i < length Us → pos (get_or x i 0) ≤ℤ value_at (get_or Us i []) (map pos z)) → UpToBounds Us z x
upto_from [] z x e a = tt
upto_from (U ∷ Us) z [] e a = absurd (let no : ⊥ = omega arith in no)
upto_from (U ∷ Us) z (x ∷ xs) e a = (a 0 (omega arith), upto_from Us z xs (omega arith) (λ i h. a (suc i) (omega arith)))

upto-at : (Us : List (List ℤ)) (z x : List ℕ) (i : ℕ) → UpToBounds Us z x → i < length Us → pos (get_or x i 0) ≤ℤ value_at (get_or Us i []) (map pos z)
upto-at [] z x i u h = absurd (let no : ⊥ = omega arith in no)
upto-at (U ∷ Us) z [] i u h = absurd u
upto-at (U ∷ Us) z (x ∷ xs) zero u h = u.0
upto-at (U ∷ Us) z (x ∷ xs) (suc i) u h = upto-at Us z xs i u.1 (omega arith)

above : (x V : ℤ) → x ≤ℤ V → pos 0 ≤ℤ (V -ℤ x)
above x V h = omega (arith, ints)

below : (x V : ℤ) → pos 0 ≤ℤ (V -ℤ x) → x ≤ℤ V
below x V h = omega (arith, ints)

pub loops-hold : (n : ℕ) (Us : List (List ℤ)) (z x : List ℕ) → length Us ≡ n → length x ≡ n → UpToBounds Us z x → AllHold (loop_rows n 0 Us) (x ++ z)
loops-hold n Us z x e f u =
    hold-from (loop_rows n 0 Us) (x ++ z) (λ i h.
    let l : i < length Us = omega (arith, h, length-loop_rows n 0 Us) in
    let v = ap (λ (row : List ℤ). dot row (map pos (x ++ z) ++ pos 1 ∷ [])) (first-row n i Us l) ∙ loop-value n i (get_or Us i []) x z f (omega (arith, l, e)) in
    subst (λ d. pos 0 ≤ℤ d) (sym v) (above (pos (get_or x i 0)) (value_at (get_or Us i []) (map pos z)) (upto-at Us z x i u l)))

pub loops-within : (n : ℕ) (Us : List (List ℤ)) (z x : List ℕ) → length Us ≡ n → length x ≡ n → AllHold (loop_rows n 0 Us) (x ++ z) → UpToBounds Us z x
loops-within n Us z x e f a =
    upto_from Us z x (f ∙ sym e) (λ i l.
    let v = ap (λ (row : List ℤ). dot row (map pos (x ++ z) ++ pos 1 ∷ [])) (first-row n i Us l) ∙ loop-value n i (get_or Us i []) x z f (omega (arith, l, e)) in
    below (pos (get_or x i 0)) (value_at (get_or Us i []) (map pos z)) (subst (λ d. pos 0 ≤ℤ d) v (hold_at (loop_rows n 0 Us) (x ++ z) i a (omega (arith, l, length-loop_rows n 0 Us)))))

-- ---- the rows of the conditions
bounds-dot : (cs : List ℤ) (Us : List (List ℤ)) (over y : List ℤ) → AllLong (length over) Us → dot (with_bounds cs Us over) y ≡ dot over y +ℤ dot cs (products Us y)
bounds-dot [] Us over y a = ring 1 (λ o. (o, o ⊕ num (pos 0))) refl (dot over y)
bounds-dot (c ∷ cs) [] over y a = ring 1 (λ o. (o, o ⊕ num (pos 0))) refl (dot over y)
bounds-dot (c ∷ cs) (U ∷ Us) over y a =
    let less : AllLong (length over) Us = λ k l. a (suc k) (omega arith) in
    dot-plus (scaled c U) (with_bounds cs Us over) y (length-scaled c U ∙ a 0 (omega arith) ∙ sym (length-with_bounds cs Us over less))
    ∙ rw (scaled-dot c U y, bounds-dot cs Us over y less)
    (ring 4 (λ c u o d. (c ⊗ u ⊕ (o ⊕ d), o ⊕ (c ⊗ u ⊕ d))) refl c (dot U y) (dot over y) (dot cs (products Us y)))

put : (D O E F : ℤ) → neg_ℤ D +ℤ E ≡ F → neg_ℤ D +ℤ (O +ℤ E) ≡ F +ℤ O
put D O E F h = omega (arith, ints)

-- a condition in the unknowns has the value of the condition at the counters
cell-value : (n w : ℕ) (B : List (List ℤ)) (cell : List ℤ) (z x c : List ℕ) → length cell ≡ n + w → AllLong w B → length B ≡ n → Pairs B z x c → dot (in_unknowns n B cell) (map pos (x ++ z) ++ pos 1 ∷ []) ≡ dot cell (map pos (c ++ z) ++ pos 1 ∷ [])
cell-value n w B cell z x c e a b p =
    let y = map pos z ++ pos 1 ∷ [] in
    let F = map neg_ℤ (take n cell) in
    let G = with_bounds cell B (drop n cell) in
    let lF = front_length n cell (omega (arith, e)) in
    let left : length cell - n ≡ w = omega (arith, e) in
    let lx : length x ≡ n = (pairs-to B z x c p).0 ∙ b in
    let lc : length c ≡ n = (pairs-to B z c x (pairs-turn B z x c p)).0 ∙ b in
    let q = subst (λ m. neg_ℤ (dot (take m cell) (map pos x)) +ℤ dot cell (products B y) ≡ dot (take m cell) (map pos c)) b (pairs-dot B z x c cell p) in
    row-parts (F ++ G) x z n lx
    ∙ ap₂ (λ (s t : List ℤ). dot s (map pos x) +ℤ dot t y) (take_at F G n lF) (drop_at F G n lF)
    ∙ ap₂ (λ (s t : ℤ). s +ℤ t) (dot-negs (take n cell) (map pos x)) (bounds-dot cell B (drop n cell) y (λ k l. a k l ∙ sym (length-drop n cell ∙ left)))
    ∙ put (dot (take n cell) (map pos x)) (dot (drop n cell) y) (dot cell (products B y)) (dot (take n cell) (map pos c)) q
    ∙ sym (row-parts cell c z n lc)

none : (v : ℤ) → pos 0 ≤ℤ v → pos 0 ≤ℤ neg_ℤ v → v ≡ pos 0
none v h k = omega (arith, ints)

pub cells-met : (n w : ℕ) (B Cs : List (List ℤ)) (z x c : List ℕ) → AllLong (n + w) Cs → AllLong w B → length B ≡ n → Pairs B z x c → AllHold (cell_rows n B Cs) (x ++ z) → AllMet Cs (c ++ z)
cells-met n w B [] z x c a l b p h = tt
cells-met n w B (C ∷ Cs) z x c a l b p h =
    let y = map pos (x ++ z) ++ pos 1 ∷ [] in
    let v = none (dot (in_unknowns n B C) y) h.0 (subst (λ d. pos 0 ≤ℤ d) (dot-negs (in_unknowns n B C) y) h.1.0) in
    (sym (cell-value n w B C z x c (a 0 (omega arith)) l b p) ∙ v, cells-met n w B Cs z x c (λ k m. a (suc k) (omega arith)) l b p h.1.1)

zero-both : (v : ℤ) → v ≡ pos 0 → (pos 0 ≤ℤ v) × (pos 0 ≤ℤ neg_ℤ v)
zero-both v h = (omega (arith, ints), omega (arith, ints))

pub cells-hold : (n w : ℕ) (B Cs : List (List ℤ)) (z x c : List ℕ) → AllLong (n + w) Cs → AllLong w B → length B ≡ n → Pairs B z x c → AllMet Cs (c ++ z) → AllHold (cell_rows n B Cs) (x ++ z)
cells-hold n w B [] z x c a l b p h = tt
cells-hold n w B (C ∷ Cs) z x c a l b p h =
    let y = map pos (x ++ z) ++ pos 1 ∷ [] in
    let v = zero-both (dot (in_unknowns n B C) y) (cell-value n w B C z x c (a 0 (omega arith)) l b p ∙ h.0) in
    (v.0, (subst (λ d. pos 0 ≤ℤ d) (sym (dot-negs (in_unknowns n B C) y)) v.1, cells-hold n w B Cs z x c (λ k m. a (suc k) (omega arith)) l b p h.1))
