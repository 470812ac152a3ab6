-- Rows of one length and of small numbers, and that a nest keeps its limits.
use Rattle.std.proofs.Common.{◌≡◌, ℕ, zero, suc, ◌+◌, ◌<◌, ◌≤◌, Bool, true, false, cond, ◌&&◌, eqb, ltb, List, [], ◌∷◌, ◌++◌, map, length, get_or, take, set, replicate, ℤ, pos, nat_abs, is_ok, Some, None, Ok, Err, Option, refl, ap, ◌∙◌, arith}
use Rattle.std.proofs.lemmas.List.{get_or-replicate, length_push, length-replicate, length-set, map-set, take-replicate}
use Rattle.std.proofs.lemmas.Bool.{and_from, and_parts, cond-true, eq-eqb, eqb-true, le-leb, leb-true, lt-ltb, ltb-true}
use Rattle.base.specs.declared.refusal.Refusal.TheVariants.{RowShape}
use Rattle.base.specs.Numbers.{AllWithin, zeros}
use Rattle.source.specs.Systems.{System, entry}
use Rattle.source.specs.Enters.{confine_answer, confined, enter_answer, entered, with_context_row}
use Rattle.source.specs.Limits.{first_outside, in_limits, numbers_answer, refused_at, row_answer}
use Rattle.source.specs.RowSources.{bare}
use Rattle.source.proofs.Joins.{enter-joined}
use Rattle.source.proofs.Numbers.{none-outside}
use Rattle.base.proofs.Zeros.{at-zeros}
use Rattle.nest.specs.Limits.{all_small, is_small}
use Rattle.nest.specs.Loops.{AllLong, AllSmall, Loops, Shaped, loops_from}
use Rattle.nest.specs.Acts.{nest_of, plain}
use Rattle.nest.specs.declared.nest.Nest.{Nest}

-- ---- one row more, and a row in the place of another
pub long-push : (w : ℕ) (rows : List (List ℤ)) (row : List ℤ) → AllLong w rows → length row ≡ w → AllLong w (rows ++ row ∷ [])
long-push w [] row a e zero h = e
long-push w [] row a e (suc i) h = absurd (let no : ⊥ = omega arith in no)
long-push w (r ∷ rows) row a e zero h = a 0 (omega arith)
long-push w (r ∷ rows) row a e (suc i) h = long-push w rows row (λ k l. a (suc k) (omega arith)) e i (omega arith)

pub small-push : (m : ℕ) (rows : List (List ℤ)) (row : List ℤ) → AllSmall m rows → AllWithin m row → AllSmall m (rows ++ row ∷ [])
small-push m [] row a s zero j = s j
small-push m [] row a s (suc i) j = omega arith
small-push m (r ∷ rows) row a s zero j = a 0 j
small-push m (r ∷ rows) row a s (suc i) j = small-push m rows row (λ k l. a (suc k) l) s i j

pub long-set : (w : ℕ) (rows : List (List ℤ)) (k : ℕ) (row : List ℤ) → AllLong w rows → length row ≡ w → AllLong w (set rows k row)
long-set w [] k row a e i h = a i h
long-set w (r ∷ rows) zero row a e zero h = e
long-set w (r ∷ rows) zero row a e (suc i) h = a (suc i) (omega arith)
long-set w (r ∷ rows) (suc k) row a e zero h = a 0 (omega arith)
long-set w (r ∷ rows) (suc k) row a e (suc i) h = long-set w rows k row (λ k l. a (suc k) (omega arith)) e i (omega arith)

pub small-set : (m : ℕ) (rows : List (List ℤ)) (k : ℕ) (row : List ℤ) → AllSmall m rows → AllWithin m row → AllSmall m (set rows k row)
small-set m [] k row a s i j = a i j
small-set m (r ∷ rows) zero row a s zero j = s j
small-set m (r ∷ rows) zero row a s (suc i) j = a (suc i) j
small-set m (r ∷ rows) (suc k) row a s zero j = a 0 j
small-set m (r ∷ rows) (suc k) row a s (suc i) j = small-set m rows k row (λ k l. a (suc k) l) s i j

-- ---- numbers in limits
pub all-within : (xs : List ℤ) → all_small xs ≡ true → AllWithin 300 xs
all-within [] e k = omega arith
all-within (x ∷ xs) e k = go (is_small x) refl (all_small xs) refl e (all-within xs) k
  where
    go : (b : Bool) → is_small x ≡ b → (t : Bool) → all_small xs ≡ t → (b && t) ≡ true → (all_small xs ≡ true → AllWithin 300 xs) → AllWithin 300 (x ∷ xs)
    go true u true v e rest zero = leb-true (nat_abs x) 300 u
    go true u true v e rest (suc k) = rest v k
    go true u false v e rest k = let no : ◌≡◌ {A = ℕ} 0 1 = cc in absurd (let z : ⊥ = omega arith in z)
    go false u t v e rest k = let no : ◌≡◌ {A = ℕ} 0 1 = cc in absurd (let z : ⊥ = omega arith in z)

pub none-large : (j : ℕ) (xs : List ℤ) → AllWithin 1000000 xs → first_outside j xs ≡ None
none-large j [] a = refl
none-large j (x ∷ xs) a =
    let t : in_limits x ≡ true = le-leb (nat_abs x) 1000000 (a 0) in
    simp t (none-large (j + 1) xs (λ k. a (suc k)))

-- ---- every nest keeps the limits
counted : {A B : Type 0} (f : A → B) (m : ℕ) (xs : List A) → length (map f (take m xs)) ≤ m
counted f zero xs = omega arith
counted f (suc m) [] = omega arith
counted f (suc m) (x ∷ xs) = let h = counted f m xs in omega (arith, h)

pub shaped_of : (s : Nest) → Shaped (nest_of s)
shaped_of s =
    let few = counted (take {A = ℤ} s.kept.context.width) s.kept.context.count s.kept.context.numbers in
    record {
      some_loop = s.kept.some_unknown;
      few_loops = s.kept.unknowns_fit;
      few_parameters = s.kept.parameters_fit;
      each_bounded = s.each_bounded;
      bounds_long = s.bounds_long;
      bounds_small = s.bounds_small;
      few_cells = s.few_cells;
      cells_long = s.cells_long;
      cells_small = s.cells_small;
      few_context = omega (arith, few, s.kept.context.fit);
      context_long = s.context_long;
      context_small = s.context_small;
    }

-- what a nest's ghost fields ask
abbrev pub Parts : Loops → Type 0
Parts L =
    record {
      each_bounded : length L.bounds ≡ L.n;
      bounds_long : AllLong (L.p + 1) L.bounds;
      bounds_small : AllSmall 300 L.bounds;
      few_cells : length L.cells ≤ 3;
      cells_long : AllLong (L.n + L.p + 1) L.cells;
      cells_small : AllSmall 300 L.cells;
      context_long : AllLong (L.p + 1) L.context;
      context_small : AllSmall 1000000 L.context;
    }

pub parts : (L : Loops) → Shaped L → Parts L
parts L h =
    record {
      each_bounded = h.each_bounded;
      bounds_long = h.bounds_long;
      bounds_small = h.bounds_small;
      few_cells = h.few_cells;
      cells_long = h.cells_long;
      cells_small = h.cells_small;
      context_long = h.context_long;
      context_small = h.context_small;
    }

-- ---- at the start
map-replicate : {A B : Type 0} (f : A → B) (n : ℕ) (a : A) → map f (replicate n a) ≡ replicate n (f a)
map-replicate f zero a = refl
map-replicate f (suc n) a = ap (λ t. f a ∷ t) (map-replicate f n a)

pub fresh : (n p : ℕ) → n ≤ 6 → p ≤ 4 → loops_from (bare n p) (replicate 6 (replicate 5 (pos 0))) ≡ plain n p
fresh n p h k =
    let e : map (take (p + 1)) (take n (replicate 6 (replicate 5 (pos 0)))) ≡ replicate n (zeros (p + 1)) =
    ap (map (take (p + 1))) (take-replicate n 6 (replicate 5 (pos 0)) h)
    ∙ map-replicate (take (p + 1)) n (replicate 5 (pos 0))
    ∙ ap (replicate n) (take-replicate (p + 1) 5 (pos 0) (omega arith)) in
    ap (λ (bs : List (List ℤ)). record { n = n; p = p; bounds = bs; cells = []; context = [] }) e

rows-zero : (n w i j : ℕ) → entry (replicate n (zeros w)) i j ≡ pos 0
rows-zero zero w i j = refl
rows-zero (suc n) w zero j = at-zeros w j
rows-zero (suc n) w (suc i) j = rows-zero n w i j

rows_long : (n w i : ℕ) → i < n → length (get_or (replicate n (zeros w)) i []) ≡ w
rows_long n w i h = ap length (get_or-replicate n i (zeros w) [] h) ∙ length-replicate w (pos 0)

pub shaped-plain : (n p : ℕ) → 1 ≤ n → n ≤ 6 → p ≤ 4 → Shaped (plain n p)
shaped-plain n p g h k =
    record {
      some_loop = g;
      few_loops = h;
      few_parameters = k;
      each_bounded = length-replicate n (zeros (p + 1));
      bounds_long = λ i l. rows_long n (p + 1) i (omega (arith, length-replicate n (zeros (p + 1)), l));
      bounds_small = λ i j. let e = ap nat_abs (rows-zero n (p + 1) i j) in omega (arith, e);
      few_cells = omega arith;
      cells_long = λ i l. absurd (let no : ⊥ = omega arith in no);
      cells_small = λ i j. omega arith;
      few_context = omega arith;
      context_long = λ i l. absurd (let no : ⊥ = omega arith in no);
      context_small = λ i j. omega arith;
    }

-- ---- a bound
take-set-in : {A : Type 0} (n : ℕ) (xs : List A) (i : ℕ) (a : A) → take n (set xs i a) ≡ set (take n xs) i a
take-set-in zero xs i a = refl
take-set-in (suc n) [] i a = refl
take-set-in (suc n) (x ∷ xs) zero a = refl
take-set-in (suc n) (x ∷ xs) (suc i) a = ap (λ t. x ∷ t) (take-set-in n xs i a)

pub bounds-set : (w n : ℕ) (bounds : List (List ℤ)) (i : ℕ) (row numbers : List ℤ) → take w row ≡ numbers → map (take w) (take n (set bounds i row)) ≡ set (map (take w) (take n bounds)) i numbers
bounds-set w n bounds i row numbers e =
    ap (map (take w)) (take-set-in n bounds i row)
    ∙ map-set (take w) (take n bounds) i row
    ∙ ap (set (map (take w) (take n bounds)) i) e

abbrev pub with_bound : Loops → ℕ → List ℤ → Loops
with_bound L i numbers = record { n = L.n; p = L.p; bounds = set L.bounds i numbers; cells = L.cells; context = L.context }

pub shaped-bound : (L : Loops) (i : ℕ) (numbers : List ℤ) → length numbers ≡ L.p + 1 → AllWithin 300 numbers → Shaped L → Shaped (with_bound L i numbers)
shaped-bound L i numbers e s h =
    record {
      some_loop = h.some_loop;
      few_loops = h.few_loops;
      few_parameters = h.few_parameters;
      each_bounded = length-set L.bounds i numbers ∙ h.each_bounded;
      bounds_long = long-set (L.p + 1) L.bounds i numbers h.bounds_long e;
      bounds_small = small-set 300 L.bounds i numbers h.bounds_small s;
      few_cells = h.few_cells;
      cells_long = h.cells_long;
      cells_small = h.cells_small;
      few_context = h.few_context;
      context_long = h.context_long;
      context_small = h.context_small;
    }

-- ---- a condition more
abbrev pub plus_cell : Loops → List ℤ → Loops
plus_cell L numbers = record { n = L.n; p = L.p; bounds = L.bounds; cells = L.cells ++ numbers ∷ []; context = L.context }

-- ---- a context row more
pub row-taken : (w c m : ℕ) (row : List ℤ) → is_ok (row_answer w c m row) ≡ true → (length row ≡ w) × ((c < m) × AllWithin 1000000 row)
row-taken w c m row e = go (eqb (length row) w && ltb c m) refl e
  where
    in-limits : (o : Option ℕ) → first_outside 0 row ≡ o → is_ok (refused_at 0 o) ≡ true → AllWithin 1000000 row
    in-limits None u e = none-outside 0 row u
    in-limits (Some j) u e = let no : ◌≡◌ {A = ℕ} 0 1 = cc in absurd (let z : ⊥ = omega arith in z)

    go : (b : Bool) → (eqb (length row) w && ltb c m) ≡ b → is_ok (cond b (numbers_answer 0 row) (Err RowShape)) ≡ true → (length row ≡ w) × ((c < m) × AllWithin 1000000 row)
    go true u e =
        let t = and_parts (eqb (length row) w) (ltb c m) u in
        (eqb-true (length row) w t.0, (ltb-true c m t.1, in-limits (first_outside 0 row) refl e))
    go false u e = let no : ◌≡◌ {A = ℕ} 0 1 = cc in absurd (let z : ⊥ = omega arith in z)

shaped-context : (S : System) (bounds : List (List ℤ)) (row : List ℤ) → length row ≡ S.p + 1 → length S.context < 8 → AllWithin 1000000 row → Shaped (loops_from S bounds) → Shaped (loops_from (with_context_row S row) bounds)
shaped-context S bounds row e c s h =
    record {
      some_loop = h.some_loop;
      few_loops = h.few_loops;
      few_parameters = h.few_parameters;
      each_bounded = h.each_bounded;
      bounds_long = h.bounds_long;
      bounds_small = h.bounds_small;
      few_cells = h.few_cells;
      cells_long = h.cells_long;
      cells_small = h.cells_small;
      few_context = let l = length_push S.context row in omega (arith, l);
      context_long = long-push (S.p + 1) S.context row h.context_long e;
      context_small = small-push 1000000 S.context row h.context_small s;
    }

pub shaped-confined : (S : System) (bounds : List (List ℤ)) (row : List ℤ) → Shaped (loops_from S bounds) → Shaped (loops_from (confined S row) bounds)
shaped-confined S bounds row h = go (is_ok (confine_answer S row)) refl
  where
    go : (b : Bool) → is_ok (confine_answer S row) ≡ b → Shaped (loops_from (cond b (with_context_row S row) S) bounds)
    go true u = let t = row-taken (S.p + 1) (length S.context) 8 row u in shaped-context S bounds row t.0 t.1.0 t.1.1 h
    go false u = h

-- ---- a condition is taken by the row source
pub cell-entered : (S : System) (numbers : List ℤ) → length numbers ≡ S.n + S.p + 1 → length S.rows < 3 → AllWithin 300 numbers → enter_answer S numbers ≡ Ok tt
cell-entered S numbers e c s =
    let w = S.n + S.p + 1 in
    let m = length S.rows in
    cond-true (eqb (length numbers) w && ltb m 16) (numbers_answer 0 numbers) (Err RowShape) (and_from (eqb (length numbers) w) (ltb m 16) (eq-eqb (length numbers) w e) (lt-ltb m 16 (omega arith)))
    ∙ ap (refused_at 0) (none-large 0 numbers (λ k. let h = s k in omega (arith, h)))

pub cell-joined : (S S' : System) (bounds : List (List ℤ)) (numbers : List ℤ) → length numbers ≡ S.n + S.p + 1 → length S.rows < 3 → AllWithin 300 numbers → S' ≡ entered S numbers → loops_from S' bounds ≡ plus_cell (loops_from S bounds) numbers
cell-joined S S' bounds numbers e c s h = ap (λ (T : System). loops_from T bounds) (h ∙ enter-joined S numbers (cell-entered S numbers e c s))
