-- The system of a nest is within the limits of a system.
use Rattle.std.proofs.Common.{◌≡◌, ℕ, zero, suc, ◌+◌, ◌≤◌, ◌&&◌, leb, List, [], ◌∷◌, ◌++◌, map, length, set, ℤ, negsuc, neg_ℤ, nat_abs, Ok, Err, refl, ap, ◌∙◌, arith}
use Rattle.std.proofs.lemmas.List.{length-append}
use Rattle.std.proofs.lemmas.Bool.{and_from, cond-true, le-leb}
use Rattle.base.specs.declared.refusal.Refusal.TheVariants.{Counts}
use Rattle.base.specs.Numbers.{AllWithin, at, zeros}
use Rattle.base.proofs.Products.{nat_abs-neg}
use Rattle.source.specs.Limits.{counts_answer, counts_fit, numbers_answer, refused_at}
use Rattle.algebra.proofs.Dots.{at-negs}
use Rattle.base.proofs.Zeros.{at-zeros}
use Rattle.base.proofs.Ranges.{within-append}
use Rattle.solver.specs.Solves.{fitted, numbers_fit, rows_of}
use Rattle.nest.specs.Loops.{AllLong, AllSmall, Loops, Shaped}
use Rattle.nest.specs.Tables.{cell_rows, in_unknowns, loop_rows, system_of}
use Rattle.nest.proofs.Rows.{length-cell_rows, length-loop_rows}
use Rattle.nest.proofs.Shapes.{none-large}
use Rattle.nest.proofs.Sizes.{row_small}
use Rattle.nest_laws.specs.Laws.{NestFits}

-- ---- small numbers
small-append : (m : ℕ) (xs ys : List (List ℤ)) → AllSmall m xs → AllSmall m ys → AllSmall m (xs ++ ys)
small-append m [] ys a b i j = b i j
small-append m (x ∷ xs) ys a b zero j = a 0 j
small-append m (x ∷ xs) ys a b (suc i) j = small-append m xs ys (λ k l. a (suc k) l) b i j

unit-within : (n k : ℕ) → AllWithin 1000000 (set (zeros n) k (negsuc 0))
unit-within zero k j = omega arith
unit-within (suc n) zero zero = omega arith
unit-within (suc n) zero (suc j) = let e = ap nat_abs (at-zeros n j) in omega (arith, e)
unit-within (suc n) (suc k) zero = omega arith
unit-within (suc n) (suc k) (suc j) = unit-within n k j

small-loops : (n k : ℕ) (Us : List (List ℤ)) → AllSmall 300 Us → AllSmall 1000000 (loop_rows n k Us)
small-loops n k [] a i j = omega arith
small-loops n k (U ∷ Us) a zero j =
    within-append 1000000 (set (zeros n) k (negsuc 0)) U (unit-within n k) (λ l. let h = a 0 l in omega (arith, h)) j
small-loops n k (U ∷ Us) a (suc i) j = small-loops n (suc k) Us (λ k l. a (suc k) l) i j

small-cells : (L : Loops) (Cs : List (List ℤ)) → Shaped L → AllLong (L.n + L.p + 1) Cs → AllSmall 300 Cs → AllSmall 1000000 (cell_rows L.n L.bounds Cs)
small-cells L [] s a b i j = omega arith
small-cells L (C ∷ Cs) s a b zero j = let h = row_small L C j s (a 0 (omega arith)) (b 0) in omega (arith, h)
small-cells L (C ∷ Cs) s a b (suc zero) j =
    let R = in_unknowns L.n L.bounds C in
    let h = row_small L C j s (a 0 (omega arith)) (b 0) in
    let e : nat_abs (at (map neg_ℤ R) j) ≡ nat_abs (at R j) = ap nat_abs (at-negs R j) ∙ nat_abs-neg (at R j) in
    omega (arith, h, e)
small-cells L (C ∷ Cs) s a b (suc (suc i)) j = small-cells L Cs s (λ k l. a (suc k) (omega arith)) (λ k l. b (suc k) l) i j

pub rows-small : (L : Loops) → Shaped L → AllSmall 1000000 (system_of L).rows
rows-small L s =
    small-append 1000000 (loop_rows L.n 0 L.bounds) (cell_rows L.n L.bounds L.cells)
    (small-loops L.n 0 L.bounds s.bounds_small) (small-cells L L.cells s s.cells_long s.cells_small)

-- ---- no row is refused
fitted-within : (m w : ℕ) (row : List ℤ) → AllWithin m row → AllWithin m (fitted w row)
fitted-within m zero row a k = omega arith
fitted-within m (suc w) [] a zero = omega arith
fitted-within m (suc w) [] a (suc k) = fitted-within m w [] (λ j. omega arith) k
fitted-within m (suc w) (x ∷ xs) a zero = a 0
fitted-within m (suc w) (x ∷ xs) a (suc k) = fitted-within m w xs (λ j. a (suc j)) k

none-refused : (i w : ℕ) (rows : List (List ℤ)) → AllSmall 1000000 rows → numbers_fit i (map (fitted w) rows) ≡ Ok tt
none-refused i w [] a = refl
none-refused i w (row ∷ rows) a =
    let e : numbers_answer i (fitted w row) ≡ Ok tt = ap (refused_at i) (none-large 0 (fitted w row) (fitted-within 1000000 w row (a 0))) in
    rw e (none-refused (i + 1) w rows (λ k l. a (suc k) l))

few-rows : (L : Loops) → Shaped L → length (system_of L).rows ≤ 12
few-rows L s =
    let a = length-append (loop_rows L.n 0 L.bounds) (cell_rows L.n L.bounds L.cells) in
    let l = length-loop_rows L.n 0 L.bounds in
    let m = length-cell_rows L.n L.bounds L.cells in
    omega (arith, a, l, m, s.each_bounded, s.few_loops, s.few_cells)

in-limits : (n p m k : ℕ) → 1 ≤ n → n ≤ 6 → p ≤ 4 → m ≤ 16 → k ≤ 8 → counts_answer n p m k ≡ Ok tt
in-limits n p m k a b c d e =
    let km = and_from (leb m 16) (leb k 8) (le-leb m 16 d) (le-leb k 8 e) in
    let kp = and_from (leb p 4) (leb m 16 && leb k 8) (le-leb p 4 c) km in
    let kn = and_from (leb n 6) (leb p 4 && (leb m 16 && leb k 8)) (le-leb n 6 b) kp in
    cond-true (counts_fit n p m k) (Ok tt) (Err Counts) (and_from (leb 1 n) (leb n 6 && (leb p 4 && (leb m 16 && leb k 8))) (le-leb 1 n a) kn)

pub nest-fits : (L : Loops) → Shaped L → NestFits L
nest-fits L s =
    let S = system_of L in
    let few = few-rows L s in
    let a : counts_answer L.n L.p (length S.rows) (length L.context) ≡ Ok tt =
    in-limits L.n L.p (length S.rows) (length L.context) s.some_loop s.few_loops s.few_parameters (omega (arith, few)) s.few_context in
    let b : numbers_fit 0 (rows_of S) ≡ Ok tt = none-refused 0 (L.n + L.p + 1) S.rows (rows-small L s) in
    let d : numbers_fit (length S.rows) (map (fitted (L.p + 1)) L.context) ≡ Ok tt = none-refused (length S.rows) (L.p + 1) L.context s.context_small in
    (few, rw (a, b, d) refl)
