-- The numbers of a source as rows and forms, place by place and row by row.
use Rattle.std.proofs.Common.{◌≡◌, ℕ, zero, suc, ◌+◌, ◌-◌, ◌^◌, ◌<◌, ◌≤◌, List, [], ◌∷◌, ◌++◌, map, length, get_or, take, drop, set, ℤ, pos, Ok, Err, Result, sym, refl, ap, ap₂, ◌∙◌, arith}
use Rattle.std.proofs.lemmas.List.{at_drop_more, drop-replicate, length-take-le, map_more, map_push, set-append_right}
use Rattle.base.specs.declared.refusal.Refusal.{Refusal}
use Rattle.base.specs.Numbers.{AllWithin, at, zeros}
use Rattle.source.specs.Limits.{numbers_answer}
use Rattle.tableau.specs.declared.table.Row.{Row}
use Rattle.solver.specs.Solves.{fitted, form_of, numbers_fit}
use Rattle.base.specs.Refusals.{and_then}

-- ---- numbers written over the first of so many zeros
pub front-copied : (w n : ℕ) (xs copied : List ℤ) → copied ≡ take n xs → copied ++ drop n (zeros w) ≡ take n xs ++ zeros (w - n)
front-copied w n xs copied e = ap (λ ys. ys ++ drop n (zeros w)) e ∙ ap (λ ys. take n xs ++ ys) (drop-replicate n w (pos 0))

within-zeros : (w : ℕ) → AllWithin (2 ^ 30) (zeros w)
within-zeros zero k = omega arith
within-zeros (suc w) zero = omega arith
within-zeros (suc w) (suc k) = within-zeros w k

pub within-front : (w n : ℕ) (xs : List ℤ) → AllWithin 1000000 xs → AllWithin (2 ^ 30) (take n xs ++ zeros w)
within-front w zero xs small k = within-zeros w k
within-front w (suc n) [] small k = within-zeros w k
within-front w (suc n) (x ∷ xs) small zero = let h = small 0 in omega (arith, h)
within-front w (suc n) (x ∷ xs) small (suc k) = within-front w n xs (λ j. small (suc j)) k

last : (n : ℕ) (v : ℤ) → set (zeros (suc n)) n v ≡ zeros n ++ v ∷ []
last zero v = refl
last (suc n) v = ap (λ ys. pos 0 ∷ ys) (last n v)

-- then the constant
pub form-closed : (p : ℕ) (xs all : List ℤ) → p ≤ 4 → p < length xs → all ≡ take p xs ++ zeros (10 - p) → set all 9 (at xs p) ≡ form_of p xs
form-closed p xs all few h e =
    let a : 10 - p ≡ suc (9 - p) = omega arith in
    ap (λ ys. set ys 9 (at xs p)) (e ∙ ap (λ n. take p xs ++ zeros n) a)
    ∙ set-append_right (take p xs) (zeros (suc (9 - p))) p 9 (at xs p) (length-take-le p xs (omega arith)) (omega arith)
    ∙ ap (λ ys. take p xs ++ ys) (last (9 - p) (at xs p))

-- ---- checks one after the other
pub then_ok : {A : Type 0} (a : Result (Unit {0}) Refusal) (x y : A) → Ok y ≡ and_then a (Ok x) → (a ≡ Ok tt) × (y ≡ x)
then_ok (Ok _) x y e = (refl, grind arith)
then_ok (Err d) x y e = absurd (let no : ⊥ = grind arith in no)

pub then-err : {A : Type 0} (a : Result (Unit {0}) Refusal) (x : A) (d : Refusal) → Err d ≡ and_then a (Ok x) → a ≡ Err d
then-err (Ok _) x d e = absurd (let no : ⊥ = grind arith in no)
then-err (Err b) x d e = let q : b ≡ d = grind arith in ap Err q

-- ---- what is left of the rows answers for all of them
pub fit-more : (g : List ℤ → List ℤ) (k i : ℕ) (xs : List (List ℤ)) → i < length xs → numbers_answer k (g (get_or xs i [])) ≡ Ok tt → numbers_fit k (map g (drop i xs)) ≡ numbers_fit (k + 1) (map g (drop (i + 1) xs))
fit-more g k i xs h e = at_drop_more (λ ys. numbers_fit k (map g ys)) xs i [] h ∙ ap (λ a. and_then a (numbers_fit (k + 1) (map g (drop (i + 1) xs)))) e

-- ---- one row more
pub rows_more : (f : List ℤ → Row) (g : List ℤ → List ℤ) (xs : List (List ℤ)) (i : ℕ) (x : Row) → i < length xs → x ≡ f (g (get_or xs i [])) → map f (map g (take i xs)) ++ x ∷ [] ≡ map f (map g (take (i + 1) xs))
rows_more f g xs i x h e =
    ap (λ y. map f (map g (take i xs)) ++ y ∷ []) e ∙ sym (ap (map f) (map_more g xs i [] h) ∙ map_push f (map g (take i xs)) (g (get_or xs i [])))

-- ---- numbers asked for one by one
pub fitted-asked : (w : ℕ) (numbers row : List ℤ) → w ≤ length numbers → ((j : ℕ) → j < w → at numbers j ≡ at row j) → take w numbers ≡ fitted w row
fitted-asked zero numbers row h asked = refl
fitted-asked (suc w) [] row h asked = absurd (let no : ⊥ = omega arith in no)
fitted-asked (suc w) (y ∷ ys) [] h asked = ap₂ ◌∷◌ (asked 0 (omega arith)) (fitted-asked w ys [] (omega arith) (λ j l. asked (suc j) (omega arith)))
fitted-asked (suc w) (y ∷ ys) (x ∷ xs) h asked = ap₂ ◌∷◌ (asked 0 (omega arith)) (fitted-asked w ys xs (omega arith) (λ j l. asked (suc j) (omega arith)))
