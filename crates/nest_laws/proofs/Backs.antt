-- What back answers for a point of a nest's system.
use Rattle.std.proofs.Common.{◌≡◌, ℕ, suc, ◌-◌, true, cond, ◌&&◌, eqb, List, [], ◌∷◌, ◌++◌, map, length, replicate, ℤ, pos, negsuc, ◌≤ℤ◌, Ok, Err, Result, sym, refl, ap, ◌∙◌, subst, arith}
use borrow.Author.Differences.{ints}
use lib.Signed.{le_z}
use Rattle.std.proofs.lemmas.List.{length-map}
use Rattle.std.proofs.lemmas.Bool.{and_from, cond-true, eq-eqb, le-leb}
use Rattle.base.specs.declared.refusal.Refusal.{Refusal}
use Rattle.base.specs.declared.refusal.Refusal.TheVariants.{BeyondBound, PointLength, PointNumber}
use Rattle.base.specs.Forms.{value_at}
use Rattle.base.specs.Refusals.{and_then}
use Rattle.tree.specs.Finds.{is_point, point_answer, six_numbers}
use Rattle.nest.specs.Backs.{bounds_less, counters_of, reached, turned_back}
use Rattle.nest.specs.Loops.{Loops, Shaped}
use Rattle.nest_laws.specs.Laws.{Askable, BackPosts, LatestTurnedBack}
use Rattle.nest_laws.specs.Postings.{LatestAnswer, UpToBounds}
use Rattle.nest_laws.proofs.Latest.{corresponds, latest-posting, pairs_of}
use Rattle.nest_laws.proofs.Pairs.{pairs-within}

below : (x : ℕ) (U : ℤ) → pos x ≤ℤ U → le_z (pos x) U ≡ true
below x (pos m) h = le-leb x m (omega (arith, ints, h))
below x (negsuc m) h = absurd (let no : ⊥ = omega (arith, ints, h) in no)

asked : (z : List ℕ) → Askable z → is_point (map pos z) ≡ true
asked [] a = refl
asked (x ∷ z) a =
    and_from (le_z (pos 0) (pos x) && le_z (pos x) (pos 1000000)) (is_point (map pos z))
    (and_from (le_z (pos 0) (pos x)) (le_z (pos x) (pos 1000000)) (le-leb 0 x (omega arith)) (le-leb x 1000000 (a 0)))
    (asked z (λ k. a (suc k)))

-- what stands after the loops' numbers does not count
reach : (Us : List (List ℤ)) (z x : List ℕ) (rest : List ℤ) → UpToBounds Us z x → reached Us (map pos z) (map pos x ++ rest) ≡ true
reach [] z x rest u = refl
reach (U ∷ Us) z [] rest u = absurd u
reach (U ∷ Us) z (x ∷ xs) rest u =
    and_from (le_z (pos 0) (pos x) && le_z (pos x) (value_at U (map pos z))) (reached Us (map pos z) (map pos xs ++ rest))
    (and_from (le_z (pos 0) (pos x)) (le_z (pos x) (value_at U (map pos z))) (le-leb 0 x (omega arith)) (below x (value_at U (map pos z)) u.0))
    (reach Us z xs rest u.1)

front : (Us : List (List ℤ)) (ρ xs rest : List ℤ) → length xs ≡ length Us → bounds_less Us ρ (xs ++ rest) ≡ bounds_less Us ρ xs
front [] ρ xs rest e = refl
front (U ∷ Us) ρ [] rest e = absurd (let no : ⊥ = omega arith in no)
front (U ∷ Us) ρ (x ∷ xs) rest e = ap (λ (t : List ℤ). bounds_less (U ∷ []) ρ (x ∷ []) ++ t) (front Us ρ xs rest (omega arith))

pub back-posts : (L : Loops) → Shaped L → BackPosts L
back-posts L s z x e a p =
    let k = corresponds L z s in
    let c = (k.counters_of x p).0 in
    let f = (k.counters_of x p).1 in
    let rest = replicate (6 - length (map pos x)) (pos 0) in
    let t : point_answer L.p (map pos z) ≡ Ok tt =
    cond-true (eqb (length (map pos z)) L.p) (cond (is_point (map pos z)) (Ok tt) (Err PointNumber)) (Err PointLength) (eq-eqb (length (map pos z)) L.p (length-map z pos ∙ e))
    ∙ cond-true (is_point (map pos z)) (Ok tt) (Err PointNumber) (asked z a) in
    let r = reach L.bounds z x rest (pairs-within L.bounds z x c (pairs_of L z x c s f)) in
    let b : turned_back L (map pos z) (six_numbers (map pos x)) ≡ Ok (six_numbers (bounds_less L.bounds (map pos z) (six_numbers (map pos x)))) =
    ap (λ (o : Result (Unit {0}) Refusal). and_then o (counters_of L.bounds (map pos z) (six_numbers (map pos x)))) t ∙ cond-true (reached L.bounds (map pos z) (six_numbers (map pos x))) _ (Err BeyondBound) r in
    let l = front L.bounds (map pos z) (map pos x) rest (length-map x pos ∙ f.counted ∙ sym s.each_bounded) ∙ f.turned in
    (c, (f, (k.posts x c f p, b ∙ ap (λ (v : List ℤ). Ok (six_numbers v)) l)))

-- the values of a solved tree
pub latest-turned-back : (L : Loops) → Shaped L → LatestTurnedBack L
latest-turned-back L s fuel room t n e z m a values is =
    let k = corresponds L z s in
    let v = subst (LatestAnswer L z) is (latest-posting L s fuel room t n e z m) in
    let b = back-posts L s z v.unknowns m.counted a (k.solves v.unknowns v.counters v.stand v.latest.0) in
    (v, ap (λ (xs : List ℤ). turned_back L (map pos z) (six_numbers xs)) v.are ∙ b.1.1.1 ∙ ap (λ (d : List ℕ). Ok (six_numbers (map pos d))) (k.one_posting v.unknowns b.0 v.counters b.1.0 v.stand))
