-- Unknowns and counters that add up to the bounds.
use Rattle.std.proofs.Common.{◌≡◌, ℕ, suc, ◌<◌, List, [], ◌∷◌, ◌++◌, map, length, take, drop, ℤ, pos, ◌+ℤ◌, ◌-ℤ◌, neg_ℤ, nat_abs, ◌≤ℤ◌, refl, ap, ap₂, inl, inr, arith}
use borrow.Author.Differences.{ints}
use Rattle.base.specs.Numbers.{at}
use Rattle.base.specs.Forms.{dot, value_at}
use Rattle.source.specs.Systems.{Precedes}
use Rattle.algebra.specs.Lists.{products}
use Rattle.algebra.proofs.Claims.{given, goal, ring-from}
use Rattle.algebra.proofs.Ring.{◌⊕◌, ◌⊗◌, num, ⊝◌}
use Rattle.nest.specs.Backs.{bounds_less}
use Rattle.nest_laws.specs.Postings.{Later, UpToBounds}

-- each unknown and its counter add up to the bound
abbrev pub Pairs : List (List ℤ) → List ℕ → List ℕ → List ℕ → Type 0
Pairs [] z [] [] = Unit {0}
Pairs [] z [] (c ∷ cs) = ⊥
Pairs [] z (x ∷ xs) cs = ⊥
Pairs (U ∷ Us) z [] cs = ⊥
Pairs (U ∷ Us) z (x ∷ xs) [] = ⊥
Pairs (U ∷ Us) z (x ∷ xs) (c ∷ cs) = (value_at U (map pos z) ≡ pos x +ℤ pos c) × Pairs Us z xs cs

pub pairs-from : (Us : List (List ℤ)) (z x c : List ℕ) → length x ≡ length Us → bounds_less Us (map pos z) (map pos x) ≡ map pos c → Pairs Us z x c
pairs-from [] z [] [] e h = tt
pairs-from [] z [] (c ∷ cs) e h = let l = ap length h in absurd (let no : ⊥ = omega (arith, l) in no)
pairs-from [] z (x ∷ xs) cs e h = absurd (let no : ⊥ = omega arith in no)
pairs-from (U ∷ Us) z [] cs e h = absurd (let no : ⊥ = omega arith in no)
pairs-from (U ∷ Us) z (x ∷ xs) [] e h = let l = ap length h in absurd (let no : ⊥ = omega (arith, l) in no)
pairs-from (U ∷ Us) z (x ∷ xs) (c ∷ cs) e h = (sum (value_at U (map pos z)) (pos x) (pos c) (ap (λ (t : List ℤ). at t 0) h), pairs-from Us z xs cs (omega arith) (ap (drop 1) h))
  where
    sum : (U x c : ℤ) → U -ℤ x ≡ c → U ≡ x +ℤ c
    sum U x c h = omega (arith, ints)

pub pairs-to : (Us : List (List ℤ)) (z x c : List ℕ) → Pairs Us z x c → (length x ≡ length Us) × (bounds_less Us (map pos z) (map pos x) ≡ map pos c)
pairs-to [] z [] [] p = (refl, refl)
pairs-to [] z [] (c ∷ cs) p = absurd p
pairs-to [] z (x ∷ xs) cs p = absurd p
pairs-to (U ∷ Us) z [] cs p = absurd p
pairs-to (U ∷ Us) z (x ∷ xs) [] p = absurd p
pairs-to (U ∷ Us) z (x ∷ xs) (c ∷ cs) p =
    let r = pairs-to Us z xs cs p.1 in
    (ap suc r.0, ap₂ (λ (a : ℤ) (t : List ℤ). a ∷ t) (less (value_at U (map pos z)) (pos x) (pos c) p.0) r.1)
  where
    less : (U x c : ℤ) → U ≡ x +ℤ c → U -ℤ x ≡ c
    less U x c h = omega (arith, ints)

pub pairs-turn : (Us : List (List ℤ)) (z x c : List ℕ) → Pairs Us z x c → Pairs Us z c x
pairs-turn [] z [] [] p = tt
pairs-turn [] z [] (c ∷ cs) p = absurd p
pairs-turn [] z (x ∷ xs) cs p = absurd p
pairs-turn (U ∷ Us) z [] cs p = absurd p
pairs-turn (U ∷ Us) z (x ∷ xs) [] p = absurd p
pairs-turn (U ∷ Us) z (x ∷ xs) (c ∷ cs) p = (swap (value_at U (map pos z)) (pos x) (pos c) p.0, pairs-turn Us z xs cs p.1)
  where
    swap : (U x c : ℤ) → U ≡ x +ℤ c → U ≡ c +ℤ x
    swap U x c h = omega (arith, ints)

pub pairs-within : (Us : List (List ℤ)) (z x c : List ℕ) → Pairs Us z x c → UpToBounds Us z x
pairs-within [] z x c p = tt
pairs-within (U ∷ Us) z [] cs p = absurd p
pairs-within (U ∷ Us) z (x ∷ xs) [] p = absurd p
pairs-within (U ∷ Us) z (x ∷ xs) (c ∷ cs) p = (below (value_at U (map pos z)) x c p.0, pairs-within Us z xs cs p.1)
  where
    below : (U : ℤ) (x c : ℕ) → U ≡ pos x +ℤ pos c → pos x ≤ℤ U
    below U x c h = omega (arith, ints)

-- numbers within the bounds have others that they add up with
pub pairs-there : (Us : List (List ℤ)) (z x : List ℕ) → length x ≡ length Us → UpToBounds Us z x → (c : List ℕ) × Pairs Us z x c
pairs-there [] z [] e w = ([], tt)
pairs-there [] z (x ∷ xs) e w = absurd (let no : ⊥ = omega arith in no)
pairs-there (U ∷ Us) z [] e w = absurd w
pairs-there (U ∷ Us) z (x ∷ xs) e w =
    let r = pairs-there Us z xs (omega arith) w.1 in
    (nat_abs (value_at U (map pos z) -ℤ pos x) ∷ r.0, (rest (value_at U (map pos z)) x w.0, r.1))
  where
    rest : (U : ℤ) (x : ℕ) → pos x ≤ℤ U → U ≡ pos x +ℤ pos (nat_abs (U -ℤ pos x))
    rest U x h = omega (arith, ints)

pub pairs-one : (Us : List (List ℤ)) (z x c d : List ℕ) → Pairs Us z x c → Pairs Us z x d → c ≡ d
pairs-one [] z [] [] [] p q = refl
pairs-one [] z [] [] (d ∷ ds) p q = absurd q
pairs-one [] z [] (c ∷ cs) ds p q = absurd p
pairs-one [] z (x ∷ xs) cs ds p q = absurd p
pairs-one (U ∷ Us) z [] cs ds p q = absurd p
pairs-one (U ∷ Us) z (x ∷ xs) [] ds p q = absurd p
pairs-one (U ∷ Us) z (x ∷ xs) (c ∷ cs) [] p q = absurd q
pairs-one (U ∷ Us) z (x ∷ xs) (c ∷ cs) (d ∷ ds) p q =
    ap₂ (λ (a : ℕ) (t : List ℕ). a ∷ t) (same (value_at U (map pos z)) x c d p.0 q.0) (pairs-one Us z xs cs ds p.1 q.1)
  where
    same : (U : ℤ) (x c d : ℕ) → U ≡ pos x +ℤ pos c → U ≡ pos x +ℤ pos d → c ≡ d
    same U x c d h k = omega (arith, ints)

-- the smaller unknowns have the larger counters
pub pairs-later : (Us : List (List ℤ)) (z x y c d : List ℕ) → Pairs Us z x c → Pairs Us z y d → Precedes x y → Later c d
pairs-later Us z [] y c d p q h = absurd h
pairs-later Us z (x ∷ xs) [] c d p q h = absurd h
pairs-later [] z (x ∷ xs) (y ∷ ys) c d p q h = absurd p
pairs-later (U ∷ Us) z (x ∷ xs) (y ∷ ys) [] d p q h = absurd p
pairs-later (U ∷ Us) z (x ∷ xs) (y ∷ ys) (c ∷ cs) [] p q h = absurd q
pairs-later (U ∷ Us) z (x ∷ xs) (y ∷ ys) (c ∷ cs) (d ∷ ds) p q (inl h) = inl (more (value_at U (map pos z)) x y c d p.0 q.0 h)
  where
    more : (U : ℤ) (x y c d : ℕ) → U ≡ pos x +ℤ pos c → U ≡ pos y +ℤ pos d → x < y → d < c
    more U x y c d h k l = omega (arith, ints)
pairs-later (U ∷ Us) z (x ∷ xs) (y ∷ ys) (c ∷ cs) (d ∷ ds) p q (inr h) =
    inr (same (value_at U (map pos z)) x y c d p.0 q.0 h.0, pairs-later Us z xs ys cs ds p.1 q.1 h.1)
  where
    same : (U : ℤ) (x y c d : ℕ) → U ≡ pos x +ℤ pos c → U ≡ pos y +ℤ pos d → x ≡ y → d ≡ c
    same U x y c d h k l = omega (arith, ints)

-- ---- a condition's coefficients over the counters, bound minus unknown put in
pub pairs-dot : (Us : List (List ℤ)) (z x c : List ℕ) (cell : List ℤ) → Pairs Us z x c →
    neg_ℤ (dot (take (length Us) cell) (map pos x)) +ℤ dot cell (products Us (map pos z ++ pos 1 ∷ [])) ≡ dot (take (length Us) cell) (map pos c)
pairs-dot [] z [] [] [] p = refl
pairs-dot [] z [] [] (a ∷ cell) p = refl
pairs-dot [] z [] (c ∷ cs) cell p = absurd p
pairs-dot [] z (x ∷ xs) cs cell p = absurd p
pairs-dot (U ∷ Us) z [] cs cell p = absurd p
pairs-dot (U ∷ Us) z (x ∷ xs) [] cell p = absurd p
pairs-dot (U ∷ Us) z (x ∷ xs) (c ∷ cs) [] p = refl
pairs-dot (U ∷ Us) z (x ∷ xs) (c ∷ cs) (a ∷ cell) p =
    ring-from 7 (λ a x c u D E F. given (num (pos 1)) (⊝ D ⊕ E) F (given a u (x ⊕ c) (goal (⊝ (a ⊗ x ⊕ D) ⊕ (a ⊗ u ⊕ E)) (a ⊗ c ⊕ F)))) refl
    a (pos x) (pos c) (value_at U (map pos z)) (dot (take (length Us) cell) (map pos xs)) (dot cell (products Us (map pos z ++ pos 1 ∷ []))) (dot (take (length Us) cell) (map pos cs))
    (pairs-dot Us z xs cs cell p.1) p.0
