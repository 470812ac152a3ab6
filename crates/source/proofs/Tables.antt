-- A table kept in a larger one: its first m rows, and of each the first w numbers.
use Rattle.std.proofs.Common.{◌≡◌, ℕ, zero, suc, ◌+◌, ◌<◌, ◌≤◌, List, [], ◌∷◌, ◌++◌, map, length, take, set, ℤ, pos, refl, ap, ◌∙◌, arith}
use Rattle.std.proofs.lemmas.List.{get_or-take, get_or_past, length-take, map_push, take_more_set}
use Rattle.source.specs.Systems.{entry}

-- one row more
pub kept_more : (w m : ℕ) (xs : List (List ℤ)) (y row : List ℤ) → m < length xs → take w y ≡ row → map (take w) (take (m + 1) (set xs m y)) ≡ map (take w) (take m xs) ++ row ∷ []
kept_more w m xs y row h e =
    ap (map (take w)) (take_more_set xs m y h) ∙ map_push (take w) (take m xs) y ∙ ap (λ r. map (take w) (take m xs) ++ r ∷ []) e

pub entry-inside : (w m : ℕ) (xs : List (List ℤ)) (i j : ℕ) → i < m → j < w → entry (map (take w) (take m xs)) i j ≡ entry xs i j
entry-inside w zero xs i j h k = absurd (omega arith)
entry-inside w (suc m) [] i j h k = refl
entry-inside w (suc m) (x ∷ xs) zero j h k = get_or-take w x j (pos 0) k
entry-inside w (suc m) (x ∷ xs) (suc i) j h k = entry-inside w m xs i j (omega arith) k

pub entry-below : (w m : ℕ) (xs : List (List ℤ)) (i j : ℕ) → m ≤ i → entry (map (take w) (take m xs)) i j ≡ pos 0
entry-below w zero xs i j h = refl
entry-below w (suc m) [] i j h = refl
entry-below w (suc m) (x ∷ xs) zero j h = absurd (omega arith)
entry-below w (suc m) (x ∷ xs) (suc i) j h = entry-below w m xs i j (omega arith)

pub entry-beside : (w m : ℕ) (xs : List (List ℤ)) (i j : ℕ) → w ≤ j → entry (map (take w) (take m xs)) i j ≡ pos 0
entry-beside w zero xs i j h = refl
entry-beside w (suc m) [] i j h = refl
entry-beside w (suc m) (x ∷ xs) zero j h = get_or_past (take w x) j (pos 0) (simp length-take (omega arith))
entry-beside w (suc m) (x ∷ xs) (suc i) j h = entry-beside w m xs i j h
