-- A point of at most four numbers, place by place.
use Rattle.std.proofs.Common.{◌≡◌, ◌≤◌, List, [], ◌∷◌, length, get_or, ℤ, pos, refl, arith}
use Rattle.tree.specs.Finds.{six_numbers, spread}

pub spread-places : (point : List ℤ) → length point ≤ 4 → get_or point 0 (pos 0) ∷ get_or point 1 (pos 0) ∷ get_or point 2 (pos 0) ∷ get_or point 3 (pos 0) ∷ pos 0 ∷ pos 0 ∷ pos 0 ∷ pos 0 ∷ pos 0 ∷ [] ≡ spread point
spread-places [] h = refl
spread-places (a ∷ []) h = refl
spread-places (a ∷ b ∷ []) h = refl
spread-places (a ∷ b ∷ c ∷ []) h = refl
spread-places (a ∷ b ∷ c ∷ d ∷ []) h = refl
spread-places (a ∷ b ∷ c ∷ d ∷ e ∷ rest) h = absurd (let no : ⊥ = omega arith in no)

-- at most six values, place by place
pub six-places : (vs : List ℤ) → length vs ≤ 6 → get_or vs 0 (pos 0) ∷ get_or vs 1 (pos 0) ∷ get_or vs 2 (pos 0) ∷ get_or vs 3 (pos 0) ∷ get_or vs 4 (pos 0) ∷ get_or vs 5 (pos 0) ∷ [] ≡ six_numbers vs
six-places [] h = refl
six-places (a ∷ []) h = refl
six-places (a ∷ b ∷ []) h = refl
six-places (a ∷ b ∷ c ∷ []) h = refl
six-places (a ∷ b ∷ c ∷ d ∷ []) h = refl
six-places (a ∷ b ∷ c ∷ d ∷ e ∷ []) h = refl
six-places (a ∷ b ∷ c ∷ d ∷ e ∷ f ∷ []) h = refl
six-places (a ∷ b ∷ c ∷ d ∷ e ∷ f ∷ g ∷ rest) h = absurd (let no : ⊥ = omega arith in no)
