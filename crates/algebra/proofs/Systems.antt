-- The value of a system's row, parted into that of the unknowns and that of the parameters.
use Rattle.std.proofs.Common.{◌≡◌, ℕ, List, [], ◌∷◌, ◌++◌, map, length, take, drop, ℤ, pos, ◌+ℤ◌, ap, ◌∙◌}
use Rattle.std.proofs.lemmas.List.{append_assoc, length-map, map-append}
use Rattle.base.specs.Forms.{dot}
use Rattle.algebra.proofs.Dots.{dot-split}

pub row-parts : (row : List ℤ) (x z : List ℕ) (n : ℕ) → length x ≡ n → dot row (map pos (x ++ z) ++ (pos 1 ∷ [])) ≡ dot (take n row) (map pos x) +ℤ dot (drop n row) (map pos z ++ (pos 1 ∷ []))
row-parts row x z n e =
    ap (λ (t : List ℤ). dot row (t ++ (pos 1 ∷ []))) (map-append pos x z)
    ∙ ap (dot row) (append_assoc (map pos x) (map pos z) (pos 1 ∷ []))
    ∙ dot-split row (map pos x) (map pos z ++ (pos 1 ∷ []))
    ∙ ap (λ k. dot (take k row) (map pos x) +ℤ dot (drop k row) (map pos z ++ (pos 1 ∷ []))) (length-map x pos ∙ e)
