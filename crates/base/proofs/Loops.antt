-- One turn of a loop that writes over a list of numbers in place.
use Rattle.std.proofs.Common.{◌≡◌, ℕ, ◌+◌, ◌<◌, List, map, length, get_or, set, ℤ, pos, sym, ap, ◌∙◌, subst, arith, w64, SFits, to_z, of_z}
use Rattle.std.proofs.lemmas.List.{get_or-map, length-map}
use Rattle.std.proofs.lemmas.Int.{to_z-of_z}
use Rattle.base.proofs.Fill.{Filled, filled_more}

-- f x, which a call gave as r, is put in the place of x
pub map-turn : (f : ℤ → ℤ) (old all : List ℤ) (k : ℕ) (r : ℤ) → k < length old → SFits w64 (get_or all k (pos 0)) → SFits w64 r → r ≡ f (to_z w64 (of_z w64 (get_or all k (pos 0)))) → Filled (pos 0) (map f old) old all k → Filled (pos 0) (map f old) old (set all k (to_z w64 (of_z w64 r))) (k + 1)
map-turn f old all k r n fx fr v inv =
    let e = v ∙ ap f (to_z-of_z w64 (get_or all k (pos 0)) fx ∙ inv.2 k (omega arith)) ∙ sym (get_or-map f old k (pos 0) (pos 0) n) in
    subst (λ z. Filled (pos 0) (map f old) old (set all k z) (k + 1)) (sym (to_z-of_z w64 r fr)) (filled_more (pos 0) (map f old) old all k r (simp length-map n) e inv)
