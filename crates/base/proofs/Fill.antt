-- A loop that puts the list S that the contract names in place of `old`, place by place.
use Rattle.std.proofs.Common.{◌≡◌, ℕ, ◌+◌, ◌<◌, ◌≤◌, ◌≢◌, List, length, get_or, set, refl, ◌∙◌, arith}
use Rattle.std.proofs.lemmas.List.{length-set, ext_get_or, get_or-set_other}
use Rattle.std.proofs.lemmas.List.Edits.{fill_by_more}

module _ {X : Type 0} (d : X) where
  -- the places below i hold what S has there, the others what they held
  abbrev pub Filled : List X → List X → List X → ℕ → Type 0
  Filled S old all i =
      (length all ≡ length S) × ((k : ℕ) → k < i → get_or all k d ≡ get_or S k d) × ((k : ℕ) → i ≤ k → get_or all k d ≡ get_or old k d)

  pub filled_none : (S old : List X) → length old ≡ length S → Filled S old old 0
  filled_none S old e = (e, λ k h. absurd (let no : ⊥ = omega arith in no), λ k h. refl)

  pub filled_more : (S old all : List X) (i : ℕ) (v : X) → i < length S → v ≡ get_or S i d → Filled S old all i → Filled S old (set all i v) (i + 1)
  filled_more S old all i v h e f = (
    length-set all i v ∙ f.0,
    λ k p. rw e (fill_by_more (λ k. get_or S k d) all i d (omega (arith, f.0)) f.1 k p),
    λ k p. let ne : k ≢ i = omega arith in get_or-set_other all i k v d ne ∙ f.2 k (omega arith),
  )

  pub filled-all : (S old all : List X) (i : ℕ) → length S ≤ i → Filled S old all i → all ≡ S
  filled-all S old all i h f = ext_get_or d all S f.0 (λ k p. f.1 k (omega (arith, f.0)))
