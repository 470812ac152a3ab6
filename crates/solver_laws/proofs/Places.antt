-- Places in use, and forms that hold at a setting, as a context grows.
use Rattle.std.proofs.Common.{◌≡◌, ℕ, suc, ◌+◌, ◌<◌, ◌≢◌, List, [], ◌∷◌, ◌++◌, map, length, set, ℤ, pos, ◌-ℤ◌, neg_ℤ, ◌∙◌, inl, inr, arith, length-set}
use Rattle.std.proofs.lemmas.List.{length-map}
use Rattle.base.specs.Forms.{opposite}
use Rattle.base.specs.Numbers.{at}
use Rattle.tableau_laws.proofs.Settings.{value-unused}
use Rattle.tableau_laws.proofs.Unused.{opposite-unused}
use Rattle.solver_laws.specs.Meaning.{Meets}
use Rattle.solver_laws.specs.Places.{AllUse, Spare, Uses}

-- ---- places
pub spare-below : (p made q : ℕ) → Spare p made q → q < 9
spare-below p made q (inl h) = omega arith
spare-below p made q (inr h) = h.1

pub spare-not-nine : (p made q : ℕ) → Spare p made q → q ≢ 9
spare-not-nine p made q h = let lt = spare-below p made q h in omega arith

pub spare-later : (p made q : ℕ) → Spare p (suc made) q → Spare p made q
spare-later p made q (inl h) = inl h
spare-later p made q (inr h) = inr (omega arith, h.1)

pub spare-other : (p made q : ℕ) → Spare p (suc made) q → q ≢ 4 + made
spare-other p made q (inl h) = omega arith
spare-other p made q (inr h) = omega arith

pub spare-next : (p made : ℕ) → made < 5 → Spare p made (4 + made)
spare-next p made h = inr (omega arith, omega arith)

-- ---- forms
pub opposite-uses : (p made : ℕ) (C : List ℤ) → Uses p made C → Uses p made (opposite C)
opposite-uses p made C u = record {
  ten = length-set (map neg_ℤ C) 9 (neg_ℤ (at C 9) -ℤ pos 1) ∙ length-map C neg_ℤ ∙ u.ten;
  free = λ q h. opposite-unused q C (spare-not-nine p made q h) (u.free q h);
}

pub uses-later : (p made : ℕ) (C : List ℤ) → Uses p made C → Uses p (suc made) C
uses-later p made C u = record { ten = u.ten; free = λ q h. u.free q (spare-later p made q h) }

pub all-later : (p made : ℕ) (Cs : List (List ℤ)) → AllUse p made Cs → AllUse p (suc made) Cs
all-later p made [] u = tt
all-later p made (C ∷ Cs) u = (uses-later p made C u.0, all-later p made Cs u.1)

pub all_append : (p made : ℕ) (Cs Ds : List (List ℤ)) → AllUse p made Cs → AllUse p made Ds → AllUse p made (Cs ++ Ds)
all_append p made [] Ds u v = v
all_append p made (C ∷ Cs) Ds u v = (u.0, all_append p made Cs Ds u.1 v)

-- ---- what holds at a setting
pub meets-append : (Cs Ds : List (List ℤ)) (ρ : List ℤ) → Meets Cs ρ → Meets Ds ρ → Meets (Cs ++ Ds) ρ
meets-append [] Ds ρ h k = k
meets-append (C ∷ Cs) Ds ρ h k = (h.0, meets-append Cs Ds ρ h.1 k)

pub meets-left : (Cs Ds : List (List ℤ)) (ρ : List ℤ) → Meets (Cs ++ Ds) ρ → Meets Cs ρ
meets-left [] Ds ρ h = tt
meets-left (C ∷ Cs) Ds ρ h = (h.0, meets-left Cs Ds ρ h.1)

pub meets-right : (Cs Ds : List (List ℤ)) (ρ : List ℤ) → Meets (Cs ++ Ds) ρ → Meets Ds ρ
meets-right [] Ds ρ h = h
meets-right (C ∷ Cs) Ds ρ h = meets-right Cs Ds ρ h.1

-- another value at a place that is not in use
pub meets-unused : (p made : ℕ) (Cs : List (List ℤ)) (ρ : List ℤ) (q : ℕ) (v : ℤ) → AllUse p made Cs → Spare p made q → length ρ ≡ 9 → Meets Cs ρ → Meets Cs (set ρ q v)
meets-unused p made [] ρ q v u h nine m = tt
meets-unused p made (C ∷ Cs) ρ q v u h nine m =
    let lt = spare-below p made q h in
    (rw (value-unused C ρ q v (u.0.free q h) (omega (arith, nine))) m.0, meets-unused p made Cs ρ q v u.1 h nine m.1)
