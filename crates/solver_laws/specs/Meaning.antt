-- What is claimed of a computation, of a sign, of a test, and of what a tree answers.
use Rattle.std.specs.Prelude.{◌≡◌, ℕ, Bool, true, false, ◌⊎◌, List, [], ◌∷◌, map, length, ℤ, pos, ◌≤ℤ◌, ◌<ℤ◌, Some, None, Ok, Option}
use Rattle.base.specs.Forms.{value_at}
use Rattle.algebra.specs.Lists.{NonNeg}
use Rattle.source.specs.Systems.{Point, Precedes, System}
use Rattle.solver.specs.declared.count.Count.{Count}
use Rattle.solver.specs.declared.sign.Sign.{Sign}
use Rattle.solver.specs.declared.sign.Sign.TheVariants.{NonNegative, Negative, Unknown}
use Rattle.solver.specs.Runs.{Limits, Run}

-- each value that a computation answers is as P says
pub record Yields {A : Type 0} (P : A → Type 0) (m : Run A) : Type 0 where
  pub law : (l : Limits) (from : Count) (a : A) (to : Count) → m l from ≡ Ok (a, to) → P a

-- ---- settings
-- natural values of the nine parameter places
pub record Setting (ρ : List ℤ) : Type 0 where
  pub nine : length ρ ≡ 9
  pub natural : NonNeg ρ

-- each form is at least 0 there
abbrev pub Meets : List (List ℤ) → List ℤ → Type 0
Meets [] ρ = Unit {0}
Meets (C ∷ Cs) ρ = (pos 0 ≤ℤ value_at C ρ) × Meets Cs ρ

-- what a sign says of a value
abbrev pub SignOf : ℤ → Sign → Type 0
SignOf v NonNegative = pos 0 ≤ℤ v
SignOf v Negative = v <ℤ pos 0
SignOf v Unknown = Unit {0}

-- what the sign of a form says where the context holds: it has that sign everywhere there, or both occur
abbrev pub SignRight : List (List ℤ) → List ℤ → Sign → Type 0
SignRight context C NonNegative = (ρ : List ℤ) → Setting ρ → Meets context ρ → pos 0 ≤ℤ value_at C ρ
SignRight context C Negative = (ρ : List ℤ) → Setting ρ → Meets context ρ → value_at C ρ <ℤ pos 0
SignRight context C Unknown =
    ((ρ : List ℤ) × Setting ρ × Meets context ρ × (pos 0 ≤ℤ value_at C ρ)) × ((ρ : List ℤ) × Setting ρ × Meets context ρ × (value_at C ρ <ℤ pos 0))

-- a test: whether some setting meets the forms
abbrev pub HasSetting : List (List ℤ) → Bool → Type 0
HasSetting forms true = (ρ : List ℤ) × Setting ρ × Meets forms ρ
HasSetting forms false = (ρ : List ℤ) → Setting ρ → Meets forms ρ → ⊥

-- x is the least point at the parameters z: it precedes every other
abbrev pub Least : System → List ℕ → List ℕ → Type 0
Least S z x = Point S z x × ((y : List ℕ) → Point S z y → (x ≡ y) ⊎ Precedes x y)

-- ---- what is answered at the parameters z: the least point, or that there is none
abbrev pub RightAnswer : System → List ℕ → Option (List ℤ) → Type 0
RightAnswer S z (Some values) = (x : List ℕ) × (values ≡ map pos x) × Least S z x
RightAnswer S z None = (x : List ℕ) → Point S z x → ⊥
