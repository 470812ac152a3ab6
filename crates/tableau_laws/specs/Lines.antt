-- Rows of the table once the parameters have values.
use Rattle.std.specs.Prelude.{◌≡◌, ℕ, ◌⊎◌, List, [], ◌∷◌, length, ℤ, pos, ◌+ℤ◌, ◌*ℤ◌, ◌<ℤ◌}
use Rattle.base.specs.Numbers.{at}
use Rattle.base.specs.Forms.{dot, value_at}
use Rattle.tableau.specs.declared.table.Row.{Row}

-- a row of numbers: its value times `div` is `coefs` times the basic unknowns, plus `constant`
pub record Line : Type 0 where
  pub coefs : List ℤ
  pub constant : ℤ
  pub div : ℤ

-- the row where the nine parameters have the values ρ
abbrev pub under : List ℤ → Row → Line
under ρ r = record { coefs = r.coefs; constant = value_at r.form ρ; div = r.div }

-- its value is v where the basic unknowns are y
abbrev pub Says : Line → List ℤ → ℤ → Type 0
Says h y v = h.div *ℤ v ≡ dot h.coefs y +ℤ h.constant

-- the same of s times the constant, so that whole multiples of y, s and v say it too
abbrev pub SaysAt : Line → List ℤ → ℤ → ℤ → Type 0
SaysAt h y s v = h.div *ℤ v ≡ dot h.coefs y +ℤ s *ℤ h.constant

-- each line, with the value at its place
abbrev pub AllSay : List Line → List ℤ → List ℤ → Type 0
AllSay [] y [] = Unit {0}
AllSay [] y (v ∷ vs) = ⊥
AllSay (h ∷ hs) y [] = ⊥
AllSay (h ∷ hs) y (v ∷ vs) = Says h y v × AllSay hs y vs

abbrev pub AllSayAt : List Line → List ℤ → ℤ → List ℤ → Type 0
AllSayAt [] y s [] = Unit {0}
AllSayAt [] y s (v ∷ vs) = ⊥
AllSayAt (h ∷ hs) y s [] = ⊥
AllSayAt (h ∷ hs) y s (v ∷ vs) = SaysAt h y s v × AllSayAt hs y s vs

-- the coefficients as a matrix
abbrev pub coefs_of : List Line → List (List ℤ)
coefs_of [] = []
coefs_of (h ∷ hs) = h.coefs ∷ coefs_of hs

-- each divisor is above 0
abbrev pub Above : List Line → Type 0
Above [] = Unit {0}
Above (h ∷ hs) = (pos 0 <ℤ h.div) × Above hs

-- ---- rows of a table
-- r is one of the rows
abbrev pub In : Row → List Row → Type 0
In r [] = ⊥
In r (x ∷ xs) = (x ≡ r) ⊎ In r xs

-- nine coefficients and ten places of a form
abbrev pub Shaped : List Row → Type 0
Shaped [] = Unit {0}
Shaped (r ∷ rs) = (length r.coefs ≡ 9) × (length r.form ≡ 10) × Shaped rs

-- no form uses the place q
abbrev pub Unused : ℕ → List Row → Type 0
Unused q [] = Unit {0}
Unused q (r ∷ rs) = (at r.form q ≡ pos 0) × Unused q rs
