-- Settings of the parameters: nine numbers, 0 for those that are not in use.
use Rattle.tableau.specs.Cuts.{CutNumbers}
use Rattle.std.specs.Prelude.{ℕ, List, ℤ, slice_set}
use Rattle.base.specs.Numbers.{floor_div}
use Rattle.base.specs.Forms.{value_at}

-- the value of a cut's new parameter: T over d, rounded down
abbrev pub new_value : CutNumbers → List ℤ → ℤ
new_value c ρ = floor_div (value_at c.form ρ) c.div

-- the setting that gains it at the place q
abbrev pub gained : CutNumbers → ℕ → List ℤ → List ℤ
gained c q ρ = slice_set ρ q (new_value c ρ)
