-- The limits of a tree.
use Rattle.std.specs.Prelude.{◌≡◌, ℕ, suc, ◌+◌, ◌-◌, ◌^◌, ◌<◌, ◌≤◌, ◌≢◌, List, [], ◌∷◌, length, ℤ, pos, ◌≤ℤ◌, ◌<ℤ◌}
use Rattle.base.specs.Numbers.{AllWithin, at}
use Rattle.tree.specs.Trees.{Tree, split, new, leaf, none}

-- a form of ten numbers from -2^30 to 2^30 that uses only the p parameters and the new ones made so far
pub record FormFits (p made : ℕ) (C : List ℤ) : Type 0 where
  pub ten : length C ≡ 10
  pub small : AllWithin (2 ^ 30) C
  pub parameters : (l : ℕ) → p ≤ l → l < 4 → at C l ≡ pos 0
  pub news : (l : ℕ) → 4 + made ≤ l → l < 9 → at C l ≡ pos 0

abbrev pub AllFormsFit : ℕ → ℕ → List (List ℤ) → Type 0
AllFormsFit p made [] = Unit {0}
AllFormsFit p made (C ∷ Cs) = FormFits p made C × AllFormsFit p made Cs

-- a new parameter floor(T / d): d is 2 or more, T's numbers are from 0 to d - 1, some coefficient is not 0
pub record NewFits (p made : ℕ) (d : ℤ) (T : List ℤ) : Type 0 where
  pub form : FormFits p made T
  pub least : pos 2 ≤ℤ d
  pub most : d ≤ℤ pos (2 ^ 30)
  pub low : (l : ℕ) → pos 0 ≤ℤ at T l
  pub high : (l : ℕ) → at T l <ℤ d
  pub place : ℕ
  pub coefficient : place < 9
  pub named : at T place ≢ pos 0

-- a tree for n unknowns and p parameters in which `left` splits may stand one below the other, and 5 - made new parameters
abbrev pub TreeFits : ℕ → ℕ → ℕ → ℕ → Tree → Type 0
TreeFits n p made left (split C t u) = (0 < left) × (FormFits p made C × (TreeFits n p made (left - 1) t × TreeFits n p made (left - 1) u))
TreeFits n p made left (new d T t) = (made < 5) × (NewFits p made d T × TreeFits n p (suc made) left t)
TreeFits n p made left (leaf forms) = (length forms ≡ n) × AllFormsFit p made forms
TreeFits n p made left none = Unit {0}

-- a whole tree: its head, its keeps, which use no new parameters, and what stands below them
pub record WithinLimits (n p : ℕ) (keeps : List (List ℤ)) (t : Tree) : Type 0 where
  pub unknowns_least : 1 ≤ n
  pub unknowns_most : n ≤ 6
  pub parameters_most : p ≤ 4
  pub keeps_most : length keeps ≤ 8
  pub keeps_fit : AllFormsFit p 0 keeps
  pub tree_fits : TreeFits n p 0 12 t
