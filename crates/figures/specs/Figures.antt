-- The worked figures, as data, and what each of them says of the definitions.
use Rattle.std.specs.Prelude.{◌≡◌, ℕ, List, [], ◌∷◌, ◌++◌, replicate, ℤ, pos, negsuc, Some, Ok, Err, Option, Result}
use Rattle.base.specs.declared.refusal.Place.TheVariants.{Node, Test}
use Rattle.base.specs.declared.refusal.Refusal.{Refusal}
use Rattle.base.specs.declared.refusal.Refusal.TheVariants.{FuelSpent, NoParameterPoint, WorkFull}
use Rattle.base.specs.Numbers.{modulo}
use Rattle.source.specs.Systems.{System}
use Rattle.solver.specs.declared.run.Solved.{Solved}
use Rattle.solver.specs.Solves.{solve_answer, solved}
use Rattle.tree.specs.Answers.{answer_at}
use Rattle.tree.specs.Trees.{Tree, split, new, leaf}
use Rattle.tableau.specs.declared.table.Row.{Row}
use Rattle.tableau.specs.Rows.{lowest, pivoted}
use Rattle.tableau.specs.Cuts.{cut_of}

pub data Figure : Type 0 where
  -- a mod d is r
  remainder : ℤ → ℤ → ℤ → Figure
  -- a row, and what it is in lowest terms
  terms : Row → Row → Figure
  -- a row, the row and column that it is pivoted by, and what it becomes
  pivot : Row → Row → ℕ → Row → Figure
  -- a row, and r and T of its cut
  cut : Row → List ℤ → List ℤ → Figure
  -- a system, the fuel, the length of the work table, and what a solve answers
  solve : System → ℤ → ℕ → Result Solved Refusal → Figure
  -- a tree, the parameters, and what the tree answers there
  answer : Tree → List ℕ → Option (List ℤ) → Figure

abbrev pub Holds : Figure → Type 0
Holds (remainder a d r) = modulo a d ≡ r
Holds (terms raw low) = lowest raw ≡ low
Holds (pivot h i j after) = pivoted i j h ≡ after
Holds (cut row r T) = ((cut_of row).coefs ≡ r) × ((cut_of row).form ≡ T)
Holds (solve S fuel room said) = solve_answer (solved S fuel room) ≡ said
Holds (answer t z said) = answer_at t z ≡ said

abbrev pub AllHold : List Figure → Type 0
AllHold [] = Unit {0}
AllHold (f ∷ fs) = Holds f × AllHold fs

-- numbers with zeros after them
abbrev pub coefs : ℤ → List ℤ
coefs x = x ∷ replicate 8 (pos 0)

-- k times the first parameter, and a constant
abbrev pub form : ℤ → ℤ → List ℤ
form k c = k ∷ (replicate 8 (pos 0) ++ c ∷ [])

-- the row (N; C; d) of one unknown, C being k times the first parameter plus c
abbrev pub row : ℤ → ℤ → ℤ → ℤ → Row
row N k c d = record { coefs = coefs N; form = form k c; div = d }

-- 2 × unknown ≥ k
abbrev pub half : System
half = record { n = 1; p = 1; rows = (pos 2 ∷ negsuc 0 ∷ pos 0 ∷ []) ∷ []; context = [] }

-- its tree: 0 where -k ≥ 0, else k less the new parameter floor(k / 2)
abbrev pub half_tree : Tree
half_tree = split (form (negsuc 0) (pos 0)) (leaf (form (pos 0) (pos 0) ∷ [])) (new (pos 2) (form (pos 1) (pos 0)) (leaf ((pos 1 ∷ pos 0 ∷ pos 0 ∷ pos 0 ∷ negsuc 0 ∷ replicate 5 (pos 0)) ∷ [])))

-- unknown 1 + unknown 2 - 3 ≥ 0
abbrev pub three : System
three = record { n = 2; p = 0; rows = (pos 1 ∷ pos 1 ∷ negsuc 2 ∷ []) ∷ []; context = [] }

-- no parameters, and the context row -1
abbrev pub never : System
never = record { n = 1; p = 0; rows = []; context = (negsuc 0 ∷ []) ∷ [] }

abbrev pub figures : List Figure
figures =
    -- -7 mod 3 is 2, and 7 mod 3 is 1
    remainder (negsuc 6) (pos 3) (pos 2)
    ∷ remainder (pos 7) (pos 3) (pos 1)
    -- N 2, C 2 and -2, d 2 become 1, 1 and -1, 1
    ∷ terms (row (pos 2) (pos 2) (negsuc 1) (pos 2)) (row (pos 1) (pos 1) (negsuc 0) (pos 1))
    -- the row (1; 0; 1), pivoted by (2; -k; 1), is (1; k; 2)
    ∷ pivot (row (pos 1) (pos 0) (pos 0) (pos 1)) (row (pos 2) (negsuc 0) (pos 0) (pos 1)) 0 (row (pos 1) (pos 1) (pos 0) (pos 2))
    -- the cut of (1; k; 2) has r 1 and T = k, that of (1; k; 3) has r 1 and T = 2k
    ∷ cut (row (pos 1) (pos 1) (pos 0) (pos 2)) (coefs (pos 1)) (form (pos 1) (pos 0))
    ∷ cut (row (pos 1) (pos 1) (pos 0) (pos 3)) (coefs (pos 1)) (form (pos 2) (pos 0))
    -- a solve of 2 × unknown ≥ k makes 12 steps and writes 5 nodes; fuel for 11 is spent in a test, and 4 nodes are too few
    ∷ solve half (pos 12) 64 (Ok (record { steps = 12; nodes = 5 }))
    ∷ solve half (pos 11) 64 (Err (FuelSpent (record { steps = 11; place = Test })))
    ∷ solve half (pos 12) 4 (Err (WorkFull (record { steps = 12; place = Node })))
    -- one pivot, and a leaf below the head
    ∷ solve three (pos 100) 64 (Ok (record { steps = 1; nodes = 2 }))
    -- no parameter point meets the context
    ∷ solve never (pos 100) 64 (Err NoParameterPoint)
    -- the tree of 2 × unknown ≥ k gives 0, 2, 2 at k = 0, 3, 4
    ∷ answer half_tree (0 ∷ []) (Some (pos 0 ∷ []))
    ∷ answer half_tree (3 ∷ []) (Some (pos 2 ∷ []))
    ∷ answer half_tree (4 ∷ []) (Some (pos 2 ∷ []))
    ∷ []

-- each worked figure holds
abbrev pub FiguresStand : Type 0
FiguresStand = AllHold figures
