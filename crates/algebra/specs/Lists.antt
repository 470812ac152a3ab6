-- Lists of whole numbers as vectors, and lists of rows as matrices.
use Rattle.std.specs.Prelude.{ℕ, List, [], ◌∷◌, ℤ, pos, ◌+ℤ◌, ◌*ℤ◌, ◌≤ℤ◌}
use Rattle.base.specs.Numbers.{at}
use Rattle.base.specs.Forms.{dot}

-- g times each number
abbrev pub scaled : ℤ → List ℤ → List ℤ
scaled g [] = []
scaled g (x ∷ xs) = (g *ℤ x) ∷ scaled g xs

-- the sum, number by number; the shorter list decides
abbrev pub plus : List ℤ → List ℤ → List ℤ
plus [] ys = []
plus (x ∷ xs) [] = []
plus (x ∷ xs) (y ∷ ys) = (x +ℤ y) ∷ plus xs ys

-- a natural point: no number below 0
abbrev pub NonNeg : List ℤ → Type 0
NonNeg [] = Unit {0}
NonNeg (x ∷ xs) = (pos 0 ≤ℤ x) × NonNeg xs

-- no number above 0
abbrev pub NonPos : List ℤ → Type 0
NonPos [] = Unit {0}
NonPos (x ∷ xs) = (x ≤ℤ pos 0) × NonPos xs

-- column l of a matrix, and the products of its rows with y
abbrev pub column : List (List ℤ) → ℕ → List ℤ
column [] l = []
column (r ∷ rs) l = at r l ∷ column rs l

abbrev pub products : List (List ℤ) → List ℤ → List ℤ
products [] y = []
products (r ∷ rs) y = dot r y ∷ products rs y
