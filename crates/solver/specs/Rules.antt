-- The rules: the sign of a form, the test of a context, the work at a node.
use Rattle.std.specs.Prelude.{ℕ, zero, suc, ◌+◌, Bool, true, false, cond, ◌&&◌, List, [], ◌∷◌, ◌++◌, map, ℤ, pos, negsuc, Some, None, Option, ◌==◌, int_le, int_lt}
use Rattle.std.specs.List.{list_all}
use Rattle.base.specs.declared.refusal.Place.{Place}
use Rattle.base.specs.declared.refusal.Place.TheVariants.{Node, Test}
use Rattle.base.specs.declared.refusal.Refusal.TheVariants.{FuelSpent, Range, Cuts, NewParameters, Depth}
use Rattle.base.specs.Forms.{opposite}
use Rattle.base.specs.Numbers.{at, quot_by, within}
use Rattle.tableau.specs.declared.table.Row.{Row}
use Rattle.tableau.specs.Columns.{entering}
use Rattle.tableau.specs.Cuts.{CutNumbers, cut_of, cut_row, is_constant, lower, upper, whole}
use Rattle.tableau.specs.Rows.{fits, pivoted}
use Rattle.tableau.specs.Tables.{all_fit, unit_rows}
use Rattle.tree.specs.Trees.{Tree, split, new, leaf, none}
use Rattle.solver.specs.declared.sign.Sign.{Sign}
use Rattle.solver.specs.declared.sign.Sign.TheVariants.{NonNegative, Negative, Unknown}
use Rattle.solver.specs.Runs.{Run, return, ◌>>=◌, ◌>>◌, refuse, tick, bar, write}
use Rattle.solver.specs.Tests.{test_row}

-- the unknowns' rows, the other rows, what is known of the p parameters and of the new ones made so far, the cuts made
pub record Work : Type 0 where
  pub top : List Row
  pub rest : List Row
  pub context : List (List ℤ)
  pub parameters : ℕ
  pub made : ℕ
  pub cuts : ℕ

unfoldable pub ranged : Place → Bool → Run (Unit {0})
ranged place inside = cond inside (return tt) (refuse Range place)

-- ---- signs in row order
-- the first negative row, or else the first unknown one, or else nothing
pub data Scan : Type 0 where
  below unsure : Row → Scan
  clear : Scan

abbrev pub recall : Row → Scan → Scan
recall r (below i) = below i
recall r (unsure i) = unsure r
recall r clear = unsure r

unfoldable pub scanned : Row → Run Scan → Sign → Run Scan
scanned r rest NonNegative = rest
scanned r rest Negative = return (below r)
scanned r rest Unknown = do
  found ← rest
  return (recall r found)

unfoldable pub scan : (List ℤ → Run Sign) → List Row → Run Scan
scan sign [] = return clear
scan sign (r ∷ rs) = sign r.form >>= scanned r (scan sign rs)

-- ---- node work and tests go by the same rules; they differ in how a sign is found, and in what a split does
pub record Way : Type 0 where
  pub place : Place
  pub sign : Work → List ℤ → Run Sign
  pub split : Work → List ℤ → Run Tree

-- pivot at row i and column j
unfoldable pub turn : Place → Row → ℕ → Work → Run Work
turn place i j s =
    let top = map (pivoted i j) s.top in
    let rest = map (pivoted i j) s.rest in do
      tick place
      ranged place (all_fit (top ++ rest))
      return (record { top = top; rest = rest; context = s.context; parameters = s.parameters; made = s.made; cuts = s.cuts })

-- a negative row: pivot, or there is no point
unfoldable pub lift : Place → (Work → Run Tree) → Work → Row → Option ℕ → Run Tree
lift place again s i None = do
  write place
  return none
lift place again s i (Some j) = turn place i j s >>= again

-- the cut row is added last, and pivoted on directly if one of its columns is above 0
unfoldable pub added : Place → (Work → Run Tree) → Work → Row → Option ℕ → Run Tree
added place again s i None = again s
added place again s i (Some j) = turn place i j s >>= again

unfoldable pub with_row : Place → (Work → Run Tree) → Work → List (List ℤ) → ℕ → Row → Run Tree
with_row place again s context made r =
    let s' : Work = record { top = s.top; rest = s.rest ++ r ∷ []; context = context; parameters = s.parameters; made = made; cuts = suc s.cuts } in do
      ranged place (fits r)
      added place again s' r (entering s.top r)

-- T is a constant: the cut row is (r - T) / d
unfoldable pub cut_plain : Place → (Work → Run Tree) → Work → CutNumbers → Run Tree
cut_plain place again s c = do
  tick place
  with_row place again s s.context s.made (cut_row c None)

-- otherwise a new parameter q = floor(T / d) is made, and its two rows join the context
unfoldable pub cut_new : Place → (Work → Run Tree) → Work → CutNumbers → Run Tree
cut_new place again s c =
    let q = 4 + s.made in do
      tick place
      write place
      ranged place (within (lower c q) && within (upper c q))
      t ← with_row place again s (s.context ++ (lower c q ∷ (upper c q ∷ []))) (suc s.made) (cut_row c (Some q))
      return (new c.div c.form t)

unfoldable pub cut : Place → (Work → Run Tree) → Work → CutNumbers → Run Tree
cut place again s c =
    cond (s.cuts == 24) (bar Cuts place)
    (cond (is_constant c) (cut_plain place again s c)
    (cond (s.made == 5) (bar NewParameters place)
    (cut_new place again s c)))

-- the first of the unknowns' rows whose form has a number that its divisor does not divide
abbrev pub fraction : List Row → Option Row
fraction [] = None
fraction (r ∷ rs) = cond (whole r) (fraction rs) (Some r)

-- no row is negative: a cut, or the leaf
unfoldable pub finish : Place → (Work → Run Tree) → Work → Option Row → Run Tree
finish place again s None = do
  write place
  return (leaf (map (λ r. map (quot_by r.div) r.form) s.top))
finish place again s (Some r) = cut place again s (cut_of r)

unfoldable pub act : Way → (Work → Run Tree) → Work → Scan → Run Tree
act w again s (below i) = lift w.place again s i (entering s.top i)
act w again s (unsure i) = w.split s i.form
act w again s clear = finish w.place again s (fraction s.top)

-- after a pivot or a cut the rules start over; `gas` only says that they end, and is never used up
unfoldable pub settle : Way → ℕ → Work → Run Tree
settle w zero s = refuse FuelSpent w.place
settle w (suc gas) s = scan (w.sign s) (s.top ++ s.rest) >>= act w (settle w gas) s

-- more than the greatest fuel
abbrev pub plenty : ℕ
plenty = 100_001

-- ---- test: has the context a point? There are no parameters, so each sign is that of a constant, and nothing is split
abbrev pub sign_of : ℤ → Sign
sign_of (pos n) = NonNegative
sign_of (negsuc n) = Negative

abbrev pub testing : Way
testing = record { place = Test; sign = λ s C. return (sign_of (at C 9)); split = λ s C. refuse FuelSpent Test }

abbrev pub has_point : Tree → Bool
has_point (split C t u) = false
has_point (new d T t) = has_point t
has_point (leaf forms) = true
has_point none = false

abbrev pub test_work : ℕ → ℕ → List (List ℤ) → Work
test_work p made forms = record { top = unit_rows 0 (p + made); rest = map (test_row p made) forms; context = []; parameters = 0; made = 0; cuts = 0 }

unfoldable pub test : ℕ → ℕ → List (List ℤ) → Run Bool
test p made forms = do
  t ← settle testing plenty (test_work p made forms)
  return (has_point t)

-- with one more row
unfoldable pub test_with : Work → List ℤ → Run Bool
test_with s C = do
  ranged Test (within C)
  test s.parameters s.made (s.context ++ C ∷ [])

-- ---- the sign of a form where the context holds: two quick rules, then two tests
abbrev pub none_below : List ℤ → Bool
none_below C = list_all (λ x. int_le (pos 0) x) C

abbrev pub none_above : List ℤ → Bool
none_above C = list_all (λ x. int_le x (pos 0)) C

unfoldable pub after_above : Bool → Run Sign
after_above true = return Unknown
after_above false = return Negative

unfoldable pub after_below : Work → List ℤ → Bool → Run Sign
after_below s C true = test_with s C >>= after_above
after_below s C false = return NonNegative

unfoldable pub sign_in : Work → List ℤ → Run Sign
sign_in s C =
    cond (none_below C) (return NonNegative)
    (cond (int_lt (at C 9) (pos 0) && none_above C) (return Negative)
    (test_with s (opposite C) >>= after_below s C))

-- ---- the tree: both branches of a split start from the work before it; `left` splits may still stand one below the other
abbrev pub where_form : Work → List ℤ → Work
where_form s C = record { top = s.top; rest = s.rest; context = s.context ++ C ∷ []; parameters = s.parameters; made = s.made; cuts = s.cuts }

unfoldable pub branch : (Work → Run Tree) → Work → List ℤ → Run Tree
branch deeper s C = do
  ranged Node (within C)
  deeper (where_form s C)

unfoldable pub branches : (Work → Run Tree) → Work → List ℤ → Run Tree
branches deeper s C = do
  tick Node
  write Node
  t ← branch deeper s C
  u ← branch deeper s (opposite C)
  return (split C t u)

abbrev pub solving : (Work → List ℤ → Run Tree) → Way
solving splits = record { place = Node; sign = sign_in; split = splits }

unfoldable pub node : ℕ → Work → Run Tree
node zero s = settle (solving (λ s C. bar Depth Node)) plenty s
node (suc left) s = settle (solving (branches (node left))) plenty s
