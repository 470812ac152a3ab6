-- What the lemma files of this crate come to.
use Rattle.std.specs.Prelude.{◌≡◌, ℕ, ◌⊎◌, List, map, length, ℤ, pos, ◌+ℤ◌, ◌*ℤ◌, ◌≤ℤ◌, ◌<ℤ◌}
use Rattle.base.specs.Forms.{dot}
use Rattle.base.specs.Numbers.{floor_div, modulo}
use Rattle.source.specs.Systems.{Precedes}
use Rattle.algebra.specs.Lists.{NonNeg, column, plus, products, scaled}
use Rattle.algebra.specs.Orders.{LexLe, LexNN}

-- a is d times floor(a / d) and a modulo d more, which is from 0 to d - 1; and no other number from there differs from a by a multiple of d
abbrev pub OneRemainder : Type 0
OneRemainder =
    (a d : ℤ) → pos 0 <ℤ d →
    ((a ≡ d *ℤ floor_div a d +ℤ modulo a d) × ((pos 0 ≤ℤ modulo a d) × (modulo a d <ℤ d))) × ((q r : ℤ) → a ≡ d *ℤ q +ℤ r → pos 0 ≤ℤ r → r <ℤ d → r ≡ modulo a d)

-- products of a linear combination
abbrev pub DotLinear : Type 0
DotLinear = (a b : ℤ) (xs ys zs : List ℤ) → length xs ≡ length ys → dot (plus (scaled a xs) (scaled b ys)) zs ≡ a *ℤ dot xs zs +ℤ b *ℤ dot ys zs

-- a combination by natural numbers of columns that are lexicographically nonnegative is so too
abbrev pub ColumnsCombine : Type 0
ColumnsCombine = (rows : List (List ℤ)) (y : List ℤ) → NonNeg y → ((l : ℕ) → LexNN (column rows l)) → LexNN (products rows y)

-- of two points of one length one precedes the other, or they are the same
abbrev pub PrecedesTotal : Type 0
PrecedesTotal = (xs ys : List ℕ) → length xs ≡ length ys → Precedes xs ys ⊎ ((xs ≡ ys) ⊎ Precedes ys xs)

abbrev pub PrecedesTransitive : Type 0
PrecedesTransitive = (xs ys zs : List ℕ) → Precedes xs ys → Precedes ys zs → Precedes xs zs

-- no point precedes itself
abbrev pub PrecedesStrict : Type 0
PrecedesStrict = (xs : List ℕ) → Precedes xs xs → ⊥

-- for natural points the lexicographic order is "the same, or it precedes"
abbrev pub LexPrecedes : Type 0
LexPrecedes = (xs ys : List ℕ) → LexLe (map pos xs) (map pos ys) → (xs ≡ ys) ⊎ Precedes xs ys

abbrev pub AlgebraStands : Type 0
AlgebraStands = OneRemainder × DotLinear × ColumnsCombine × PrecedesTotal × PrecedesTransitive × PrecedesStrict × LexPrecedes
