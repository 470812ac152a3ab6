-- The kind of a node, and the byte that stands for it.
use Rattle.std.specs.Prelude.{◌≡◌, ℕ, zero, suc, Some, None as NoKind, Ok, Err, Option, Result}
use Rattle.tree.specs.declared.node.Node.{Node}
use Rattle.tree.specs.declared.node.Node.TheVariants.{Head, Keep, Split, New, Leaf, None}
use Rattle.tree.specs.declared.kind.Kind.{Kind}
use Rattle.tree.specs.declared.kind.Kind.TheVariants as kind
use Rattle.tree.specs.declared.kind.UnknownKind.{UnknownKind}

abbrev pub kind_of : Node → Kind
kind_of (Head n p) = kind.Head
kind_of (Keep C) = kind.Keep
kind_of (Split C) = kind.Split
kind_of (New d T) = kind.New
kind_of (Leaf forms) = kind.Leaf
kind_of None = kind.None

-- the byte that stands for a kind
abbrev pub byte_of : Kind → ℕ
byte_of kind.Head = 1
byte_of kind.Keep = 2
byte_of kind.Split = 3
byte_of kind.New = 4
byte_of kind.Leaf = 5
byte_of kind.None = 6

-- the kind that a byte stands for
abbrev pub kind_of_byte : ℕ → Option Kind
kind_of_byte zero = NoKind
kind_of_byte (suc zero) = Some kind.Head
kind_of_byte (suc (suc zero)) = Some kind.Keep
kind_of_byte (suc (suc (suc zero))) = Some kind.Split
kind_of_byte (suc (suc (suc (suc zero)))) = Some kind.New
kind_of_byte (suc (suc (suc (suc (suc zero))))) = Some kind.Leaf
kind_of_byte (suc (suc (suc (suc (suc (suc zero)))))) = Some kind.None
kind_of_byte (suc (suc (suc (suc (suc (suc (suc k))))))) = NoKind

-- that kind, or the byte where there is none
abbrev pub Decodes : ℕ → Result Kind UnknownKind → Type 0
Decodes byte (Ok kind) = kind_of_byte byte ≡ Some kind
Decodes byte (Err e) = (kind_of_byte byte ≡ NoKind) × (e.0 ≡ byte)
