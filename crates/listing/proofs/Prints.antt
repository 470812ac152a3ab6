-- Text written piece by piece, one for each element of a list.
use Rattle.std.proofs.Common.{ℕ, List, take}
use Rattle.std.specs.Fmt.{IsPlainFormatter, HasWritten}
use Rattle.std.specs.List.{flat_map}
use Rattle.std.specs.declared.fmt.Formatter.{Formatter}

module _ {W : Type 0} (took : W → List ℕ → W → Type 0) {X : Type 0} (text : X → List ℕ) where
  -- the first i elements are written
  abbrev pub Written : Formatter W → List X → ℕ → Formatter W → Type 0
  Written f xs i g = IsPlainFormatter f → HasWritten took f (flat_map text (take i xs)) g
