-- A fact of a signed number, and of its bits read back.
use Rattle.std.proofs.Common.{ℤ, sym, subst, w64, SFits, to_z, of_z}
use Rattle.std.proofs.lemmas.Int.{to_z-of_z}

pub back : (P : ℤ → Type 0) (z : ℤ) → SFits w64 z → P (to_z w64 (of_z w64 z)) → P z
back P z f h = subst P (to_z-of_z w64 z f) h

pub forth : (P : ℤ → Type 0) (z : ℤ) → SFits w64 z → P z → P (to_z w64 (of_z w64 z))
forth P z f h = subst P (sym (to_z-of_z w64 z f)) h
