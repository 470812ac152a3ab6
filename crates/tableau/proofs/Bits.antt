-- What a test or a call says of an i64, whose value the code holds as bits.
use Rattle.std.proofs.Common.{◌≡◌, ℤ, ◌*ℤ◌, sym, ap, ◌∙◌, w64, SFits, to_z, of_z}
use Rattle.std.proofs.lemmas.Int.{to_z-of_z}
use Rattle.base.proofs.There.{back}

pub same_bits : (x y : ℤ) → SFits w64 x → SFits w64 y → of_z w64 x ≡ of_z w64 y → x ≡ y
same_bits x y f g e = sym (to_z-of_z w64 x f) ∙ ap (to_z w64) e ∙ to_z-of_z w64 y g

pub product-bits : (r x y : ℤ) → SFits w64 x → SFits w64 y → r ≡ to_z w64 (of_z w64 x) *ℤ to_z w64 (of_z w64 y) → r ≡ x *ℤ y
product-bits r x y f g e = back (λ y. r ≡ x *ℤ y) y g (back (λ x. r ≡ x *ℤ to_z w64 (of_z w64 y)) x f e)
