-- What a record can hold, as facts.
use Rattle.std.proofs.Common.{◌≡◌, true, List, [], ◌∷◌, ◌++◌, length, ℤ, refl, w32, SFits}
use Rattle.std.proofs.lemmas.Bool.{and_from, and_parts, eq-eqb, eqb-true, lt-ltb, ltb-true}
use Rattle.tree.specs.declared.node.Node.{Node}
use Rattle.tree.specs.declared.node.Node.TheVariants.{Head, Keep, Split, New, Leaf, None}
use Rattle.page.specs.Words.{Fit32}
use Rattle.page.proofs.Words.{AllTen, Ten}
use Rattle.page.specs.Records.{all_fit32, all_holdable, all_ten, fits32, holdable, ten}

abbrev pub Holdable : Node → Type 0
Holdable (Head n p) = Unit {0}
Holdable (Keep C) = Ten C
Holdable (Split C) = Ten C
Holdable (New d T) = SFits w32 d × Ten T
Holdable (Leaf Cs) = (length Cs ≡ 6) × AllTen Cs
Holdable None = Unit {0}

abbrev pub AllHoldable : List Node → Type 0
AllHoldable [] = Unit {0}
AllHoldable (x ∷ xs) = Holdable x × AllHoldable xs

pub all-holdable-++ : (xs ys : List Node) → AllHoldable xs → AllHoldable ys → AllHoldable (xs ++ ys)
all-holdable-++ [] ys a b = b
all-holdable-++ (x ∷ xs) ys a b = (a.0, all-holdable-++ xs ys a.1 b)

pub fits-from : (z : ℤ) → fits32 z ≡ true → SFits w32 z
fits-from z e = record { sfits = ltb-true _ _ e }

pub fits-to : (z : ℤ) → SFits w32 z → fits32 z ≡ true
fits-to z f = lt-ltb _ _ f.sfits

fit-from : (zs : List ℤ) → all_fit32 zs ≡ true → Fit32 zs
fit-from [] e = tt
fit-from (z ∷ zs) e = let p = and_parts (fits32 z) (all_fit32 zs) e in (fits-from z p.0, fit-from zs p.1)

fit-to : (zs : List ℤ) → Fit32 zs → all_fit32 zs ≡ true
fit-to [] f = refl
fit-to (z ∷ zs) f = and_from (fits32 z) (all_fit32 zs) (fits-to z f.0) (fit-to zs f.1)

pub ten-from : (C : List ℤ) → ten C ≡ true → Ten C
ten-from C e = let p = and_parts _ (all_fit32 C) e in (eqb-true _ _ p.0, fit-from C p.1)

pub ten-to : (C : List ℤ) → Ten C → ten C ≡ true
ten-to C t = and_from _ (all_fit32 C) (eq-eqb _ _ t.0) (fit-to C t.1)

pub all-ten-from : (Cs : List (List ℤ)) → all_ten Cs ≡ true → AllTen Cs
all-ten-from [] e = tt
all-ten-from (C ∷ Cs) e = let p = and_parts (ten C) (all_ten Cs) e in (ten-from C p.0, all-ten-from Cs p.1)

pub all-ten-to : (Cs : List (List ℤ)) → AllTen Cs → all_ten Cs ≡ true
all-ten-to [] t = refl
all-ten-to (C ∷ Cs) t = and_from (ten C) (all_ten Cs) (ten-to C t.0) (all-ten-to Cs t.1)

pub holdable-from : (x : Node) → holdable x ≡ true → Holdable x
holdable-from (Head n p) e = tt
holdable-from (Keep C) e = ten-from C e
holdable-from (Split C) e = ten-from C e
holdable-from (New d T) e = let p = and_parts (fits32 d) (ten T) e in (fits-from d p.0, ten-from T p.1)
holdable-from (Leaf Cs) e = let p = and_parts _ (all_ten Cs) e in (eqb-true _ _ p.0, all-ten-from Cs p.1)
holdable-from None e = tt

pub holdable-to : (x : Node) → Holdable x → holdable x ≡ true
holdable-to (Head n p) h = refl
holdable-to (Keep C) h = ten-to C h
holdable-to (Split C) h = ten-to C h
holdable-to (New d T) h = and_from (fits32 d) (ten T) (fits-to d h.0) (ten-to T h.1)
holdable-to (Leaf Cs) h = and_from _ (all_ten Cs) (eq-eqb _ _ h.0) (all-ten-to Cs h.1)
holdable-to None h = refl

pub all_from : (xs : List Node) → all_holdable xs ≡ true → AllHoldable xs
all_from [] e = tt
all_from (x ∷ xs) e = let p = and_parts (holdable x) (all_holdable xs) e in (holdable-from x p.0, all_from xs p.1)

pub all-to : (xs : List Node) → AllHoldable xs → all_holdable xs ≡ true
all-to [] h = refl
all-to (x ∷ xs) h = and_from (holdable x) (all_holdable xs) (holdable-to x h.0) (all-to xs h.1)
