-- Numbers and forms as bytes, number by number, and joined.
use Rattle.std.proofs.Common.{◌≡◌, ℕ, suc, ◌<◌, List, [], ◌∷◌, ◌++◌, length, get_or, set, map, true, ℤ, pos, sym, refl, ap, ◌∙◌, ap₂, append-nil, arith, w32, SFits}
use Rattle.std.proofs.lemmas.Bool.{and_from}
use Rattle.std.proofs.lemmas.List.{ext_get_or, get_or-map, length-map}
use Rattle.std.proofs.lemmas.List.Concat.{flat_map-append}
use Rattle.std.specs.List.{flat_map}
use Rattle.page.specs.Records.{all_ten, ten}
use Rattle.page.specs.Words.{Fit32, all_bytes, bytes, forms_bytes}

-- what `map` leaves, place by place
pub mapped : {A B : Type 0} (f : A → B) (xs : List A) (ys : List B) (n : ℕ) (d : A) (e : B) → length xs ≡ n → length ys ≡ n → ((i : ℕ) → i < n → get_or ys i e ≡ f (get_or xs i d)) → ys ≡ map f xs
mapped f xs ys n d e l m h =
    let k = length-map xs f in
    ext_get_or e ys (map f xs) (omega arith) (λ i lt. let a : i < n = omega arith in h i a ∙ sym (get_or-map f xs i d e (omega arith)))

-- the byte of a kind
pub first_byte : (xs : List ℕ) (k : ℕ) → length xs ≡ 1 → set xs 0 k ≡ k ∷ []
first_byte [] k e = absurd (omega arith)
first_byte (x ∷ []) k e = refl
first_byte (x ∷ y ∷ xs) k e = absurd (omega arith)

-- each form is of ten numbers
pub ten-all : (Cs : List (List ℤ)) → ((i : ℕ) → i < length Cs → ten (get_or Cs i []) ≡ true) → all_ten Cs ≡ true
ten-all [] h = refl
ten-all (C ∷ Cs) h = and_from (ten C) (all_ten Cs) (h 0 (omega arith)) (ten-all Cs (λ i l. h (suc i) (omega arith)))

-- each number fits
pub fit-all : (C : List ℤ) → ((i : ℕ) → i < length C → SFits w32 (get_or C i (pos 0))) → Fit32 C
fit-all [] h = tt
fit-all (z ∷ zs) h = (h 0 (omega arith), fit-all zs (λ i l. h (suc i) (omega arith)))

pub numbers-joined : (C : List ℤ) → flat_map (λ x. x) (map bytes C) ≡ all_bytes C
numbers-joined [] = refl
numbers-joined (z ∷ zs) = ap (λ l. bytes z ++ l) (numbers-joined zs)

pub forms-joined : (Cs : List (List ℤ)) → flat_map (λ x. x) (flat_map (λ x. x) (map (map bytes) Cs)) ≡ forms_bytes Cs
forms-joined [] = refl
forms-joined (C ∷ Cs) = flat_map-append (λ x. x) (map bytes C) (flat_map (λ x. x) (map (map bytes) Cs)) ∙ ap₂ ◌++◌ (numbers-joined C) (forms-joined Cs)

-- six forms, one after another
pub six-joined : (Cs : List (List ℤ)) → length Cs ≡ 6 → all_bytes (get_or Cs 0 []) ++ (all_bytes (get_or Cs 1 []) ++ (all_bytes (get_or Cs 2 []) ++ (all_bytes (get_or Cs 3 []) ++ (all_bytes (get_or Cs 4 []) ++ all_bytes (get_or Cs 5 []))))) ≡ forms_bytes Cs
six-joined [] h = absurd (omega arith)
six-joined (a ∷ []) h = absurd (omega arith)
six-joined (a ∷ b ∷ []) h = absurd (omega arith)
six-joined (a ∷ b ∷ c ∷ []) h = absurd (omega arith)
six-joined (a ∷ b ∷ c ∷ d ∷ []) h = absurd (omega arith)
six-joined (a ∷ b ∷ c ∷ d ∷ e ∷ []) h = absurd (omega arith)
six-joined (a ∷ b ∷ c ∷ d ∷ e ∷ f ∷ []) h = ap (λ l. all_bytes a ++ (all_bytes b ++ (all_bytes c ++ (all_bytes d ++ (all_bytes e ++ l))))) (sym (append-nil (all_bytes f)))
six-joined (a ∷ b ∷ c ∷ d ∷ e ∷ f ∷ g ∷ rest) h = absurd (omega arith)

pub six-ten : (Cs : List (List ℤ)) → length Cs ≡ 6 → ten (get_or Cs 0 []) ≡ true → ten (get_or Cs 1 []) ≡ true → ten (get_or Cs 2 []) ≡ true → ten (get_or Cs 3 []) ≡ true → ten (get_or Cs 4 []) ≡ true → ten (get_or Cs 5 []) ≡ true → all_ten Cs ≡ true
six-ten [] h p q r s t u = absurd (omega arith)
six-ten (a ∷ []) h p q r s t u = absurd (omega arith)
six-ten (a ∷ b ∷ []) h p q r s t u = absurd (omega arith)
six-ten (a ∷ b ∷ c ∷ []) h p q r s t u = absurd (omega arith)
six-ten (a ∷ b ∷ c ∷ d ∷ []) h p q r s t u = absurd (omega arith)
six-ten (a ∷ b ∷ c ∷ d ∷ e ∷ []) h p q r s t u = absurd (omega arith)
six-ten (a ∷ b ∷ c ∷ d ∷ e ∷ f ∷ []) h p q r s t u = and_from _ _ p (and_from _ _ q (and_from _ _ r (and_from _ _ s (and_from _ _ t (and_from _ _ u refl)))))
six-ten (a ∷ b ∷ c ∷ d ∷ e ∷ f ∷ g ∷ rest) h p q r s t u = absurd (omega arith)
