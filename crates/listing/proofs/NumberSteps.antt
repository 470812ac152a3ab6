-- Steps along the numbers of a text.
use Rattle.std.proofs.Common.{◌≡◌, ℕ, suc, ◌+◌, ◌-◌, ◌<◌, List, [], ◌∷◌, ◌++◌, length, take, set, ℤ, Some, None, Ok, Err, Option, Result, sym, refl, ap, ◌∙◌, arith}
use Rattle.std.proofs.lemmas.List.{append_assoc, take_more_set}
use Rattle.base.specs.declared.refusal.Refusal.{Refusal}
use Rattle.base.specs.declared.refusal.Refusal.TheVariants.{Listing}
use Rattle.listing.specs.Words.{first_word, after_word, number_of}
use Rattle.listing.specs.Listings.{and_then, Numbers, with, first_numbers}

-- the numbers so far, before those that are still to come
abbrev pub after : List ℤ → Numbers → Numbers
after xs t = record { values = xs ++ t.values; rest = t.rest }

abbrev pub then : List ℤ → Result Numbers Refusal → Result Numbers Refusal
then xs r = and_then r (λ t. Ok (after xs t))

then-with : (xs : List ℤ) (x : ℤ) (r : Result Numbers Refusal) → then xs (and_then r (λ t. Ok (with x t))) ≡ then (xs ++ x ∷ []) r
then-with xs x (Ok t) = ap (λ ys. Ok (record { values = ys; rest = t.rest })) (sym (append_assoc xs (x ∷ []) t.values))
then-with xs x (Err e) = refl

-- what comes of a text by the number that its first word spells
abbrev turn : ℕ → List ℕ → Option ℤ → Result Numbers Refusal
turn more rest (Some x) = and_then (first_numbers more rest) (λ t. Ok (with x t))
turn more rest None = Err Listing

number_read : (more : ℕ) (text rest : List ℕ) (xs : List ℤ) (x : ℤ) → number_of (first_word text) ≡ Some x → rest ≡ after_word text → then xs (first_numbers (suc more) text) ≡ then (xs ++ x ∷ []) (first_numbers more rest)
number_read more text rest xs x e f =
    ap (λ o. then xs (turn more (after_word text) o)) e ∙ (then-with xs x (first_numbers more (after_word text)) ∙ ap (λ t. then (xs ++ x ∷ []) (first_numbers more t)) (sym f))

-- the place at i filled
pub place-filled : (n i : ℕ) (places : List ℤ) (text rest : List ℕ) (x : ℤ) → i < n → i < length places → number_of (first_word text) ≡ Some x → rest ≡ after_word text → then (take i places) (first_numbers (n - i) text) ≡ then (take (i + 1) (set places i x)) (first_numbers (n - (i + 1)) rest)
place-filled n i places text rest x h k e f =
    let one : n - i ≡ suc (n - (i + 1)) = omega arith in
    ap (λ m. then (take i places) (first_numbers m text)) one ∙ (number_read (n - (i + 1)) text rest (take i places) x e f ∙ ap (λ xs. then xs (first_numbers (n - (i + 1)) rest)) (sym (take_more_set places i x k)))

pub no_number : (n i : ℕ) (text : List ℕ) (xs : List ℤ) → i < n → number_of (first_word text) ≡ None → then xs (first_numbers (n - i) text) ≡ Err Listing
no_number n i text xs h e =
    let one : n - i ≡ suc (n - (i + 1)) = omega arith in
    ap (λ m. then xs (first_numbers m text)) one ∙ ap (λ o. then xs (turn (n - (i + 1)) (after_word text) o)) e
