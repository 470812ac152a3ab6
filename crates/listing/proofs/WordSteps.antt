-- Steps along a text, and along the digits of a number.
use Rattle.std.proofs.Common.{◌≡◌, ℕ, suc, ◌+◌, ◌*◌, ◌^◌, ◌<◌, ◌≤◌, Bool, true, false, not, cond, List, [], ◌∷◌, drop, refl, ap, ◌∙◌, arith}
use native.Mathlib.Nat.{pow-le-pow_right}
use Rattle.std.specs.List.{prefix_len}
use Rattle.listing.specs.Words.{is_blank, after_blanks, word_length}

-- the first byte that is no blank, and the first that is one, as counts of the bytes before it
pub blanks-dropped : (text : List ℕ) → after_blanks text ≡ drop (prefix_len is_blank text) text
blanks-dropped [] = refl
blanks-dropped (b ∷ bs) = go (is_blank b) (blanks-dropped bs)
  where
    go : (t : Bool) → after_blanks bs ≡ drop (prefix_len is_blank bs) bs → cond t (after_blanks bs) (b ∷ bs) ≡ drop (cond t (1 + prefix_len is_blank bs) 0) (b ∷ bs)
    go true e = let n = prefix_len is_blank bs in let s : suc n ≡ 1 + n = omega arith in e ∙ ap (λ m. drop m (b ∷ bs)) s
    go false e = refl

pub word-found : (text : List ℕ) → word_length text ≡ prefix_len (λ x. not (is_blank x)) text
word-found [] = refl
word-found (b ∷ bs) = go (is_blank b) (word-found bs)
  where
    go : (t : Bool) → word_length bs ≡ prefix_len (λ x. not (is_blank x)) bs → cond t 0 (suc (word_length bs)) ≡ cond (not t) (1 + prefix_len (λ x. not (is_blank x)) bs) 0
    go true e = refl
    go false e = omega arith

-- i digits spell less than 10 ^ i, and nine of them a number that fits
pub nine-fit : (i x d : ℕ) → x < 10 ^ i → i < 9 → d ≤ 9 → x * 10 + d < 1000000000
nine-fit i x d h k e = let l : i ≤ 8 = omega arith in let p : 10 ^ i ≤ 10 ^ 8 = pow-le-pow_right (omega arith) l in omega arith
