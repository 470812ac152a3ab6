-- Numbers and forms read chunk by chunk.
use Rattle.std.proofs.Common.{◌≡◌, ℕ, zero, suc, ◌+◌, ◌*◌, ◌<◌, List, [], ◌∷◌, get_or, take, drop, refl, ap, ◌∙◌, subst, sym, ap₂, mul-suc, arith}
use Rattle.std.proofs.lemmas.List.{drop-drop, drop-take}
use Rattle.std.specs.Simd.{first_chunks}
use Rattle.page.specs.Words.{word, words}

pub chunk-at : (n c : ℕ) (b : List ℕ) (k : ℕ) → k < c → get_or (first_chunks n c b) k [] ≡ take n (drop (n * k) b)
chunk-at n zero b k h = absurd (let no : ⊥ = omega arith in no)
chunk-at n (suc c) b zero h = let z : 0 ≡ n * 0 = omega arith in ap (λ i. take n (drop i b)) z
chunk-at n (suc c) b (suc k) h =
    let z : n + n * k ≡ n * suc k = omega (arith, mul-suc n k) in
    chunk-at n c (drop n b) k (omega arith) ∙ ap (take n) (drop-drop (n * k) n b ∙ ap (λ i. drop i b) z)

word-take : (m : ℕ) (b : List ℕ) → word (take (suc (suc (suc (suc m)))) b) ≡ word b
word-take m [] = refl
word-take m (x ∷ []) = refl
word-take m (x ∷ y ∷ []) = refl
word-take m (x ∷ y ∷ z ∷ []) = refl
word-take m (x ∷ y ∷ z ∷ w ∷ r) = refl

pub words-take : (n r : ℕ) (b : List ℕ) → words n (take (4 * n + r) b) ≡ words n b
unfolding words
words-take zero r b = refl
words-take (suc n) r b =
    let m : 4 * suc n + r ≡ suc (suc (suc (suc (4 * n + r)))) = omega arith in
    let f : suc (suc (suc (suc (4 * n + r)))) ≡ 4 + (4 * n + r) = omega arith in
    subst (λ i. words (suc n) (take i b) ≡ words (suc n) b) (sym m) (ap₂ ◌∷◌ (word-take (4 * n + r) b) (ap (λ i. words n (drop 4 (take i b))) f ∙ ap (words n) (drop-take 4 (4 * n + r) b) ∙ words-take n r (drop 4 b)))

-- one word, one form
pub word-at : (c : ℕ) (b : List ℕ) (k : ℕ) → k < c → word (get_or (first_chunks 4 c b) k []) ≡ word (drop (4 * k) b)
word-at c b k h = ap word (chunk-at 4 c b k h) ∙ word-take 0 (drop (4 * k) b)

pub form-at : (c : ℕ) (b : List ℕ) (k : ℕ) → k < c → words 10 (get_or (first_chunks 40 c b) k []) ≡ words 10 (drop (40 * k) b)
form-at c b k h = ap (words 10) (chunk-at 40 c b k h) ∙ words-take 10 0 (drop (40 * k) b)
