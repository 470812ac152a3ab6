-- Four bytes and back, and so for lists of numbers and of forms.
use Rattle.std.proofs.Common.{◌≡◌, ℕ, zero, suc, ◌+◌, ◌*◌, ◌/◌, ◌%◌, ◌^◌, ◌<◌, ◌≤◌, List, [], ◌∷◌, ◌++◌, length, get_or, drop, ℤ, sym, refl, ap, ◌∙◌, subst, ap₂, append_assoc, append-nil, arith, length-append, length-drop, to_z-of_z, w32, Fits, SFits, to_z, of_z, add-zero}
use mir.Facts.{Fits-of_z, of_z-to_z}
use Rattle.std.proofs.lemmas.List.{drop_all, drop_at, drop-drop, ext_get_or, get_or-drop}
use Rattle.page.specs.Words.{Bytes, Fit32, all_bytes, bytes, forms, forms_bytes, word, words}

digits : (n : ℕ) → n < 2 ^ 32 → n / 16777216 % 256 * 16777216 + n / 65536 % 256 * 65536 + n / 256 % 256 * 256 + n % 256 ≡ n
digits n h =
    let e : n / 65536 ≡ n / 256 / 256 = omega arith in
    let f : n / 16777216 ≡ n / 65536 / 256 = omega arith in
    let s : n / 16777216 % 256 ≡ n / 16777216 = omega arith in
    omega arith

pub word_bytes : (z : ℤ) (r : List ℕ) → SFits w32 z → word (bytes z ++ r) ≡ z
word_bytes z r f = ap (to_z w32) (digits (of_z w32 z) (Fits-of_z f).fits) ∙ to_z-of_z f

abbrev parts : ℕ → List ℕ
parts n = (n / 16777216 % 256) ∷ (n / 65536 % 256) ∷ (n / 256 % 256) ∷ (n % 256) ∷ []

pub bytes_word : (a b c d : ℕ) (r : List ℕ) → a < 256 → b < 256 → c < 256 → d < 256 → bytes (word (a ∷ b ∷ c ∷ d ∷ r)) ≡ a ∷ b ∷ c ∷ d ∷ []
bytes_word a b c d r ha hb hc hd =
    let n : ℕ = a * 16777216 + b * 65536 + c * 256 + d in
    let f : Fits w32 n = record { fits = omega arith } in
    let p : n / 16777216 % 256 ≡ a = omega arith in
    let q : n / 65536 % 256 ≡ b = omega arith in
    let s : n / 256 % 256 ≡ c = omega arith in
    let t : n % 256 ≡ d = omega arith in
    ap parts (of_z-to_z f) ∙ (λ i. p i ∷ q i ∷ s i ∷ t i ∷ [])

-- the numbers in front of more bytes
pub words-front : (n : ℕ) (b : List ℕ) → Bytes b → 4 * n ≤ length b → (b ≡ all_bytes (words n b) ++ drop (4 * n) b) × Bytes (drop (4 * n) b)
unfolding words
words-front zero b h l = (refl, h)
words-front (suc n) [] h l = absurd (let no : ⊥ = omega arith in no)
words-front (suc n) (a ∷ []) h l = absurd (let no : ⊥ = omega arith in no)
words-front (suc n) (a ∷ b ∷ []) h l = absurd (let no : ⊥ = omega arith in no)
words-front (suc n) (a ∷ b ∷ c ∷ []) h l = absurd (let no : ⊥ = omega arith in no)
words-front (suc n) (a ∷ b ∷ c ∷ d ∷ r) h l =
    let e : 4 * suc n ≡ 4 + 4 * n = omega arith in
    let m : drop (4 * suc n) (a ∷ b ∷ c ∷ d ∷ r) ≡ drop (4 * n) r = ap (λ k. drop k (a ∷ b ∷ c ∷ d ∷ r)) e ∙ sym (drop-drop (4 * n) 4 (a ∷ b ∷ c ∷ d ∷ r)) in
    let f = words-front n r h.1.1.1.1 (omega arith) in
    (ap₂ ◌++◌ (sym (bytes_word a b c d r h.0 h.1.0 h.1.1.0 h.1.1.1.0)) (f.0 ∙ ap (λ q. all_bytes (words n r) ++ q) (sym m)), subst Bytes (sym m) f.1)

pub words-exact : (n : ℕ) (b : List ℕ) → Bytes b → length b ≡ 4 * n → all_bytes (words n b) ≡ b
words-exact n b h l =
    let f = words-front n b h (omega arith) in
    sym (f.0 ∙ ap (λ q. all_bytes (words n b) ++ q) (drop_all (4 * n) b (omega arith)) ∙ append-nil (all_bytes (words n b)))

pub forms-front : (c : ℕ) (b : List ℕ) → Bytes b → 40 * c ≤ length b → b ≡ forms_bytes (forms c b) ++ drop (40 * c) b
unfolding forms
forms-front zero b h l = refl
forms-front (suc c) b h l =
    let w = words-front 10 b h (omega arith) in
    let d = length-drop 40 b in
    let f = forms-front c (drop 40 b) w.1 (omega (arith, d)) in
    let e : 40 + 40 * c ≡ 40 * suc c = omega arith in
    w.0 ∙ ap (λ q. all_bytes (words 10 b) ++ q) (f ∙ ap (λ q. forms_bytes (forms c (drop 40 b)) ++ q) (drop-drop (40 * c) 40 b ∙ ap (λ k. drop k b) e))
    ∙ sym (append_assoc (all_bytes (words 10 b)) (forms_bytes (forms c (drop 40 b))) (drop (40 * suc c) b))

pub forms-exact : (c : ℕ) (b : List ℕ) → Bytes b → length b ≡ 40 * c → forms_bytes (forms c b) ≡ b
forms-exact c b h l =
    sym (forms-front c b h (omega arith) ∙ ap (λ q. forms_bytes (forms c b) ++ q) (drop_all (40 * c) b (omega arith)) ∙ append-nil (forms_bytes (forms c b)))

-- ---- and the other way

pub length-words : (n : ℕ) (b : List ℕ) → length (words n b) ≡ n
unfolding words
length-words zero b = refl
length-words (suc n) b = ap suc (length-words n (drop 4 b))

pub length-forms : (c : ℕ) (b : List ℕ) → length (forms c b) ≡ c
unfolding forms
length-forms zero b = refl
length-forms (suc c) b = ap suc (length-forms c (drop 40 b))

pub length-all : (zs : List ℤ) → length (all_bytes zs) ≡ 4 * length zs
length-all [] = refl
length-all (z ∷ zs) = let e = length-all zs in omega (arith, e)

pub words_of : (zs : List ℤ) (r : List ℕ) → Fit32 zs → words (length zs) (all_bytes zs ++ r) ≡ zs
unfolding words
words_of [] r h = refl
words_of (z ∷ zs) r h = ap₂ ◌∷◌ (word_bytes z (all_bytes zs ++ r) h.0) (words_of zs r h.1)

-- ten numbers that fit
abbrev pub Ten : List ℤ → Type 0
Ten C = (length C ≡ 10) × Fit32 C

abbrev pub AllTen : List (List ℤ) → Type 0
AllTen [] = Unit {0}
AllTen (C ∷ Cs) = Ten C × AllTen Cs

pub form-of : (C : List ℤ) (r : List ℕ) → Ten C → words 10 (all_bytes C ++ r) ≡ C
form-of C r t = ap (λ n. words n (all_bytes C ++ r)) (sym t.0) ∙ words_of C r t.1

pub length-form : (C : List ℤ) → Ten C → length (all_bytes C) ≡ 40
length-form C t = let e = length-all C in omega (arith, e, t.0)

pub length-six : (Cs : List (List ℤ)) → AllTen Cs → length (forms_bytes Cs) ≡ 40 * length Cs
length-six [] h = refl
length-six (C ∷ Cs) h = let a = length-form C h.0 in let b = length-six Cs h.1 in let e = length-append (all_bytes C) (forms_bytes Cs) in omega (arith, a, b, e)

pub forms-of : (Cs : List (List ℤ)) (r : List ℕ) → AllTen Cs → forms (length Cs) (forms_bytes Cs ++ r) ≡ Cs
unfolding forms
forms-of [] r h = refl
forms-of (C ∷ Cs) r h =
    let e = append_assoc (all_bytes C) (forms_bytes Cs) r in
    ap₂ ◌∷◌ (ap (words 10) e ∙ form-of C (forms_bytes Cs ++ r) h.0)
    (ap (forms (length Cs)) (ap (drop 40) e ∙ drop_at (all_bytes C) (forms_bytes Cs ++ r) 40 (length-form C h.0)) ∙ forms-of Cs r h.1)

-- ---- numbers by their places

pub word-drop : (b : List ℕ) (i : ℕ) → word (drop i b) ≡ to_z w32 (get_or b i 0 * 16777216 + get_or b (i + 1) 0 * 65536 + get_or b (i + 2) 0 * 256 + get_or b (i + 3) 0)
word-drop b i = simp (get_or-drop, add-zero)

get_d_words : (n : ℕ) (b : List ℕ) (k : ℕ) (d : ℤ) → k < n → get_or (words n b) k d ≡ word (drop (4 * k) b)
unfolding words
get_d_words zero b k d h = absurd (let no : ⊥ = omega arith in no)
get_d_words (suc n) b zero d h = refl
get_d_words (suc n) b (suc k) d h =
    let e : 4 + 4 * k ≡ 4 * suc k = omega arith in
    get_d_words n (drop 4 b) k d (omega arith) ∙ ap word (drop-drop (4 * k) 4 b ∙ ap (λ i. drop i b) e)

-- a list whose places hold the numbers of b is `words`
pub words-all : (n : ℕ) (b : List ℕ) (out : List ℤ) (d : ℤ) → length out ≡ n → ((k : ℕ) → k < n → get_or out k d ≡ word (drop (4 * k) b)) → out ≡ words n b
words-all n b out d e h =
    let l = length-words n b in
    ext_get_or d out (words n b) (e ∙ sym l) (λ k lt. let m : k < n = omega arith in h k m ∙ sym (get_d_words n b k d m))

pub get_d-forms : (c : ℕ) (b : List ℕ) (k : ℕ) (d : List ℤ) → k < c → get_or (forms c b) k d ≡ words 10 (drop (40 * k) b)
unfolding forms
get_d-forms zero b k d h = absurd (let no : ⊥ = omega arith in no)
get_d-forms (suc c) b zero d h = refl
get_d-forms (suc c) b (suc k) d h =
    let e : 40 + 40 * k ≡ 40 * suc k = omega arith in
    get_d-forms c (drop 40 b) k d (omega arith) ∙ ap (words 10) (drop-drop (40 * k) 40 b ∙ ap (λ i. drop i b) e)

pub forms-all : (c : ℕ) (b : List ℕ) (out : List (List ℤ)) (d : List ℤ) → length out ≡ c → ((k : ℕ) → k < c → get_or out k d ≡ words 10 (drop (40 * k) b)) → out ≡ forms c b
forms-all c b out d e h =
    let l = length-forms c b in
    ext_get_or d out (forms c b) (e ∙ sym l) (λ k lt. let m : k < c = omega arith in h k m ∙ sym (get_d-forms c b k d m))
