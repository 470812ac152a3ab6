-- Words of a text, and the numbers that they spell. A text is the list of its bytes.
use Rattle.std.specs.Prelude.{ℕ, suc, ◌+◌, ◌-◌, ◌*◌, Bool, cond, ◌&&◌, ◌||◌, List, [], ◌∷◌, length, take, drop, ℤ, pos, neg_ℤ, Some, None, Option, ◌==◌, nat_le}

-- a space, a tab, a line feed or a carriage return
abbrev pub is_blank : ℕ → Bool
is_blank b = b == 32 || (b == 9 || (b == 10 || b == 13))

-- the text without the blanks that it begins with
abbrev pub after_blanks : List ℕ → List ℕ
after_blanks [] = []
after_blanks (b ∷ bs) = cond (is_blank b) (after_blanks bs) (b ∷ bs)

-- how many bytes stand before the first blank
abbrev pub word_length : List ℕ → ℕ
word_length [] = 0
word_length (b ∷ bs) = cond (is_blank b) 0 (suc (word_length bs))

-- the first word, empty where there is none, and what stands after it
abbrev pub first_word : List ℕ → List ℕ
first_word text = take (word_length (after_blanks text)) (after_blanks text)

abbrev pub after_word : List ℕ → List ℕ
after_word text = drop (word_length (after_blanks text)) (after_blanks text)

-- what a digit from 0 (byte 48) to 9 (byte 57) counts
abbrev pub digit_of : ℕ → Option ℕ
digit_of b = cond (nat_le 48 b && nat_le b 57) (Some (b - 48)) None

-- the number that x spells with these digits after it; none where a byte is no digit
abbrev pub spelled_from : ℕ → List ℕ → Option ℕ
spelled_from x [] = Some x
spelled_from x (b ∷ bs) = elim (digit_of b) [ Some d ↦ spelled_from (x * 10 + d) bs | None ↦ None ]

-- the number that 1 to 9 digits spell
abbrev pub natural_of : List ℕ → Option ℕ
natural_of ds = cond (nat_le 1 (length ds) && nat_le (length ds) 9) (spelled_from 0 ds) None

-- the same as a whole number, and with a minus
abbrev pub plus : Option ℕ → Option ℤ
plus None = None
plus (Some x) = Some (pos x)

abbrev pub minus : Option ℕ → Option ℤ
minus None = None
minus (Some x) = Some (neg_ℤ (pos x))

-- the number that a word spells: 1 to 9 digits, a minus (byte 45) before them allowed
abbrev pub number_of : List ℕ → Option ℤ
number_of [] = None
number_of (b ∷ bs) = cond (b == 45) (minus (natural_of bs)) (plus (natural_of (b ∷ bs)))
