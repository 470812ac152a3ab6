-- Bytes written over others.
use Rattle.std.proofs.Common.{◌≡◌, ℕ, ◌+◌, ◌≤◌, List, ◌++◌, length, take, drop, sym, ap, ◌∙◌, append_assoc, length-append}
use Rattle.std.proofs.lemmas.List.{length-take-le, take_at}
use Rattle.page.specs.Records.{pasted}

-- what stands up to their end
pub take-pasted : (at : ℕ) (xs bs : List ℕ) → at ≤ length bs → take (at + length xs) (pasted at xs bs) ≡ take at bs ++ xs
take-pasted at xs bs h =
    ap (take (at + length xs)) (sym (append_assoc (take at bs) xs (drop (at + length xs) bs)))
    ∙ take_at (take at bs ++ xs) (drop (at + length xs) bs) (at + length xs) (length-append (take at bs) xs ∙ ap (λ m. m + length xs) (length-take-le at bs h))
