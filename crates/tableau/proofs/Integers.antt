-- Products of integers with the factor last.
use Rattle.std.proofs.Common.{◌≡◌, ℤ, pos, ◌*ℤ◌, ◌≤ℤ◌, ◌<ℤ◌, sym, ap, ◌∙◌, arith}
use lib.IntN.{*ℤ_comm}
use borrow.Author.Differences.{ints}
use Rattle.algebra.proofs.Integers.{*ℤ-assoc, cancel-l, le-mul, lt-mul, lt-mul-cancel}

pub mul-swap : (a b c : ℤ) → (a *ℤ b) *ℤ c ≡ (a *ℤ c) *ℤ b
mul-swap a b c = *ℤ-assoc a b c ∙ ap (λ x. a *ℤ x) (*ℤ_comm b c) ∙ sym (*ℤ-assoc a c b)

pub mul-le : (a b c : ℤ) → pos 0 <ℤ c → a ≤ℤ b → (a *ℤ c) ≤ℤ (b *ℤ c)
mul-le a b c h k = rw (*ℤ_comm a c, *ℤ_comm b c) (le-mul c a b (omega (arith, ints)) k)

pub mul-lt : (a b c : ℤ) → pos 0 <ℤ c → a <ℤ b → (a *ℤ c) <ℤ (b *ℤ c)
mul-lt a b c h k = rw (*ℤ_comm a c, *ℤ_comm b c) (lt-mul c a b h k)

pub mul-lt-cancel : (a b c : ℤ) → pos 0 <ℤ c → (a *ℤ c) <ℤ (b *ℤ c) → a <ℤ b
mul-lt-cancel a b c h k = lt-mul-cancel c a b h (rw (*ℤ_comm a c, *ℤ_comm b c) at k)

pub mul-cancel : (a b c : ℤ) → pos 0 <ℤ c → a *ℤ c ≡ b *ℤ c → a ≡ b
mul-cancel a b c h e = cancel-l c a b h (*ℤ_comm c a ∙ e ∙ *ℤ_comm b c)
