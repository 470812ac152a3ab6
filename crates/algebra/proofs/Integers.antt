-- Ring and order laws of ℤ.
use Rattle.std.proofs.Common.{◌≡◌, ◌+◌, ◌*◌, ◌<◌, ◌≤◌, ℤ, pos, negsuc, ◌+ℤ◌, ◌*ℤ◌, neg_ℤ, ◌≤ℤ◌, ◌<ℤ◌, sym, refl, ap, ◌∙◌, mul-le-mul_left, arith}
use native.Mathlib.Nat.{eq_of_mul-eq-mul_left, le_of_mul-le-mul_left, mul-lt-mul_of_pos_left, lt_of_mul-lt-mul_left}
use lib.IntN.{*ℤ_comm, neg_ℤ-+ℤ, neg_ℤ-neg_ℤ, +ℤ_assoc, +ℤ_comm}
use borrow.Author.Differences.{ints, up, down, same_in, product_is, sum_is_lem, neg_is}

pub up-mul : (a b : ℤ) → up (a *ℤ b) ≡ up a * up b + down a * down b
up-mul a b = (product_is a b).0

pub down-mul : (a b : ℤ) → down (a *ℤ b) ≡ up a * down b + down a * up b
down-mul a b = (product_is a b).1

pub up_neg : (a : ℤ) → up (neg_ℤ a) ≡ down a
up_neg a = (neg_is a).0

pub down-neg : (a : ℤ) → down (neg_ℤ a) ≡ up a
down-neg a = (neg_is a).1

pub *ℤ-assoc : (a b c : ℤ) → (a *ℤ b) *ℤ c ≡ a *ℤ (b *ℤ c)
*ℤ-assoc a b c = same_in _ _ (simp (up-mul, down-mul) (omega arith))

pub dist-l : (a b c : ℤ) → a *ℤ (b +ℤ c) ≡ a *ℤ b +ℤ a *ℤ c
dist-l a b c = omega (arith, ints, ap (λ n. up a * n) (sum_is_lem b c), ap (λ n. down a * n) (sum_is_lem b c))

pub dist-r : (a b c : ℤ) → (a +ℤ b) *ℤ c ≡ a *ℤ c +ℤ b *ℤ c
dist-r a b c = *ℤ_comm (a +ℤ b) c ∙ dist-l c a b ∙ rw (*ℤ_comm c a, *ℤ_comm c b) refl

pub neg-l : (a b : ℤ) → neg_ℤ a *ℤ b ≡ neg_ℤ (a *ℤ b)
neg-l a b = same_in _ _ (simp (up-mul, down-mul, up_neg, down-neg) (omega arith))

pub neg-r : (a b : ℤ) → a *ℤ neg_ℤ b ≡ neg_ℤ (a *ℤ b)
neg-r a b = same_in _ _ (simp (up-mul, down-mul, up_neg, down-neg) (omega arith))

pub one-l : (a : ℤ) → pos 1 *ℤ a ≡ a
one-l a = same_in _ _ (simp (up-mul, down-mul) (omega arith))

-- cancellation
up_pos : (a : ℤ) → pos 0 <ℤ a → (0 < up a) × (down a ≡ 0)
up_pos (pos n) h = (omega (arith, ints), refl)
up_pos (negsuc n) h = absurd (omega (arith, ints))

pub cancel-l : (a b c : ℤ) → pos 0 <ℤ a → a *ℤ b ≡ a *ℤ c → b ≡ c
cancel-l a b c h e =
    let p = up_pos a h in
    let q : up a * (up b + down c) ≡ up a * (up c + down b) = omega (arith, ints, p.1, ap (λ n. n * up b) p.1, ap (λ n. n * up c) p.1, ap (λ n. n * down b) p.1, ap (λ n. n * down c) p.1) in
    same_in b c (eq_of_mul-eq-mul_left (up a) p.0 _ _ q)

-- order
pub le-mul : (a b c : ℤ) → pos 0 ≤ℤ a → b ≤ℤ c → (a *ℤ b) ≤ℤ (a *ℤ c)
le-mul (pos n) b c h k =
    let q : n * (up b + down c) ≤ n * (up c + down b) = mul-le-mul_left n (omega (arith, ints)) in
    omega (arith, ints)
le-mul (negsuc n) b c h k = absurd (omega (arith, ints))

pub le-mul-cancel : (a b c : ℤ) → pos 0 <ℤ a → (a *ℤ b) ≤ℤ (a *ℤ c) → b ≤ℤ c
le-mul-cancel (pos n) b c h k =
    let q : n * (up b + down c) ≤ n * (up c + down b) = omega (arith, ints) in
    let r : 0 < n = omega (arith, ints) in
    let s : up b + down c ≤ up c + down b = le_of_mul-le-mul_left q r in
    omega (arith, ints)
le-mul-cancel (negsuc n) b c h k = absurd (omega (arith, ints))

pub lt-mul : (a b c : ℤ) → pos 0 <ℤ a → b <ℤ c → (a *ℤ b) <ℤ (a *ℤ c)
lt-mul (pos n) b c h k =
    let r : 0 < n = omega (arith, ints) in
    let s : up b + down c < up c + down b = omega (arith, ints) in
    let q : n * (up b + down c) < n * (up c + down b) = mul-lt-mul_of_pos_left s r in
    omega (arith, ints)
lt-mul (negsuc n) b c h k = absurd (omega (arith, ints))

pub nonneg-mul : (a b : ℤ) → pos 0 ≤ℤ a → pos 0 ≤ℤ b → pos 0 ≤ℤ (a *ℤ b)
nonneg-mul (pos m) (pos n) h k = omega (arith, ints)
nonneg-mul (pos m) (negsuc n) h k = absurd (omega (arith, ints))
nonneg-mul (negsuc m) b h k = absurd (omega (arith, ints))

pub mul_left_comm : (a b c : ℤ) → a *ℤ (b *ℤ c) ≡ b *ℤ (a *ℤ c)
mul_left_comm a b c = sym (*ℤ-assoc a b c) ∙ ap (λ x. x *ℤ c) (*ℤ_comm a b) ∙ *ℤ-assoc b a c

pub add_left_comm : (a b c : ℤ) → a +ℤ (b +ℤ c) ≡ b +ℤ (a +ℤ c)
add_left_comm a b c = omega (arith, ints)

-- multiply out and sort both sides of an equation; no cancellation
pub ruleset ring-sort = (dist-l, dist-r, neg-l, neg-r, neg_ℤ-+ℤ, neg_ℤ-neg_ℤ, *ℤ-assoc, *ℤ_comm, mul_left_comm, +ℤ_assoc, +ℤ_comm, add_left_comm)

pub lt-mul-cancel : (a b c : ℤ) → pos 0 <ℤ a → (a *ℤ b) <ℤ (a *ℤ c) → b <ℤ c
lt-mul-cancel (pos n) b c h k =
    let q : n * (up b + down c) < n * (up c + down b) = omega (arith, ints) in
    let s : up b + down c < up c + down b = lt_of_mul-lt-mul_left n q in
    omega (arith, ints)
lt-mul-cancel (negsuc n) b c h k = absurd (omega (arith, ints))
