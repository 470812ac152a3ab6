-- Whole numbers: division that rounds down, greatest common divisors, the range.
use Rattle.std.specs.Prelude.{◌≡◌, ℕ, zero, suc, ◌-◌, ◌/◌, ◌%◌, ◌^◌, ◌≤◌, Bool, true, false, List, [], ◌∷◌, replicate, ℤ, pos, negsuc, ◌*ℤ◌, int_div, nat_le, slice_index_or, unsigned_abs}
use Rattle.std.specs.List.{list_all}

-- the number at a place, 0 past the end
abbrev pub at : List ℤ → ℕ → ℤ
at xs k = slice_index_or xs k (pos 0)

-- so many zeros
abbrev pub zeros : ℕ → List ℤ
zeros n = replicate n (pos 0)

abbrev pub is_zero : ℤ → Bool
is_zero (pos zero) = true
is_zero (pos (suc n)) = false
is_zero (negsuc n) = false

-- each number is 0
abbrev pub all_zero : List ℤ → Bool
all_zero xs = list_all is_zero xs

-- a modulo d, for a divisor d of 1 or more: the number from 0 to d - 1 that differs from a by a multiple of d (`negsuc a` is -(a + 1))
abbrev pub modulo : ℤ → ℤ → ℤ
modulo (pos a) d = pos (a % unsigned_abs d)
modulo (negsuc a) d = pos (unsigned_abs d - 1 - a % unsigned_abs d)

-- a over d, rounded down
abbrev pub floor_div : ℤ → ℤ → ℤ
floor_div (pos a) d = pos (a / unsigned_abs d)
floor_div (negsuc a) d = negsuc (a / unsigned_abs d)

-- the same with the divisor first, for use on each number of a list; `quot_by` is for where d divides a
abbrev pub mod_by : ℤ → ℤ → ℤ
mod_by d a = modulo a d

abbrev pub floor_by : ℤ → ℤ → ℤ
floor_by d a = floor_div a d

abbrev pub quot_by : ℤ → ℤ → ℤ
quot_by d a = int_div a d

-- Euclid's greatest common divisor, with a count of steps that suffices at b + 1
abbrev pub gcd_in : ℕ → ℕ → ℕ → ℕ
gcd_in zero a b = a
gcd_in (suc n) a zero = a
gcd_in (suc n) a (suc b) = gcd_in n (suc b) (a % suc b)

abbrev pub gcd : ℕ → ℕ → ℕ
gcd a b = gcd_in (suc b) a b

-- the greatest common divisor of g and each number of a list
abbrev pub gcds : ℕ → List ℤ → ℕ
gcds g [] = g
gcds g (x ∷ xs) = gcds (gcd g (unsigned_abs x)) xs

-- g divides x, and each number of a list
abbrev pub Divides : ℕ → ℤ → Type 0
Divides g x = (q : ℤ) × (x ≡ pos g *ℤ q)

abbrev pub DividesAll : ℕ → List ℤ → Type 0
DividesAll g [] = Unit {0}
DividesAll g (x ∷ xs) = Divides g x × DividesAll g xs

-- from -2^30 to 2^30
abbrev pub in_range : ℤ → Bool
in_range x = nat_le (unsigned_abs x) (2 ^ 30)

abbrev pub within : List ℤ → Bool
within xs = list_all in_range xs

-- no number of the list is larger than m in size (past the end there is 0)
abbrev pub AllWithin : ℕ → List ℤ → Type 0
AllWithin m xs = (k : ℕ) → unsigned_abs (at xs k) ≤ m
