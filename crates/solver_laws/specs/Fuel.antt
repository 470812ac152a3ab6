-- What fuel does to a solve, its system and the length of its work table being the same: more fuel never changes an answer, less only runs out.
use Rattle.std.specs.Prelude.{◌≡◌, ℕ, ℤ, pos, ◌≤ℤ◌, ◌<ℤ◌, Ok, Err}
use Rattle.base.specs.declared.refusal.Met.{Met}
use Rattle.base.specs.declared.refusal.Refusal.TheVariants.{FuelSpent}
use Rattle.source.specs.Systems.{System}
use Rattle.tree.specs.Trees.{Tree}
use Rattle.solver.specs.declared.count.Count.{Count}
use Rattle.solver.specs.declared.count.Stopped.{Stopped}
use Rattle.solver.specs.Runs.{Outcome, stopped}
use Rattle.solver.specs.Solves.{solved}

-- refused by 24, fuel spent, with whatever values and count
abbrev pub Spent : Outcome Tree → Type 0
Spent o = (m : Met) × (c : Count) × (o ≡ Err (stopped (FuelSpent m) c))

-- accepted under some fuel: the same tree and counts under each fuel that allows its steps
abbrev pub Enough : Type 0
Enough =
    (S : System) (room : ℕ) (fuel fuel' : ℤ) (t : Tree) (c : Count) → solved S fuel room ≡ Ok (t, c) →
    pos c.steps ≤ℤ fuel' → fuel' ≤ℤ pos 100_000 → solved S fuel' room ≡ Ok (t, c)

-- and spent under each fuel that does not
abbrev pub TooLittle : Type 0
TooLittle =
    (S : System) (room : ℕ) (fuel fuel' : ℤ) (t : Tree) (c : Count) → solved S fuel room ≡ Ok (t, c) →
    pos 0 ≤ℤ fuel' → fuel' <ℤ pos c.steps → Spent (solved S fuel' room)

-- spent under some fuel: spent under each smaller one
abbrev pub LessSpent : Type 0
LessSpent =
    (S : System) (room : ℕ) (fuel fuel' : ℤ) → Spent (solved S fuel room) →
    pos 0 ≤ℤ fuel' → fuel' ≤ℤ fuel → Spent (solved S fuel' room)

-- any other refusal under a fuel in limits: the same one, with the same count, under each larger fuel in limits
abbrev pub MoreRefused : Type 0
MoreRefused =
    (S : System) (room : ℕ) (fuel fuel' : ℤ) (s : Stopped) → solved S fuel room ≡ Err s → ¬ Spent (solved S fuel room) →
    pos 0 ≤ℤ fuel → fuel ≤ℤ fuel' → fuel' ≤ℤ pos 100_000 → solved S fuel' room ≡ Err s

-- spent to the last step: a refusal by 24 comes after just as many steps as the fuel allows
abbrev pub SpentWhole : Type 0
SpentWhole = (S : System) (room : ℕ) (fuel : ℤ) (m : Met) (c : Count) → solved S fuel room ≡ Err (stopped (FuelSpent m) c) → fuel ≡ pos m.steps

abbrev pub FuelLaw : Type 0
FuelLaw = Enough × TooLittle × LessSpent × MoreRefused × SpentWhole
