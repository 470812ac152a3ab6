-- When a solve says that no parameter point meets the context; and what a test and a sign say.
use Rattle.std.specs.Prelude.{◌≡◌, ℕ, ◌≤◌, Bool, List, ℤ, Ok, Err, unsigned_abs}
use Rattle.base.specs.declared.refusal.Refusal.TheVariants.{NoParameterPoint}
use Rattle.source.specs.Systems.{MeetsContext, System}
use Rattle.tree.specs.Trees.{Tree}
use Rattle.solver.specs.declared.count.Count.{Count}
use Rattle.solver.specs.Rules.{Work, sign_in, test}
use Rattle.solver.specs.Runs.{stopped}
use Rattle.solver.specs.Solves.{context_of, fuel_fits, nothing, solved, system_fits}
use Rattle.solver_laws.specs.Meaning.{HasSetting, SignRight, Yields}
use Rattle.solver_laws.specs.Places.{AllUse, Uses}

-- refused by 13: no parameter point meets the context, however large
abbrev pub RefusedEmpty : Type 0
RefusedEmpty = (S : System) (fuel : ℤ) (room : ℕ) (c : Count) → solved S fuel room ≡ Err (stopped NoParameterPoint c) → (z : List ℕ) → MeetsContext S z → ⊥

-- and where none does, 13 is the answer, once the test of the context comes to its end, with the steps that the test made
abbrev pub EmptyRefused : Type 0
EmptyRefused =
    (S : System) (fuel : ℤ) (room : ℕ) → system_fits S ≡ Ok tt → fuel_fits fuel ≡ Ok tt → ((z : List ℕ) → MeetsContext S z → ⊥) →
    (b : Bool) (c : Count) → test S.p 0 (context_of S) (record { fuel = unsigned_abs fuel; room = room }) nothing ≡ Ok (b, c) → solved S fuel room ≡ Err (stopped NoParameterPoint c)

-- a solve that is accepted has a parameter point to answer for
abbrev pub AcceptedMet : Type 0
AcceptedMet = (S : System) (fuel : ℤ) (room : ℕ) (t : Tree) (c : Count) → solved S fuel room ≡ Ok (t, c) → (z : List ℕ) × MeetsContext S z

-- a test answers a point exactly where some setting of the parameters meets the forms
abbrev pub TestsRight : Type 0
TestsRight = (p made : ℕ) → p ≤ 4 → made ≤ 5 → (forms : List (List ℤ)) → AllUse p made forms → Yields (HasSetting forms) (test p made forms)

-- the sign of a form is right wherever the context holds; unknown means that both occur
abbrev pub SignsRight : Type 0
SignsRight =
    (s : Work) → s.parameters ≤ 4 → s.made ≤ 5 → AllUse s.parameters s.made s.context → (C : List ℤ) → Uses s.parameters s.made C →
    Yields (SignRight s.context C) (sign_in s C)

abbrev pub ContextLaws : Type 0
ContextLaws = RefusedEmpty × EmptyRefused × AcceptedMet × TestsRight × SignsRight
