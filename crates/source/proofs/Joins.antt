-- Giving a system one more row, where it is not refused.
use Rattle.std.proofs.Common.{◌≡◌, cond, List, ℤ, is_ok, Ok, ap}
use Rattle.source.specs.Systems.{System}
use Rattle.source.specs.Enters.{enter_answer, with_row, entered}

pub enter-joined : (S : System) (row : List ℤ) → enter_answer S row ≡ Ok tt → entered S row ≡ with_row S row
enter-joined S row h = ap (λ r. cond (is_ok r) (with_row S row) S) h
