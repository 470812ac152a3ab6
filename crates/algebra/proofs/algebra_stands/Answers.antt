use Rattle.algebra.proofs.Division.{one-remainder}
use Rattle.algebra.proofs.Dots.{dot-linear}
use Rattle.algebra.proofs.Columns.{columns-combine}
use Rattle.algebra.proofs.Precedes.{lex-precedes, precedes-strict, precedes-total, precedes-trans}
use Rattle.algebra.proofs.algebra_stands.Goals as goal

pub returns : goal.returns
returns c = (one-remainder, dot-linear, columns-combine, precedes-total, precedes-trans, precedes-strict, lex-precedes)
