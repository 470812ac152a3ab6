-- Names all that a computation by the rules opens: a proof that computes says `unfolding computing`.
use Rattle.solver.specs.Runs.{return, ◌>>=◌, ◌>>◌, fail, refuse, tick, bar, write}
use Rattle.solver.specs.Rules.{act, added, after_above, after_below, branch, branches, cut, cut_new, cut_plain, finish, lift, node, ranged, scan, scanned, settle, sign_in, test, test_with, turn, with_row}
use Rattle.solver.specs.Solves.{begun, keeps, run, solved}

unfoldable pub computing : Unit {0}
unfolding return ◌>>=◌ ◌>>◌ fail refuse tick bar write act added after_above after_below branch branches cut cut_new cut_plain finish lift node ranged scan scanned settle sign_in test test_with turn with_row begun keeps run solved
computing = tt
