-- Calls made one after another.
use Rattle.std.proofs.Common.{◌≡◌, ℕ, List, [], ◌∷◌, ◌++◌, refl}
use Rattle.source.specs.Systems.{System}
use Rattle.store.specs.Stores.{Meaning}
use Rattle.tree.specs.declared.node.Node.{Node}
use Rattle.sheet.specs.declared.call.Call.{Call}
use Rattle.sheet.specs.declared.call.Answer.{Answer}
use Rattle.sheet.specs.Events.{Event, find, solve, wipe}
use Rattle.sheet.specs.Arrangements.{Made, after, after_all}
use Rattle.sheet.specs.Logs.{Log, Logs, work_left}

pub log-more : {S : Type 0} (meaning : S → System) (room : ℕ) (calls : List (Call S)) (answers : List Answer) (events : List Event) (c : Call S) (a : Answer) (e : Event) →
    Log meaning room calls answers events → Logs meaning room c a e → Log meaning room (calls ++ c ∷ []) (answers ++ a ∷ []) (events ++ e ∷ [])
log-more meaning room [] [] [] c a e h k = (k, tt)
log-more meaning room (x ∷ xs) (y ∷ ys) (z ∷ zs) c a e h k = (h.0, log-more meaning room xs ys zs c a e h.1 k)
log-more meaning room [] [] (z ∷ zs) c a e h k = absurd h
log-more meaning room [] (y ∷ ys) events c a e h k = absurd h
log-more meaning room (x ∷ xs) [] events c a e h k = absurd h
log-more meaning room (x ∷ xs) (y ∷ ys) [] c a e h k = absurd h

pub made-append : (m : Meaning) (xs ys : List Event) → Made m xs → Made (after_all m xs) ys → Made m (xs ++ ys)
made-append m [] ys h k = k
made-append m (x ∷ xs) ys h k = (h.0, made-append (after m x) xs ys h.1 k)

pub after-append : (m : Meaning) (xs ys : List Event) → after_all m (xs ++ ys) ≡ after_all (after_all m xs) ys
after-append m [] ys = refl
after-append m (x ∷ xs) ys = after-append (after m x) xs ys

pub work-append : (w : List Node) (xs ys : List Event) → work_left w (xs ++ ys) ≡ work_left (work_left w xs) ys
work-append w [] ys = refl
work-append w (solve s ∷ xs) ys = work-append s.work xs ys
work-append w (find f ∷ xs) ys = work-append w xs ys
work-append w (wipe n ∷ xs) ys = work-append w xs ys
