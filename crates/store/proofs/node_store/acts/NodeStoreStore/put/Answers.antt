use Rattle.std.proofs.Common.{◌≡◌, ◌+◌, true, [], ◌∷◌, ◌++◌, length, take, set, vec_items, sym, refl, ◌∙◌, arith}
use Rattle.std.proofs.lemmas.List.{take_more_set, length-take-le}
use Rattle.tree.specs.Kinds.{kind_of}
use Rattle.store.specs.NodeStores.{meaning_of}
use Rattle.store.proofs.Rooms.{passed-open, one-unit, put_full, used-one, put-fits, same-meaning}
use Rattle.store.proofs.node_store.acts.NodeStoreStore.put.Goals as goal

pub returns-then-free-lt1 : goal.returns-then-free-lt1
returns-then-free-lt1 c =
    let s = c.args.self.now in
    let is_open : s.gate.is_open ≡ true = passed-open _ (sym c.in_ok-pass.ensures.answer) in
    let xs = vec_items s.table in
    let e = used-one (take s.count xs) in
    let one = one-unit (kind_of c.args.node) in
    let l : length (take s.count xs) ≡ s.count = length-take-le s.count xs (omega arith) in
    let p = put_full (meaning_of s) c.args.node is_open (omega arith) in
    record { answer = sym p.0; left = sym p.1 }

pub returns : goal.returns
returns c =
    let s = c.args.self.now in
    let is_open : s.gate.is_open ≡ true = passed-open _ (sym c.in_ok-pass.ensures.answer) in
    let xs = vec_items s.table in
    let e = used-one (take s.count xs) in
    let one = one-unit (kind_of c.args.node) in
    let l : length (take s.count xs) ≡ s.count = length-take-le s.count xs (omega arith) in
    let p = put-fits (meaning_of s) c.args.node is_open (omega arith) in
    let t : take (s.count + 1) (set xs s.count c.args.node) ≡ take s.count xs ++ (c.args.node ∷ []) = take_more_set xs s.count c.args.node (omega arith) in
    record { answer = sym p.0; left = same-meaning _ _ _ _ _ _ _ t is_open refl ∙ sym p.1 }
