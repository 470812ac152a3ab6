use Rattle.std.proofs.Common.{◌≡◌, ◌+◌, ◌≤◌, true, cond, [], ◌∷◌, ◌++◌, length, take, is_ok, Ok, Err, Result, vec_items, sym, ap, ◌∙◌, subst, arith, length-append}
use Rattle.base.specs.declared.refusal.Refusal.{Refusal}
use Rattle.base.specs.declared.refusal.Refusal.TheVariants.{StoreFull}
use Rattle.tree.specs.declared.node.Node.{Node}
use Rattle.store.specs.Stores.{put_answer}
use Rattle.page.specs.Records.{all_holdable, cost_of, nodes_in, page_of, pasted, record_length, record_of}
use Rattle.store.proofs.Rooms.{passed-open, put-fits, put_full, same-meaning}
use Rattle.page_store.specs.Listed.{Indexed}
use Rattle.page_store.specs.PageStores.{bytes_after_put, bytes_of, meaning_of}
use Rattle.page_store.specs.declared.page_store.PageStore.{PageStore}
use Rattle.page.proofs.Holding.{all-holdable-++, all-to, holdable-from}
use Rattle.page.proofs.Regained.{count-page}
use Rattle.page_store.proofs.Kept.{all-held, length-listed, listed, used-is}
use Rattle.page_store.proofs.Standing.{bytes-cost, cost-some, put-index, put-nodes, put_whole}
use Rattle.page_store.proofs.page_store.acts.PageStoreStore.put.Goals as goal

-- the page by what a put answers
wrote : (s : PageStore) (x : Node) (r : Result (Unit {0}) Refusal) → put_answer (meaning_of s) x ≡ r → bytes_after_put s x ≡ cond (is_ok r) (pasted (length (page_of (listed s))) (record_of x) (bytes_of s)) (bytes_of s)
wrote s x r e = ap (λ o. cond (is_ok o) (pasted (length (page_of (listed s))) (record_of x) (bytes_of s)) (bytes_of s)) e

pub returns-then-free-units : goal.returns-then-free-units
returns-then-free-units c =
    let s = c.args.self.now in
    let is_open : s.gate.is_open ≡ true = passed-open _ (sym c.in_ok-pass.ensures.answer) in
    let xs = listed s in
    let u : c.record_length-units.result ≡ cost_of c.args.node = c.record_length-units.ensures.value ∙ ap record_length c.kind.ensures.answer in
    let l = used-is s in
    let cost = bytes-cost c.args.node in
    let p = put_full (meaning_of s) c.args.node is_open (omega arith) in
    record { answer = sym p.0; left = sym p.1; bytes = sym (wrote s c.args.node (Err StoreFull) p.0) }

pub overflow_add-self : goal.overflow_add-self
overflow_add-self c =
    let s = c.args.self.now in
    let xs = listed s in
    let u : c.record_length-units.result ≡ cost_of c.args.node = c.record_length-units.ensures.value ∙ ap record_length c.kind.ensures.answer in
    let some = cost-some c.args.node in
    let n = length-listed s in
    let m : length xs ≤ length (page_of xs) = count-page xs in
    let l : length xs ≡ s.count = s.all in
    record { fits = omega arith }

pub invariant_of-self : goal.invariant_of-self
invariant_of-self c =
    let s = c.args.self.now in
    let x = c.args.node in
    let page = vec_items s.page in
    let after = vec_items c.write.new.page in
    let xs = listed s in
    let u : c.record_length-units.result ≡ cost_of x = c.record_length-units.ensures.value ∙ ap record_length c.kind.ensures.answer in
    let room : s.used + cost_of x ≤ length page = omega arith in
    let hold = holdable-from x c.write.ensures.numbers in
    let all = all-held s in
    let w = put_whole page after s.used xs x hold room s.whole c.write.ensures.left in
    let e : nodes_in (s.count + 1) after ≡ xs ++ (x ∷ []) = put-nodes page after s.used s.count xs x all hold s.all room s.whole c.write.ensures.left in
    let size = c.write.ensures.size in
    let len : length (xs ++ (x ∷ [])) ≡ s.count + 1 = length-append xs (x ∷ []) ∙ ap (λ n. n + 1) s.all in
    let i : Indexed (vec_items c.note.new.index) (xs ++ (x ∷ [])) =
    subst (λ l. Indexed l (xs ++ (x ∷ []))) (sym c.note.ensures.left) (put-index page (vec_items s.index) s.used s.count xs x s.all (omega arith) s.whole s.indexed) in
    record {
      within = omega arith;
      whole = ap (λ n. take (s.used + n) after) u ∙ w ∙ ap page_of (sym e);
      all = ap length e ∙ len;
      numbers = ap all_holdable e ∙ all-to (xs ++ (x ∷ [])) (all-holdable-++ xs (x ∷ []) all (hold, tt));
      indexed = subst (Indexed (vec_items c.note.new.index)) (sym e) i;
    }

pub returns : goal.returns
returns c =
    let s = c.args.self.now in
    let is_open : s.gate.is_open ≡ true = passed-open _ (sym c.in_ok-pass.ensures.answer) in
    let x = c.args.node in
    let page = vec_items s.page in
    let xs = listed s in
    let u : c.record_length-units.result ≡ cost_of x = c.record_length-units.ensures.value ∙ ap record_length c.kind.ensures.answer in
    let room : s.used + cost_of x ≤ length page = omega arith in
    let all = all-held s in
    let l = used-is s in
    let cost = bytes-cost x in
    let e = put-nodes page (vec_items c.write.new.page) s.used s.count xs x all (holdable-from x c.write.ensures.numbers) s.all room s.whole c.write.ensures.left in
    let p = put-fits (meaning_of s) x is_open (omega arith) in
    record {
      answer = sym p.0;
      left = same-meaning _ _ _ _ _ _ _ e is_open c.write.ensures.size ∙ sym p.1;
      bytes = c.write.ensures.left ∙ ap (λ n. pasted n (record_of x) page) (sym (length-listed s)) ∙ sym (wrote s x (Ok tt) p.0);
    }
