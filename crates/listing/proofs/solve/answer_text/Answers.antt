use Rattle.std.proofs.Common.{◌≡◌, ◌≤◌, IfOk, string_bytes, vec_len, subst, ap, ◌∙◌, rules}
use Rattle.store.specs.Stores.{Meaning}
use Rattle.store.specs.NodeStores.{unit_costs}
use Rattle.listing.specs.Texts.{refusal_text}
use Rattle.listing.proofs.SolveSteps.{refusal-shown, tree-shown}
use Rattle.listing.proofs.solve.answer_text.Goals as goal

pub returns-in-Ok : goal.returns-in-Ok
returns-in-Ok c =
    let m : Meaning = c.new-sheet.result in
    let is = c.new-sheet.ensures.made in
    let costs : m.costs ≡ unit_costs = ap (λ (k : Meaning). k.costs) is ∙ ap (λ (k : Meaning). k.costs) c.new.ensures.answer in
    let capacity : m.capacity ≡ vec_len c.in_ok-table.table = ap (λ (k : Meaning). k.capacity) is ∙ ap (λ (k : Meaning). k.capacity) c.new.ensures.answer in
    let units : 64 ≤ m.capacity = search rules in
    let e = tree-shown m costs units c.args.text.now c.in-Ok.solved c.solve_text.new.sheet.nodes c.in-Ok.ensures.answer (search rules) in
    record { made = subst (λ bs. IfOk c.sheet_text.result (λ t. string_bytes t ≡ bs)) e c.sheet_text.ensures.made }

pub returns : goal.returns
returns c =
    let m : Meaning = c.new-sheet.result in
    let is = c.new-sheet.ensures.made in
    let costs : m.costs ≡ unit_costs = ap (λ (k : Meaning). k.costs) is ∙ ap (λ (k : Meaning). k.costs) c.new.ensures.answer in
    let capacity : m.capacity ≡ vec_len c.in_ok-table.table = ap (λ (k : Meaning). k.capacity) is ∙ ap (λ (k : Meaning). k.capacity) c.new.ensures.answer in
    let units : 64 ≤ m.capacity = search rules in
    let e = refusal-shown m costs units c.args.text.now c.in-Err.refusal c.in-Err.ensures.answer in
    let shown : IfOk c.to_string.result (λ t. string_bytes t ≡ refusal_text c.in-Err.refusal) = c.to_string.ensures.ok in
    record { made = subst (λ bs. IfOk c.to_string.result (λ t. string_bytes t ≡ bs)) e shown }
