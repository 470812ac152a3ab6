use Rattle.std.proofs.Common.{rules, ⊎_elim, ◌≡◌, [], ◌∷◌, ◌++◌, refl, ap, ◌∙◌, sym, ap₂}
use Rattle.std.specs.List.{flat_map}
use Rattle.tree.specs.Kinds.{byte_of, kind_of}
use Rattle.page.specs.Records.{holdable, record_of}
use Rattle.page.specs.Words.{all_bytes, bytes}
use Rattle.page.proofs.Written.{first_byte, numbers-joined}
use Rattle.page.proofs.write.put.Goals as goal

pub returns-in-New-clause-left : goal.returns-in-New-clause-left
returns-in-New-clause-left c =
    let front = first_byte _ c.from.result c.split_at_mut-kind.ensures.front_len in
    let k : c.from.result ≡ 4 = c.from.ensures ∙ ap byte_of (c.kind.ensures.answer ∙ ap kind_of c.in-New.is) in
    let n : c.copy_from_slice-in-New.new.self ≡ bytes c.in-New.d = search rules in
    let b : c.copy_from_slice-in-New-2.new.self ≡ all_bytes c.in-New.form = c.copy_from_slice-in-New-2.ensures.after ∙ c.as_flattened.ensures.value ∙ ap (flat_map (λ x. x)) c.form_bytes.ensures.value ∙ numbers-joined c.in-New.form in
    ap₂ ◌++◌ (front ∙ ap (λ i. i ∷ []) k) (ap₂ ◌++◌ n b) ∙ sym (ap record_of c.in-New.is)

pub returns-in-Leaf-clause-left : goal.returns-in-Leaf-clause-left
returns-in-Leaf-clause-left c =
    let front = first_byte _ c.from.result c.split_at_mut-kind.ensures.front_len in
    let k : c.from.result ≡ 5 = c.from.ensures ∙ ap byte_of (c.kind.ensures.answer ∙ ap kind_of c.in-Leaf.is) in
    ap₂ ◌++◌ (front ∙ ap (λ i. i ∷ []) k) c.put_forms.ensures.left ∙ sym (ap record_of c.in-Leaf.is)

pub returns-in-Leaf-clause-numbers : goal.returns-in-Leaf-clause-numbers
returns-in-Leaf-clause-numbers c =
    ap holdable c.in-Leaf.is ∙ rw (c.put_forms.ensures.six, c.put_forms.ensures.ten) refl

pub returns-in-Keep-clause-left : goal.returns-in-Keep-clause-left
returns-in-Keep-clause-left c =
    let front = first_byte _ c.from.result c.split_at_mut-kind.ensures.front_len in
    let k = c.from.ensures ∙ ap byte_of c.kind.ensures.answer in
    let b : c.copy_from_slice-in-Keep.new.self ≡ all_bytes c.in-Keep.form = c.copy_from_slice-in-Keep.ensures.after ∙ c.as_flattened-in-Keep.ensures.value
    ∙ ap (flat_map (λ x. x)) c.form_bytes-in-Keep.ensures.value ∙ numbers-joined c.in-Keep.form in
    ap₂ ◌++◌ (front ∙ ap (λ i. i ∷ []) k) b
    ∙ ⊎_elim {C = byte_of (kind_of c.args.node.now) ∷ all_bytes c.in-Keep.form ≡ record_of c.args.node.now} (λ is. rw is) (λ is. rw is) c.in-Keep.is
