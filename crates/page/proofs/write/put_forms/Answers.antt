use Rattle.std.proofs.Common.{◌≡◌, length, rules}
use Rattle.page.proofs.Written.{six-joined, six-ten}
use Rattle.page.proofs.write.put_forms.Goals as goal

pub returns-clause-left : goal.returns-clause-left
returns-clause-left c =
    let six : length c.args.forms.now ≡ 6 = search rules in
    rw (c.put_form.ensures.left, c.put_form-2.ensures.left, c.put_form-3.ensures.left, c.put_form-4.ensures.left, c.put_form-5.ensures.left, c.put_form-6.ensures.left) (six-joined c.args.forms.now six)

pub returns-clause-ten : goal.returns-clause-ten
returns-clause-ten c =
    let six : length c.args.forms.now ≡ 6 = search rules in
    six-ten c.args.forms.now six c.put_form.ensures.ten c.put_form-2.ensures.ten c.put_form-3.ensures.ten c.put_form-4.ensures.ten c.put_form-5.ensures.ten c.put_form-6.ensures.ten
