use Rattle.std.proofs.Common.{◌≡◌, ℕ, ◌≤◌, Bool, true, false, cond, ◌&&◌, leb, replicate, pos, Ok, Err, sym, refl, ap, ◌∙◌, subst}
use Rattle.std.proofs.lemmas.Bool.{and_parts, cond-true, leb-true}
use Rattle.base.specs.declared.refusal.Refusal.TheVariants.{Counts}
use Rattle.base.specs.declared.refusal.Values.TheVariants.{None}
use Rattle.base.specs.Refusals.{refused}
use Rattle.source.specs.Systems.{System}
use Rattle.source.specs.Limits.{counts_fit}
use Rattle.source.specs.RowSources.{bare, meaning_of, new_answer as rows_answer}
use Rattle.source.specs.declared.rows.RowSource.{RowSource}
use Rattle.nest.specs.Loops.{Shaped, loops_of, loops_from}
use Rattle.nest.specs.Acts.{plain}
use Rattle.nest.proofs.Shapes.{fresh, parts, shaped-plain}
use Rattle.nest.proofs.nest.Nest.new.Goals as goal

-- what the row source was made as
as-bare : (n p : ℕ) (S : System) → Ok S ≡ rows_answer n p → (S ≡ bare n p) × (counts_fit n p 0 0 ≡ true)
as-bare n p S e = go (counts_fit n p 0 0) refl e
  where
    go : (b : Bool) → counts_fit n p 0 0 ≡ b → Ok S ≡ cond b (Ok (bare n p)) (Err Counts) → (S ≡ bare n p) × (b ≡ true)
    go true u e = (cc, refl)
    go false u e = (cc, cc)

as_plain : (n p : ℕ) (kept : RowSource) → n ≤ 6 → p ≤ 4 → Ok (meaning_of kept) ≡ rows_answer n p → loops_of kept (replicate 6 (replicate 5 (pos 0))) ≡ plain n p
as_plain n p kept h k e = ap (λ (S : System). loops_from S (replicate 6 (replicate 5 (pos 0)))) (as-bare n p (meaning_of kept) e).0 ∙ fresh n p h k

in-counts : (n p : ℕ) → counts_fit n p 0 0 ≡ true → (1 ≤ n) × ((n ≤ 6) × (p ≤ 4))
in-counts n p e =
    let a = and_parts (leb 1 n) (leb n 6 && (leb p 4 && (leb 0 16 && leb 0 8))) e in
    let b = and_parts (leb n 6) (leb p 4 && (leb 0 16 && leb 0 8)) a.1 in
    let d = and_parts (leb p 4) (leb 0 16 && leb 0 8) b.1 in
    (leb-true 1 n a.0, (leb-true n 6 b.0, leb-true p 4 d.0))

pub invariant_of-result : goal.invariant_of-result
invariant_of-result c =
    let n = c.args.n in
    let p = c.args.p in
    let kept = c.in_ok-kept.kept in
    let e = c.in_ok-kept.ensures.answer in
    let f = in-counts n p (as-bare n p (meaning_of kept) e).1 in
    parts _ (subst Shaped (sym (as_plain n p kept f.1.0 f.1.1 e)) (shaped-plain n p f.0 f.1.0 f.1.1))

pub returns : goal.returns
returns c =
    let n = c.args.n in
    let p = c.args.p in
    let kept = c.in_ok-kept.kept in
    let e = c.in_ok-kept.ensures.answer in
    let t = (as-bare n p (meaning_of kept) e).1 in
    let f = in-counts n p t in
    let plainly = as_plain n p kept f.1.0 f.1.1 e in
    record {
      answer = ap Ok plainly ∙ sym (cond-true (counts_fit n p 0 0) (Ok (plain n p)) (Err Counts) t);
      report = ap Ok plainly ∙ sym (cond-true (counts_fit n p 0 0) (Ok (plain n p)) (refused 11 None) t);
    }
