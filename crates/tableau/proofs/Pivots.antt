-- Rows that a pivot replaces one after the other, and what is known of them after it.
use Rattle.std.proofs.Common.{◌≡◌, ℕ, zero, suc, ◌+◌, ◌<◌, ◌≤◌, true, List, [], ◌∷◌, ◌++◌, map, length, get_or, take, drop, set, pos, nat_abs, ◌<ℤ◌, sym, ap, ◌∙◌, subst, arith}
use Rattle.std.proofs.lemmas.List.{append-nil, drop_all, get_or_default, get_or-map, get_or-take, length-append, length-drop, length-map, length-take-le, take_all, take_at}
use Rattle.std.proofs.lemmas.List.Edits.{map_over_more}
use Rattle.std.proofs.lemmas.Int.{ints}
use Rattle.std.proofs.lemmas.Bool.{and_parts}
use Rattle.base.specs.Numbers.{at}
use Rattle.base.proofs.Products.{mul-above}
use Rattle.tableau.specs.declared.table.Row.{Row}
use Rattle.tableau.specs.Rows.{Sound, fits, pivoted, times, turned}
use Rattle.tableau.specs.declared.table.Table.{Table}
use Rattle.tableau.specs.Tables.{PivotAt, Ready, all_fit, in_use, no_row}
use Rattle.tableau.proofs.Lowest.{gcd_of-alone, lowest-only, lowest-sound}
use Rattle.tableau.proofs.Combined.{turned_zero}

-- ---- the rows before h are replaced, the others are as they were
module _ (f : Row → Row) (old rows : List Row) (h : ℕ) (inv : rows ≡ map f (take h old) ++ drop h old) where
  pub next-done : (r : Row) → h < length old → r ≡ f (get_or rows h no_row) → set rows h r ≡ map f (take (h + 1) old) ++ drop (h + 1) old
  next-done r lt v =
      let done : length (map f (take h old)) ≡ h = length-map (take h old) f ∙ length-take-le h old (omega arith) in
      let same : h < length rows = omega (arith, ap length inv, length-append (map f (take h old)) (drop h old), done, length-drop h old) in
      ap (set rows h) v ∙ map_over_more f old rows h (get_or rows h no_row) lt inv (get_or_default rows h no_row (get_or rows h no_row) same)

  pub all-done : length old ≤ h → rows ≡ map f old
  all-done ge = inv ∙ (rw (take_all h old ge, drop_all h old ge) (append-nil (map f old)))

-- the first n rows are replaced, where others follow them
pub taken-done : (f : Row → Row) (old rows rest : List Row) (n h : ℕ) → n ≤ length old → length (take n old) ≤ h → rows ≡ map f (take h (take n old)) ++ drop h (take n old) → take n (rows ++ rest) ≡ map f (take n old)
taken-done f old rows rest n h in-it ge inv =
    let e : rows ≡ map f (take n old) = all-done f (take n old) rows h inv ge in
    take_at rows rest n (ap length e ∙ length-map (take n old) f ∙ length-take-le n old in-it) ∙ e

-- ---- rows in range
pub all_fit-at : (rs : List Row) (k : ℕ) → k < length rs → all_fit rs ≡ true → fits (get_or rs k no_row) ≡ true
all_fit-at [] k lt e = absurd (let no : ⊥ = omega arith in no)
all_fit-at (r ∷ rs) zero lt e = (and_parts (fits r) (all_fit rs) e).0
all_fit-at (r ∷ rs) (suc k) lt e = all_fit-at rs k (omega arith) (and_parts (fits r) (all_fit rs) e).1

-- the divisor stays above 0, so a pivoted row that is in range is sound
pub turned-above : (i : Row) (j : ℕ) (h : Row) → pos 0 <ℤ at i.coefs j → Sound h → pos 0 <ℤ (turned i j h).div
turned-above i j h a s = mul-above (at i.coefs j) h.div a (omega (arith, ints, s.above))

pub pivoted-sound : (i : Row) (j : ℕ) (h : Row) → pos 0 <ℤ at i.coefs j → Sound h → fits (pivoted i j h) ≡ true → Sound (pivoted i j h)
pivoted-sound i j h a s f = lowest-sound (turned i j h) (turned-above i j h a s) f

-- a row with 0 in column j stays as it is
pub pivoted-zero : (i : Row) (j : ℕ) (h : Row) → j < length h.coefs → length h.coefs ≡ length i.coefs → length h.form ≡ length i.form → pos 0 <ℤ at i.coefs j → Sound h → at h.coefs j ≡ pos 0 → h ≡ pivoted i j h
pivoted-zero i j h lt e f a s none =
    let n = nat_abs (at i.coefs j) in
    let same : pos n ≡ at i.coefs j = omega (arith, ints, a) in
    lowest-only (turned i j h) h (record {
      factor = n;
      above = omega (arith, ints, a);
      common = ap (λ g. times g h) same ∙ sym (turned_zero i j h lt e f none);
      alone = gcd_of-alone h s.alone;
    })

-- a table whose rows a pivot has replaced, and all of them are in range
pub pivot-ready : (old new : Table) (place : ℕ × ℕ) → Ready old → PivotAt old place → old.count ≤ length old.rows → in_use new ≡ map (pivoted (get_or old.rows place.0 no_row) place.1) (in_use old) → new.count ≡ old.count → new.unknowns ≡ old.unknowns → all_fit (in_use new) ≡ true → Ready new
pivot-ready old new place ready there in-it rows count unknowns all =
    record { room = omega (arith, ready.room); few = omega (arith, ready.few); inside = omega (arith, ready.inside); sound = sound }
  where
    by : Row
    by = get_or old.rows place.0 no_row

    length-old : length (in_use old) ≡ old.count
    length-old = length-take-le old.count old.rows in-it

    length-new : length (in_use new) ≡ old.count
    length-new = ap length rows ∙ length-map (in_use old) (pivoted by place.1) ∙ length-old

    is-pivoted : (k : ℕ) → k < new.count → get_or new.rows k no_row ≡ pivoted by place.1 (get_or old.rows k no_row)
    is-pivoted k lt =
        sym (get_or-take new.count new.rows k no_row lt)
        ∙ ap (λ rs. get_or rs k no_row) rows
        ∙ get_or-map (pivoted by place.1) (in_use old) k no_row no_row (omega (arith, length-old, count))
        ∙ ap (pivoted by place.1) (get_or-take old.count old.rows k no_row (omega (arith, count)))

    sound : (k : ℕ) → k < new.count → Sound (get_or new.rows k no_row)
    sound k lt =
        let h = get_or old.rows k no_row in
        let e = is-pivoted k lt in
        let f = ap fits (sym e ∙ sym (get_or-take new.count new.rows k no_row lt)) ∙ all_fit-at (in_use new) k (omega (arith, length-new, count)) all in
        subst Sound (sym e) (pivoted-sound by place.1 h there.2 (ready.sound k (omega (arith, count))) f)
