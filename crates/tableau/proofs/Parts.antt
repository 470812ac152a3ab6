-- The unknowns' rows, then the rest.
use Rattle.std.proofs.Common.{◌≡◌, ◌≤◌, ◌++◌, map, take, drop, sym, ap, ◌∙◌, arith}
use Rattle.std.proofs.lemmas.List.{drop-map, take-append-drop, take-map, take-take}
use Rattle.tableau.specs.declared.table.Row.{Row}
use Rattle.tableau.specs.declared.table.Table.{Table}
use Rattle.tableau.specs.Tables.{in_use, rest, top}

pub top-used : (t : Table) → t.unknowns ≤ t.count → top t ≡ take t.unknowns (in_use t)
top-used t h = sym (take-take t.unknowns t.count t.rows h)

pub both_used : (t : Table) → t.unknowns ≤ t.count → top t ++ rest t ≡ in_use t
both_used t h = ap (λ l. l ++ rest t) (top-used t h) ∙ take-append-drop t.unknowns (in_use t)

-- every row in use is replaced
module _ (f : Row → Row) (t u : Table) (h : t.unknowns ≤ t.count) (count : u.count ≡ t.count) (unknowns : u.unknowns ≡ t.unknowns) (rows : in_use u ≡ map f (in_use t)) where
  pub top-mapped : top u ≡ map f (top t)
  top-mapped =
      top-used u (omega (arith, count, unknowns)) ∙ ap (λ n. take n (in_use u)) unknowns ∙ ap (take t.unknowns) rows ∙ take-map f t.unknowns (in_use t)
      ∙ ap (map f) (sym (top-used t h))

  pub rest-mapped : rest u ≡ map f (rest t)
  rest-mapped = ap (λ n. drop n (in_use u)) unknowns ∙ ap (drop t.unknowns) rows ∙ drop-map f t.unknowns (in_use t)
