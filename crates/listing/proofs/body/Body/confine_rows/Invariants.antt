use Rattle.std.proofs.Common.{◌≡◌}
use Rattle.std.specs.Slice.Iter.{chunks_exact_rest, chunks_exact_size}
use Rattle.source.specs.Counted.{context_row_length, sizes_of}
use Rattle.source.specs.Enters.{confine_answer, confined}
use Rattle.source.specs.RowSources.{meaning_of}
use Rattle.listing.specs.Listings.{confine_all, context_rows_in}
use Rattle.listing.proofs.RowSteps.{Leads}
use Rattle.listing.proofs.body.Body.confine_rows.Given as goal

abbrev pub invariant-loop-row : goal.invariant-loop-row
invariant-loop-row l =
    let C = sizes_of l.self.counts in
    (goal.iterator-loop-row).can_next l.row-iterator × (goal.iterator-loop-row).is_finite l.row-iterator
    × (chunks_exact_size l.row-iterator ≡ context_row_length C)
    × Leads confine_answer confined (context_row_length C) (chunks_exact_rest l.row-iterator) (meaning_of l.source) (confine_all (context_rows_in C l.self.numbers.now) (meaning_of l.initial.source))
