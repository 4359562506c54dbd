use Rattle.std.proofs.Common.{◌≡◌, take, None}
use Rattle.std.specs.List.{find}
use Rattle.cs_rows.proofs.FoundRows.{holds}
use Rattle.cs_rows.proofs.column_sources.first_source.Given as goal

abbrev pub invariant-loop-at : goal.invariant-loop-at
invariant-loop-at l = find (holds l.survivors.catalog l.c) (take l.at l.projections) ≡ None
