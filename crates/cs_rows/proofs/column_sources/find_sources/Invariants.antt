use Rattle.std.proofs.Common.{◌≡◌, ◌<◌, ℕ, length, true}
use Rattle.std.specs.List.{find}
use Rattle.std.specs.Option.{is_some}
use Rattle.cs_rows.specs.RowSteps.{AreSources}
use Rattle.cs_rows.proofs.FoundRows.{holds}
use Rattle.cs_rows.proofs.column_sources.find_sources.Given as goal

abbrev pub invariant-loop-c : goal.invariant-loop-c
invariant-loop-c l = (length l.sources.items ≡ length l.survivors.catalog.columns) × AreSources l.survivors.catalog l.projections l.sources.items l.c × ((k : ℕ) → k < l.c → is_some (find (holds l.survivors.catalog k) l.projections) ≡ true)
