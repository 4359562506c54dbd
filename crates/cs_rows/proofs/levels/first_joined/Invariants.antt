use Rattle.std.proofs.Common.{◌≡◌, take, None}
use Rattle.std.specs.List.{find}
use Rattle.cs_schema.specs.CatalogData.{has_join}
use Rattle.cs_rows.specs.WalkByRows.{Reached}
use Rattle.cs_rows.proofs.levels.first_joined.Given as goal

abbrev pub invariant-loop-row : goal.invariant-loop-row
invariant-loop-row l = find (λ (r : Reached). has_join l.survivors.catalog r.0 l.q) (take l.row-index l.rows) ≡ None
