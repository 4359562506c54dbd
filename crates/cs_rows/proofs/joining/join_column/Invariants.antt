use Rattle.std.proofs.Common.{◌≡◌, map, take}
use Rattle.std.specs.List.{flat_map}
use Rattle.cs_schema.specs.CatalogData.{column}
use Rattle.cs_schema.specs.Values.{values, kind_of}
use Rattle.cs_schema.specs.Rows.{cell}
use Rattle.cs_rows.proofs.joining.join_column.Given as goal

abbrev pub invariant-loop-piece : goal.invariant-loop-piece
invariant-loop-piece l = record {
  kind : kind_of l.joined ≡ (column l.catalog l.c).kind;
  cells : values l.joined ≡ map (λ row. cell row l.c) (flat_map (λ piece. piece.rows) (take l.piece-index l.pieces));
}
