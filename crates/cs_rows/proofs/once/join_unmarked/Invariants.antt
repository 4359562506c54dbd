use Rattle.std.proofs.Common.{◌≡◌, ◌++◌, drop, length, map}
use Rattle.std.specs.List.{flat_map}
use Rattle.cs_schema.specs.CatalogData.{column}
use Rattle.cs_schema.specs.Values.{values, kind_of}
use Rattle.cs_schema.specs.Rows.{cell}
use Rattle.cs_rows.specs.Repeats.{unmarked}
use Rattle.cs_rows.proofs.once.join_unmarked.Given as goal

abbrev pub invariant-loop-piece : goal.invariant-loop-piece
invariant-loop-piece l = record {
  kind : kind_of l.joined ≡ (column l.catalog l.c).kind;
  long : length l.rest ≡ length (flat_map (λ piece. piece.rows) (drop l.piece-index l.pieces));
  cells : values l.joined ++ map (λ row. cell row l.c) (unmarked l.rest (flat_map (λ piece. piece.rows) (drop l.piece-index l.pieces)))
      ≡ map (λ row. cell row l.c) (unmarked l.marks (flat_map (λ piece. piece.rows) l.pieces));
}
