use Rattle.std.proofs.Common.{◌≤◌, ◌+◌, ◌++◌, List, Bool, length, map, drop, ap, subst, sym, ◌∙◌}
use Rattle.cs_schema.specs.declared.cells.Value.{Value}
use Rattle.cs_schema.specs.Rows.{Row, cell}
use Rattle.cs_schema.specs.Values.{values}
use Rattle.cs_rows.specs.Repeats.{unmarked}
use Rattle.cs_rows.proofs.PieceRows.{piece_rows, piece_fits, later_fits, left_more}
use Rattle.cs_rows.proofs.once.join_unmarked.Goals as goal

pub split_at-requires : goal.split_at-requires
split_at-requires c =
    subst (λ n. n ≤ length c.loop-piece.rest.now) (sym c.rows.ensures.count)
    (piece_fits c.args.pieces.now c.loop-piece.piece-index c.piece-item.result c.loop-piece-test.true c.piece-item.is c.loop-piece.rest.now c.loop-piece.invariant.long)

pub loop-piece-preserved : goal.loop-piece-preserved
loop-piece-preserved c =
    let pieces = c.args.pieces.now in
    let i = c.loop-piece.piece-index in
    let piece = c.piece-item.result in
    let rest = c.loop-piece.rest.now in
    let so_far = c.loop-piece.invariant in
    let f : Row → Value = λ row. cell row c.args.c in
    let before = values c.loop-piece.joined in
    let after = values c.push_unmarked.new.left in
    let later = piece_rows (drop (i + 1) pieces) in
    let pushed = c.in_ok-push_unmarked.ensures.cells ∙ (λ j. before ++ unmarked (c.split_at.ensures.front j) (c.column.ensures.cells j)) in
    record {
      kind = c.push_unmarked.ensures.kind ∙ so_far.kind;
      long = ap length c.split_at.ensures.back ∙ later_fits pieces i piece c.loop-piece-test.true c.piece-item.is rest so_far.long c.rows.result c.rows.ensures.count;
      cells = ap (λ (ms : List Bool). after ++ map f (unmarked ms later)) c.split_at.ensures.back
          ∙ left_more pieces i piece c.loop-piece-test.true c.piece-item.is rest so_far.long f before after (map f (unmarked c.args.marks.now (piece_rows pieces))) c.rows.result c.rows.ensures.count pushed so_far.cells;
    }
