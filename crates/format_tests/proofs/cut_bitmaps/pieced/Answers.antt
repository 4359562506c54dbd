use Rattle.std.proofs.Common.{◌++◌}
use Rattle.format_tests.proofs.cut_bitmaps.pieced.Goals as goal

pub join-requires : goal.join-requires
join-requires c =
    let front = c.loop-piece.invariant in record {
      front = front.0;
      back = c.in-Some.piece.now;
      left_part = front.1;
      right_part = c.in_ok-next.ensures;
      joined = (c.can_join.ensures front.0 c.in-Some.piece.now front.1 c.in_ok-next.ensures).0 c.if-not-can_join.false;
    }

pub loop-piece-preserved : goal.loop-piece-preserved
loop-piece-preserved c =
    let front = c.loop-piece.invariant in (front.0 ++ c.in-Some.piece.now, c.in_ok-whole-2.ensures front.0 c.in-Some.piece.now front.1 c.in_ok-next.ensures)

pub loop-piece-init : goal.loop-piece-init
loop-piece-init c = (_, c.in_ok-whole.ensures)
