use Rattle.std.proofs.Common.{ℕ, ◌<◌, ◌≤◌, length, get_or, take}
use Rattle.std.specs.List.{flat_map}
use Rattle.cs_rows.specs.WalkedView.{WalkedData, IsWide}
use Rattle.cs_rows.proofs.joining.rows_in.Given as goal

abbrev pub invariant-loop-piece : goal.invariant-loop-piece
invariant-loop-piece l = record {
  wide : (k : ℕ) (d : WalkedData) → k < l.piece-index → IsWide (get_or l.pieces k d);
  few : l.rows ≤ length (flat_map (λ piece. piece.rows) (take l.piece-index l.pieces));
}
