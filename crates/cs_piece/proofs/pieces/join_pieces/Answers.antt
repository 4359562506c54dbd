use Rattle.std.proofs.Common.{◌∙◌, ◌++◌, sym, ap, subst, List}
use Rattle.std.specs.Prelude.{nat_eq}
use Rattle.std.specs.Ordering.{nat_cmp, int_eq, int_cmp}
use Rattle.std.specs.Cmp.Lexicographic.{pointwise, slice_cmp}
use Rattle.cs_schema.specs.declared.kinds.Code.{Code}
use Rattle.cs_schema.specs.declared.kinds.Kind.{Kind}
use Rattle.cs_schema.specs.declared.cells.Value.{Value}
use Rattle.cs_codec.specs.Cells.{int_cell, text_cell, IsInt, IsText}
use Rattle.cs_codec.specs.Encodings.{IsShort}
use Rattle.cs_codec.specs.Texts.{plain_text, runs_text, differences_text, bitmaps_text}
use Rattle.cs_codec.specs.Differences.{NeverFallsShort}
use Rattle.cs_codec.specs.Plain.{IsPlainPart}
use Rattle.cs_codec.specs.BitmapParts.{IsBitmapsPart}
use Rattle.cs_piece.specs.declared.pieces.Piece.{Piece}
use Rattle.cs_piece.specs.declared.pieces.Piece.TheVariants as pieces
use Rattle.cs_piece.specs.Pieces.{IsPieceOf, IsList}
use Rattle.cs_piece.proofs.Variants.{int_runs, text_runs, int_bitmaps, text_bitmaps, rising_ints, plain_ints, plain_texts, parts_fit, parts_join, can_at}
use Rattle.cs_piece.proofs.pieces.join_pieces.Goals as goal
use Rattle.cs_piece.proofs.pieces.join_pieces.Goals.{in-IntRuns-IntRuns+in_ok-join-in-IntRuns-IntRuns, in-TextRuns-TextRuns+in_ok-join-in-TextRuns-TextRuns, in-IntBitmaps-IntBitmaps+in_ok-join-in-IntBitmaps-IntBitmaps, in-TextBitmaps-TextBitmaps+in_ok-join-in-TextBitmaps-TextBitmaps, in-RisingInts-RisingInts+in_ok-join-in-RisingInts-RisingInts, in-PlainInts-PlainInts+in_ok-join-in-PlainInts-PlainInts, in-PlainTexts-PlainTexts+in_ok-join-in-PlainTexts-PlainTexts, in-NoTexts-NoTexts}

pub join-requires : goal.join-requires
join-requires c =
    let q = c.requires in
    let l : IsPieceOf (pieces.IntRuns c.in-IntRuns-IntRuns.left) q.code q.kind q.front = subst (λ (p : Piece). IsPieceOf p q.code q.kind q.front) c.in-IntRuns-IntRuns.is-0 q.left_is in
    let r : IsPieceOf (pieces.IntRuns c.in-IntRuns-IntRuns.right) q.code q.kind q.back = subst (λ (p : Piece). IsPieceOf p q.code q.kind q.back) c.in-IntRuns-IntRuns.is-1 q.right_is in
    parts_fit Value.Int (runs_text int_cell int_eq) IsShort IsInt Code.Runs Kind.Int int_runs IsList c.in-IntRuns-IntRuns.left c.in-IntRuns-IntRuns.right q.front q.back l.holds r.holds (can_at q.code Code.Runs q.kind Kind.Int (q.front ++ q.back) (sym l.code_is) (sym l.kind_is) q.fits)

pub join-requires-in-TextRuns-TextRuns : goal.join-requires-in-TextRuns-TextRuns
join-requires-in-TextRuns-TextRuns c =
    let q = c.requires in
    let l : IsPieceOf (pieces.TextRuns c.in-TextRuns-TextRuns.left) q.code q.kind q.front = subst (λ (p : Piece). IsPieceOf p q.code q.kind q.front) c.in-TextRuns-TextRuns.is-0 q.left_is in
    let r : IsPieceOf (pieces.TextRuns c.in-TextRuns-TextRuns.right) q.code q.kind q.back = subst (λ (p : Piece). IsPieceOf p q.code q.kind q.back) c.in-TextRuns-TextRuns.is-1 q.right_is in
    parts_fit Value.Text (runs_text text_cell (pointwise nat_eq)) IsShort IsText Code.Runs Kind.Text text_runs IsList c.in-TextRuns-TextRuns.left c.in-TextRuns-TextRuns.right q.front q.back l.holds r.holds (can_at q.code Code.Runs q.kind Kind.Text (q.front ++ q.back) (sym l.code_is) (sym l.kind_is) q.fits)

pub join-requires-in-IntBitmaps-IntBitmaps : goal.join-requires-in-IntBitmaps-IntBitmaps
join-requires-in-IntBitmaps-IntBitmaps c =
    let q = c.requires in
    let l : IsPieceOf (pieces.IntBitmaps c.in-IntBitmaps-IntBitmaps.left) q.code q.kind q.front = subst (λ (p : Piece). IsPieceOf p q.code q.kind q.front) c.in-IntBitmaps-IntBitmaps.is-0 q.left_is in
    let r : IsPieceOf (pieces.IntBitmaps c.in-IntBitmaps-IntBitmaps.right) q.code q.kind q.back = subst (λ (p : Piece). IsPieceOf p q.code q.kind q.back) c.in-IntBitmaps-IntBitmaps.is-1 q.right_is in
    parts_fit Value.Int (bitmaps_text int_cell int_eq int_cmp) IsShort IsInt Code.Bitmaps Kind.Int int_bitmaps (IsBitmapsPart int_eq int_cmp) c.in-IntBitmaps-IntBitmaps.left c.in-IntBitmaps-IntBitmaps.right q.front q.back l.holds r.holds (can_at q.code Code.Bitmaps q.kind Kind.Int (q.front ++ q.back) (sym l.code_is) (sym l.kind_is) q.fits)

pub join-requires-in-TextBitmaps-TextBitmaps : goal.join-requires-in-TextBitmaps-TextBitmaps
join-requires-in-TextBitmaps-TextBitmaps c =
    let q = c.requires in
    let l : IsPieceOf (pieces.TextBitmaps c.in-TextBitmaps-TextBitmaps.left) q.code q.kind q.front = subst (λ (p : Piece). IsPieceOf p q.code q.kind q.front) c.in-TextBitmaps-TextBitmaps.is-0 q.left_is in
    let r : IsPieceOf (pieces.TextBitmaps c.in-TextBitmaps-TextBitmaps.right) q.code q.kind q.back = subst (λ (p : Piece). IsPieceOf p q.code q.kind q.back) c.in-TextBitmaps-TextBitmaps.is-1 q.right_is in
    parts_fit Value.Text (bitmaps_text text_cell (pointwise nat_eq) (slice_cmp nat_cmp)) IsShort IsText Code.Bitmaps Kind.Text text_bitmaps (IsBitmapsPart (pointwise nat_eq) (slice_cmp nat_cmp)) c.in-TextBitmaps-TextBitmaps.left c.in-TextBitmaps-TextBitmaps.right q.front q.back l.holds r.holds (can_at q.code Code.Bitmaps q.kind Kind.Text (q.front ++ q.back) (sym l.code_is) (sym l.kind_is) q.fits)

pub join-requires-in-RisingInts-RisingInts : goal.join-requires-in-RisingInts-RisingInts
join-requires-in-RisingInts-RisingInts c =
    let q = c.requires in
    let l : IsPieceOf (pieces.RisingInts c.in-RisingInts-RisingInts.left) q.code q.kind q.front = subst (λ (p : Piece). IsPieceOf p q.code q.kind q.front) c.in-RisingInts-RisingInts.is-0 q.left_is in
    let r : IsPieceOf (pieces.RisingInts c.in-RisingInts-RisingInts.right) q.code q.kind q.back = subst (λ (p : Piece). IsPieceOf p q.code q.kind q.back) c.in-RisingInts-RisingInts.is-1 q.right_is in
    parts_fit Value.Int differences_text NeverFallsShort IsInt Code.Differences Kind.Int rising_ints IsList c.in-RisingInts-RisingInts.left c.in-RisingInts-RisingInts.right q.front q.back l.holds r.holds (can_at q.code Code.Differences q.kind Kind.Int (q.front ++ q.back) (sym l.code_is) (sym l.kind_is) q.fits)

pub join-requires-in-PlainInts-PlainInts : goal.join-requires-in-PlainInts-PlainInts
join-requires-in-PlainInts-PlainInts c =
    let q = c.requires in
    let l : IsPieceOf (pieces.PlainInts c.in-PlainInts-PlainInts.left) q.code q.kind q.front = subst (λ (p : Piece). IsPieceOf p q.code q.kind q.front) c.in-PlainInts-PlainInts.is-0 q.left_is in
    let r : IsPieceOf (pieces.PlainInts c.in-PlainInts-PlainInts.right) q.code q.kind q.back = subst (λ (p : Piece). IsPieceOf p q.code q.kind q.back) c.in-PlainInts-PlainInts.is-1 q.right_is in
    parts_fit Value.Int (plain_text int_cell) IsShort IsInt Code.Plain Kind.Int plain_ints (IsPlainPart int_cell) c.in-PlainInts-PlainInts.left c.in-PlainInts-PlainInts.right q.front q.back l.holds r.holds (can_at q.code Code.Plain q.kind Kind.Int (q.front ++ q.back) (sym l.code_is) (sym l.kind_is) q.fits)

pub join-requires-in-PlainTexts-PlainTexts : goal.join-requires-in-PlainTexts-PlainTexts
join-requires-in-PlainTexts-PlainTexts c =
    let q = c.requires in
    let l : IsPieceOf (pieces.PlainTexts c.in-PlainTexts-PlainTexts.left) q.code q.kind q.front = subst (λ (p : Piece). IsPieceOf p q.code q.kind q.front) c.in-PlainTexts-PlainTexts.is-0 q.left_is in
    let r : IsPieceOf (pieces.PlainTexts c.in-PlainTexts-PlainTexts.right) q.code q.kind q.back = subst (λ (p : Piece). IsPieceOf p q.code q.kind q.back) c.in-PlainTexts-PlainTexts.is-1 q.right_is in
    parts_fit Value.Text (plain_text text_cell) IsShort IsText Code.Plain Kind.Text plain_texts (IsPlainPart text_cell) c.in-PlainTexts-PlainTexts.left c.in-PlainTexts-PlainTexts.right q.front q.back l.holds r.holds (can_at q.code Code.Plain q.kind Kind.Text (q.front ++ q.back) (sym l.code_is) (sym l.kind_is) q.fits)

pub returns : goal.returns
returns c = elim c.match-left.branch [
  | in-IntRuns-IntRuns+in_ok-join-in-IntRuns-IntRuns w ↦ λ code kind x y hx hy.
      let l : IsPieceOf (pieces.IntRuns w.in-IntRuns-IntRuns.left) code kind x = subst (λ (p : Piece). IsPieceOf p code kind x) w.in-IntRuns-IntRuns.is-0 hx in
      let r : IsPieceOf (pieces.IntRuns w.in-IntRuns-IntRuns.right) code kind y = subst (λ (p : Piece). IsPieceOf p code kind y) w.in-IntRuns-IntRuns.is-1 hy in
      subst (λ (p : Piece). IsPieceOf p code kind (x ++ y)) (sym w.result-is) (record { code_is = l.code_is; kind_is = l.kind_is; holds = parts_join Value.Int (runs_text int_cell int_eq) IsShort IsInt Code.Runs Kind.Int int_runs IsList w.in-IntRuns-IntRuns.left w.in-IntRuns-IntRuns.right w.in_ok-join-in-IntRuns-IntRuns.field-0 x y w.in_ok-join-in-IntRuns-IntRuns.ensures l.holds r.holds })
  | in-TextRuns-TextRuns+in_ok-join-in-TextRuns-TextRuns w ↦ λ code kind x y hx hy.
      let l : IsPieceOf (pieces.TextRuns w.in-TextRuns-TextRuns.left) code kind x = subst (λ (p : Piece). IsPieceOf p code kind x) w.in-TextRuns-TextRuns.is-0 hx in
      let r : IsPieceOf (pieces.TextRuns w.in-TextRuns-TextRuns.right) code kind y = subst (λ (p : Piece). IsPieceOf p code kind y) w.in-TextRuns-TextRuns.is-1 hy in
      subst (λ (p : Piece). IsPieceOf p code kind (x ++ y)) (sym w.result-is) (record { code_is = l.code_is; kind_is = l.kind_is; holds = parts_join Value.Text (runs_text text_cell (pointwise nat_eq)) IsShort IsText Code.Runs Kind.Text text_runs IsList w.in-TextRuns-TextRuns.left w.in-TextRuns-TextRuns.right w.in_ok-join-in-TextRuns-TextRuns.field-0 x y w.in_ok-join-in-TextRuns-TextRuns.ensures l.holds r.holds })
  | in-IntBitmaps-IntBitmaps+in_ok-join-in-IntBitmaps-IntBitmaps w ↦ λ code kind x y hx hy.
      let l : IsPieceOf (pieces.IntBitmaps w.in-IntBitmaps-IntBitmaps.left) code kind x = subst (λ (p : Piece). IsPieceOf p code kind x) w.in-IntBitmaps-IntBitmaps.is-0 hx in
      let r : IsPieceOf (pieces.IntBitmaps w.in-IntBitmaps-IntBitmaps.right) code kind y = subst (λ (p : Piece). IsPieceOf p code kind y) w.in-IntBitmaps-IntBitmaps.is-1 hy in
      subst (λ (p : Piece). IsPieceOf p code kind (x ++ y)) (sym w.result-is) (record { code_is = l.code_is; kind_is = l.kind_is; holds = parts_join Value.Int (bitmaps_text int_cell int_eq int_cmp) IsShort IsInt Code.Bitmaps Kind.Int int_bitmaps (IsBitmapsPart int_eq int_cmp) w.in-IntBitmaps-IntBitmaps.left w.in-IntBitmaps-IntBitmaps.right w.in_ok-join-in-IntBitmaps-IntBitmaps.field-0 x y w.in_ok-join-in-IntBitmaps-IntBitmaps.ensures l.holds r.holds })
  | in-TextBitmaps-TextBitmaps+in_ok-join-in-TextBitmaps-TextBitmaps w ↦ λ code kind x y hx hy.
      let l : IsPieceOf (pieces.TextBitmaps w.in-TextBitmaps-TextBitmaps.left) code kind x = subst (λ (p : Piece). IsPieceOf p code kind x) w.in-TextBitmaps-TextBitmaps.is-0 hx in
      let r : IsPieceOf (pieces.TextBitmaps w.in-TextBitmaps-TextBitmaps.right) code kind y = subst (λ (p : Piece). IsPieceOf p code kind y) w.in-TextBitmaps-TextBitmaps.is-1 hy in
      subst (λ (p : Piece). IsPieceOf p code kind (x ++ y)) (sym w.result-is) (record { code_is = l.code_is; kind_is = l.kind_is; holds = parts_join Value.Text (bitmaps_text text_cell (pointwise nat_eq) (slice_cmp nat_cmp)) IsShort IsText Code.Bitmaps Kind.Text text_bitmaps (IsBitmapsPart (pointwise nat_eq) (slice_cmp nat_cmp)) w.in-TextBitmaps-TextBitmaps.left w.in-TextBitmaps-TextBitmaps.right w.in_ok-join-in-TextBitmaps-TextBitmaps.field-0 x y w.in_ok-join-in-TextBitmaps-TextBitmaps.ensures l.holds r.holds })
  | in-RisingInts-RisingInts+in_ok-join-in-RisingInts-RisingInts w ↦ λ code kind x y hx hy.
      let l : IsPieceOf (pieces.RisingInts w.in-RisingInts-RisingInts.left) code kind x = subst (λ (p : Piece). IsPieceOf p code kind x) w.in-RisingInts-RisingInts.is-0 hx in
      let r : IsPieceOf (pieces.RisingInts w.in-RisingInts-RisingInts.right) code kind y = subst (λ (p : Piece). IsPieceOf p code kind y) w.in-RisingInts-RisingInts.is-1 hy in
      subst (λ (p : Piece). IsPieceOf p code kind (x ++ y)) (sym w.result-is) (record { code_is = l.code_is; kind_is = l.kind_is; holds = parts_join Value.Int differences_text NeverFallsShort IsInt Code.Differences Kind.Int rising_ints IsList w.in-RisingInts-RisingInts.left w.in-RisingInts-RisingInts.right w.in_ok-join-in-RisingInts-RisingInts.field-0 x y w.in_ok-join-in-RisingInts-RisingInts.ensures l.holds r.holds })
  | in-PlainInts-PlainInts+in_ok-join-in-PlainInts-PlainInts w ↦ λ code kind x y hx hy.
      let l : IsPieceOf (pieces.PlainInts w.in-PlainInts-PlainInts.left) code kind x = subst (λ (p : Piece). IsPieceOf p code kind x) w.in-PlainInts-PlainInts.is-0 hx in
      let r : IsPieceOf (pieces.PlainInts w.in-PlainInts-PlainInts.right) code kind y = subst (λ (p : Piece). IsPieceOf p code kind y) w.in-PlainInts-PlainInts.is-1 hy in
      subst (λ (p : Piece). IsPieceOf p code kind (x ++ y)) (sym w.result-is) (record { code_is = l.code_is; kind_is = l.kind_is; holds = parts_join Value.Int (plain_text int_cell) IsShort IsInt Code.Plain Kind.Int plain_ints (IsPlainPart int_cell) w.in-PlainInts-PlainInts.left w.in-PlainInts-PlainInts.right w.in_ok-join-in-PlainInts-PlainInts.field-0 x y w.in_ok-join-in-PlainInts-PlainInts.ensures l.holds r.holds })
  | in-PlainTexts-PlainTexts+in_ok-join-in-PlainTexts-PlainTexts w ↦ λ code kind x y hx hy.
      let l : IsPieceOf (pieces.PlainTexts w.in-PlainTexts-PlainTexts.left) code kind x = subst (λ (p : Piece). IsPieceOf p code kind x) w.in-PlainTexts-PlainTexts.is-0 hx in
      let r : IsPieceOf (pieces.PlainTexts w.in-PlainTexts-PlainTexts.right) code kind y = subst (λ (p : Piece). IsPieceOf p code kind y) w.in-PlainTexts-PlainTexts.is-1 hy in
      subst (λ (p : Piece). IsPieceOf p code kind (x ++ y)) (sym w.result-is) (record { code_is = l.code_is; kind_is = l.kind_is; holds = parts_join Value.Text (plain_text text_cell) IsShort IsText Code.Plain Kind.Text plain_texts (IsPlainPart text_cell) w.in-PlainTexts-PlainTexts.left w.in-PlainTexts-PlainTexts.right w.in_ok-join-in-PlainTexts-PlainTexts.field-0 x y w.in_ok-join-in-PlainTexts-PlainTexts.ensures l.holds r.holds })
  | in-NoTexts-NoTexts w ↦ λ code kind x y hx hy.
      let l : IsPieceOf pieces.NoTexts code kind x = subst (λ (p : Piece). IsPieceOf p code kind x) w.in-NoTexts-NoTexts.is-0 hx in
      let r : IsPieceOf pieces.NoTexts code kind y = subst (λ (p : Piece). IsPieceOf p code kind y) w.in-NoTexts-NoTexts.is-1 hy in
      subst (λ (p : Piece). IsPieceOf p code kind (x ++ y)) (sym w.result-is) (record { code_is = l.code_is; kind_is = l.kind_is; holds = ap (λ (z : List Value). z ++ y) l.holds ∙ r.holds })
]
