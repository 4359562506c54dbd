use Rattle.std.proofs.Common.{◌∙◌, ap, subst}
use Rattle.std.specs.Prelude.{nat_eq}
use Rattle.std.specs.Ordering.{nat_cmp, int_eq, int_cmp}
use Rattle.std.specs.Cmp.Lexicographic.{pointwise, slice_cmp}
use Rattle.std.proofs.lemmas.Result.{IfOk-weaker}
use Rattle.cs_schema.specs.declared.kinds.Code.{Code}
use Rattle.cs_schema.specs.declared.kinds.Kind.{Kind}
use Rattle.cs_schema.specs.declared.cells.Value.{Value}
use Rattle.cs_codec.specs.Cells.{int_cell, text_cell, IsInt, IsText}
use Rattle.cs_codec.specs.Encodings.{IsShort}
use Rattle.cs_codec.specs.Texts.{plain_text, runs_text, differences_text, bitmaps_text}
use Rattle.cs_codec.specs.Differences.{NeverFallsShort}
use Rattle.cs_codec.specs.Plain.{IsPlainPart}
use Rattle.cs_codec.specs.BitmapParts.{IsBitmapsPart}
use Rattle.cs_piece.specs.declared.pieces.Piece.{Piece}
use Rattle.cs_piece.specs.declared.pieces.Piece.TheVariants as pieces
use Rattle.cs_codec.specs.ColumnText.{column_text}
use Rattle.cs_piece.specs.Pieces.{IsPieceOf, IsList}
use Rattle.cs_piece.proofs.Variants.{int_runs, text_runs, int_bitmaps, text_bitmaps, rising_ints, plain_ints, plain_texts, written_is}
use Rattle.cs_piece.proofs.ShortTexts.{short_text}
use Rattle.cs_piece.proofs.pieces.write_piece.Goals as goal

pub returns-in-IntRuns-clause-text : goal.returns-in-IntRuns-clause-text
returns-in-IntRuns-clause-text c = IfOk-weaker c.write.result _ _ (λ out wrote. λ code kind v h.
    let p : IsPieceOf (pieces.IntRuns c.in-IntRuns.part) code kind v = subst (λ (p : Piece). IsPieceOf p code kind v) c.in-IntRuns.is h in
    written_is Value.Int (runs_text int_cell int_eq) IsShort IsInt Code.Runs Kind.Int int_runs IsList c.in-IntRuns.part out.items v wrote p.holds ∙ ap (λ (k : Code). column_text k v) p.code_is) c.write.ensures

pub returns-in-IntRuns-clause-short : goal.returns-in-IntRuns-clause-short
returns-in-IntRuns-clause-short c = IfOk-weaker c.write.result _ _ (λ out wrote. λ code kind v h fits.
    let p : IsPieceOf (pieces.IntRuns c.in-IntRuns.part) code kind v = subst (λ (p : Piece). IsPieceOf p code kind v) c.in-IntRuns.is h in
    short_text code kind v out.items fits (written_is Value.Int (runs_text int_cell int_eq) IsShort IsInt Code.Runs Kind.Int int_runs IsList c.in-IntRuns.part out.items v wrote p.holds ∙ ap (λ (k : Code). column_text k v) p.code_is)) c.write.ensures

pub returns-in-TextRuns-clause-text : goal.returns-in-TextRuns-clause-text
returns-in-TextRuns-clause-text c = IfOk-weaker c.write-in-TextRuns.result _ _ (λ out wrote. λ code kind v h.
    let p : IsPieceOf (pieces.TextRuns c.in-TextRuns.part) code kind v = subst (λ (p : Piece). IsPieceOf p code kind v) c.in-TextRuns.is h in
    written_is Value.Text (runs_text text_cell (pointwise nat_eq)) IsShort IsText Code.Runs Kind.Text text_runs IsList c.in-TextRuns.part out.items v wrote p.holds ∙ ap (λ (k : Code). column_text k v) p.code_is) c.write-in-TextRuns.ensures

pub returns-in-TextRuns-clause-short : goal.returns-in-TextRuns-clause-short
returns-in-TextRuns-clause-short c = IfOk-weaker c.write-in-TextRuns.result _ _ (λ out wrote. λ code kind v h fits.
    let p : IsPieceOf (pieces.TextRuns c.in-TextRuns.part) code kind v = subst (λ (p : Piece). IsPieceOf p code kind v) c.in-TextRuns.is h in
    short_text code kind v out.items fits (written_is Value.Text (runs_text text_cell (pointwise nat_eq)) IsShort IsText Code.Runs Kind.Text text_runs IsList c.in-TextRuns.part out.items v wrote p.holds ∙ ap (λ (k : Code). column_text k v) p.code_is)) c.write-in-TextRuns.ensures

pub returns-in-IntBitmaps-clause-text : goal.returns-in-IntBitmaps-clause-text
returns-in-IntBitmaps-clause-text c = IfOk-weaker c.write-in-IntBitmaps.result _ _ (λ out wrote. λ code kind v h.
    let p : IsPieceOf (pieces.IntBitmaps c.in-IntBitmaps.part) code kind v = subst (λ (p : Piece). IsPieceOf p code kind v) c.in-IntBitmaps.is h in
    written_is Value.Int (bitmaps_text int_cell int_eq int_cmp) IsShort IsInt Code.Bitmaps Kind.Int int_bitmaps (IsBitmapsPart int_eq int_cmp) c.in-IntBitmaps.part out.items v wrote p.holds ∙ ap (λ (k : Code). column_text k v) p.code_is) c.write-in-IntBitmaps.ensures

pub returns-in-IntBitmaps-clause-short : goal.returns-in-IntBitmaps-clause-short
returns-in-IntBitmaps-clause-short c = IfOk-weaker c.write-in-IntBitmaps.result _ _ (λ out wrote. λ code kind v h fits.
    let p : IsPieceOf (pieces.IntBitmaps c.in-IntBitmaps.part) code kind v = subst (λ (p : Piece). IsPieceOf p code kind v) c.in-IntBitmaps.is h in
    short_text code kind v out.items fits (written_is Value.Int (bitmaps_text int_cell int_eq int_cmp) IsShort IsInt Code.Bitmaps Kind.Int int_bitmaps (IsBitmapsPart int_eq int_cmp) c.in-IntBitmaps.part out.items v wrote p.holds ∙ ap (λ (k : Code). column_text k v) p.code_is)) c.write-in-IntBitmaps.ensures

pub returns-in-TextBitmaps-clause-text : goal.returns-in-TextBitmaps-clause-text
returns-in-TextBitmaps-clause-text c = IfOk-weaker c.write-in-TextBitmaps.result _ _ (λ out wrote. λ code kind v h.
    let p : IsPieceOf (pieces.TextBitmaps c.in-TextBitmaps.part) code kind v = subst (λ (p : Piece). IsPieceOf p code kind v) c.in-TextBitmaps.is h in
    written_is Value.Text (bitmaps_text text_cell (pointwise nat_eq) (slice_cmp nat_cmp)) IsShort IsText Code.Bitmaps Kind.Text text_bitmaps (IsBitmapsPart (pointwise nat_eq) (slice_cmp nat_cmp)) c.in-TextBitmaps.part out.items v wrote p.holds ∙ ap (λ (k : Code). column_text k v) p.code_is) c.write-in-TextBitmaps.ensures

pub returns-in-TextBitmaps-clause-short : goal.returns-in-TextBitmaps-clause-short
returns-in-TextBitmaps-clause-short c = IfOk-weaker c.write-in-TextBitmaps.result _ _ (λ out wrote. λ code kind v h fits.
    let p : IsPieceOf (pieces.TextBitmaps c.in-TextBitmaps.part) code kind v = subst (λ (p : Piece). IsPieceOf p code kind v) c.in-TextBitmaps.is h in
    short_text code kind v out.items fits (written_is Value.Text (bitmaps_text text_cell (pointwise nat_eq) (slice_cmp nat_cmp)) IsShort IsText Code.Bitmaps Kind.Text text_bitmaps (IsBitmapsPart (pointwise nat_eq) (slice_cmp nat_cmp)) c.in-TextBitmaps.part out.items v wrote p.holds ∙ ap (λ (k : Code). column_text k v) p.code_is)) c.write-in-TextBitmaps.ensures

pub returns-in-RisingInts-clause-text : goal.returns-in-RisingInts-clause-text
returns-in-RisingInts-clause-text c = IfOk-weaker c.write-in-RisingInts.result _ _ (λ out wrote. λ code kind v h.
    let p : IsPieceOf (pieces.RisingInts c.in-RisingInts.part) code kind v = subst (λ (p : Piece). IsPieceOf p code kind v) c.in-RisingInts.is h in
    written_is Value.Int differences_text NeverFallsShort IsInt Code.Differences Kind.Int rising_ints IsList c.in-RisingInts.part out.items v wrote p.holds ∙ ap (λ (k : Code). column_text k v) p.code_is) c.write-in-RisingInts.ensures

pub returns-in-RisingInts-clause-short : goal.returns-in-RisingInts-clause-short
returns-in-RisingInts-clause-short c = IfOk-weaker c.write-in-RisingInts.result _ _ (λ out wrote. λ code kind v h fits.
    let p : IsPieceOf (pieces.RisingInts c.in-RisingInts.part) code kind v = subst (λ (p : Piece). IsPieceOf p code kind v) c.in-RisingInts.is h in
    short_text code kind v out.items fits (written_is Value.Int differences_text NeverFallsShort IsInt Code.Differences Kind.Int rising_ints IsList c.in-RisingInts.part out.items v wrote p.holds ∙ ap (λ (k : Code). column_text k v) p.code_is)) c.write-in-RisingInts.ensures

pub returns-in-PlainInts-clause-text : goal.returns-in-PlainInts-clause-text
returns-in-PlainInts-clause-text c = IfOk-weaker c.write-in-PlainInts.result _ _ (λ out wrote. λ code kind v h.
    let p : IsPieceOf (pieces.PlainInts c.in-PlainInts.part) code kind v = subst (λ (p : Piece). IsPieceOf p code kind v) c.in-PlainInts.is h in
    written_is Value.Int (plain_text int_cell) IsShort IsInt Code.Plain Kind.Int plain_ints (IsPlainPart int_cell) c.in-PlainInts.part out.items v wrote p.holds ∙ ap (λ (k : Code). column_text k v) p.code_is) c.write-in-PlainInts.ensures

pub returns-in-PlainInts-clause-short : goal.returns-in-PlainInts-clause-short
returns-in-PlainInts-clause-short c = IfOk-weaker c.write-in-PlainInts.result _ _ (λ out wrote. λ code kind v h fits.
    let p : IsPieceOf (pieces.PlainInts c.in-PlainInts.part) code kind v = subst (λ (p : Piece). IsPieceOf p code kind v) c.in-PlainInts.is h in
    short_text code kind v out.items fits (written_is Value.Int (plain_text int_cell) IsShort IsInt Code.Plain Kind.Int plain_ints (IsPlainPart int_cell) c.in-PlainInts.part out.items v wrote p.holds ∙ ap (λ (k : Code). column_text k v) p.code_is)) c.write-in-PlainInts.ensures

pub returns-in-PlainTexts-clause-text : goal.returns-in-PlainTexts-clause-text
returns-in-PlainTexts-clause-text c = IfOk-weaker c.write-in-PlainTexts.result _ _ (λ out wrote. λ code kind v h.
    let p : IsPieceOf (pieces.PlainTexts c.in-PlainTexts.part) code kind v = subst (λ (p : Piece). IsPieceOf p code kind v) c.in-PlainTexts.is h in
    written_is Value.Text (plain_text text_cell) IsShort IsText Code.Plain Kind.Text plain_texts (IsPlainPart text_cell) c.in-PlainTexts.part out.items v wrote p.holds ∙ ap (λ (k : Code). column_text k v) p.code_is) c.write-in-PlainTexts.ensures

pub returns-in-PlainTexts-clause-short : goal.returns-in-PlainTexts-clause-short
returns-in-PlainTexts-clause-short c = IfOk-weaker c.write-in-PlainTexts.result _ _ (λ out wrote. λ code kind v h fits.
    let p : IsPieceOf (pieces.PlainTexts c.in-PlainTexts.part) code kind v = subst (λ (p : Piece). IsPieceOf p code kind v) c.in-PlainTexts.is h in
    short_text code kind v out.items fits (written_is Value.Text (plain_text text_cell) IsShort IsText Code.Plain Kind.Text plain_texts (IsPlainPart text_cell) c.in-PlainTexts.part out.items v wrote p.holds ∙ ap (λ (k : Code). column_text k v) p.code_is)) c.write-in-PlainTexts.ensures
