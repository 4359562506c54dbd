use Rattle.std.proofs.Common.{◌≡◌, ◌∙◌, ℕ, List, ap, subst}
use Rattle.std.proofs.lemmas.Result.{IfOk-weaker}
use Rattle.cs_schema.specs.declared.kinds.Code.{Code}
use Rattle.cs_schema.specs.declared.kinds.Kind.{Kind}
use Rattle.cs_schema.specs.declared.cells.Value.{Value}
use Rattle.cs_codec.specs.declared.plain.PlainPart.{PlainPart}
use Rattle.cs_codec.specs.Cells.{int_cell, text_cell, IsInt, IsText}
use Rattle.cs_codec.specs.ColumnText.{column_text}
use Rattle.cs_codec.specs.Encodings.{IsShort}
use Rattle.cs_codec.specs.Plain.{IsPlainPart, kept_bytes}
use Rattle.cs_codec.specs.Texts.{plain_text}
use Rattle.cs_piece.specs.declared.pieces.Piece.{Piece}
use Rattle.cs_piece.specs.declared.pieces.Piece.TheVariants as pieces
use Rattle.cs_piece.specs.Pieces.{IsPieceOf, IsTextOf}
use Rattle.cs_piece.proofs.Variants.{plain_ints, plain_texts, written_is}
use Rattle.cs_piece.proofs.ShortTexts.{short_text}
use Rattle.cs_piece.proofs.pieces.piece_text.Goals as goal

-- the kept bytes of plain cells are the body of their column
ints_kept : (piece : Piece) (part : PlainPart) (out : List ℕ) → piece ≡ pieces.PlainInts part → out ≡ kept_bytes part.lone part.bytes.items → IsTextOf piece out
ints_kept piece part out is kept code kind v h =
    let p : IsPieceOf (pieces.PlainInts part) code kind v = subst (λ (p : Piece). IsPieceOf p code kind v) is h in
    written_is Value.Int (plain_text int_cell) IsShort IsInt Code.Plain Kind.Int plain_ints (IsPlainPart int_cell) part out v (λ x stands. kept ∙ stands.bytes_are) p.holds ∙ ap (λ (k : Code). column_text k v) p.code_is

texts_kept : (piece : Piece) (part : PlainPart) (out : List ℕ) → piece ≡ pieces.PlainTexts part → out ≡ kept_bytes part.lone part.bytes.items → IsTextOf piece out
texts_kept piece part out is kept code kind v h =
    let p : IsPieceOf (pieces.PlainTexts part) code kind v = subst (λ (p : Piece). IsPieceOf p code kind v) is h in
    written_is Value.Text (plain_text text_cell) IsShort IsText Code.Plain Kind.Text plain_texts (IsPlainPart text_cell) part out v (λ x stands. kept ∙ stands.bytes_are) p.holds ∙ ap (λ (k : Code). column_text k v) p.code_is

pub returns-in-PlainInts-clause-text : goal.returns-in-PlainInts-clause-text
returns-in-PlainInts-clause-text c = IfOk-weaker c.into_text.result _ _ (λ out kept. ints_kept c.args.piece c.in-PlainInts.part out.items c.in-PlainInts.is kept) c.into_text.ensures

pub returns-in-PlainInts-clause-short : goal.returns-in-PlainInts-clause-short
returns-in-PlainInts-clause-short c = IfOk-weaker c.into_text.result _ _ (λ out kept. λ code kind v h fits. short_text code kind v out.items fits (ints_kept c.args.piece c.in-PlainInts.part out.items c.in-PlainInts.is kept code kind v h)) c.into_text.ensures

pub returns-in-PlainTexts-clause-text : goal.returns-in-PlainTexts-clause-text
returns-in-PlainTexts-clause-text c = IfOk-weaker c.into_text-in-PlainTexts.result _ _ (λ out kept. texts_kept c.args.piece c.in-PlainTexts.part out.items c.in-PlainTexts.is kept) c.into_text-in-PlainTexts.ensures

pub returns-in-PlainTexts-clause-short : goal.returns-in-PlainTexts-clause-short
returns-in-PlainTexts-clause-short c = IfOk-weaker c.into_text-in-PlainTexts.result _ _ (λ out kept. λ code kind v h fits. short_text code kind v out.items fits (texts_kept c.args.piece c.in-PlainTexts.part out.items c.in-PlainTexts.is kept code kind v h)) c.into_text-in-PlainTexts.ensures
