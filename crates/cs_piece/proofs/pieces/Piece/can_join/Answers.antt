use Rattle.std.proofs.Common.{arith, ◌≡◌, ◌∙◌, ◌++◌, ap, subst, refl, List, [], length}
use Rattle.std.specs.Prelude.{nat_eq}
use Rattle.std.specs.Ordering.{nat_cmp, int_eq, int_cmp}
use Rattle.std.specs.Cmp.Lexicographic.{pointwise, slice_cmp}
use Rattle.cs_schema.specs.declared.kinds.Code.{Code}
use Rattle.cs_schema.specs.declared.kinds.Kind.{Kind}
use Rattle.cs_schema.specs.declared.cells.Value.{Value}
use Rattle.cs_codec.specs.Cells.{int_cell, text_cell, IsInt, IsText}
use Rattle.cs_codec.specs.Encodings.{IsShort}
use Rattle.cs_codec.specs.Texts.{plain_text, runs_text, differences_text, bitmaps_text}
use Rattle.cs_codec.specs.Differences.{NeverFallsShort}
use Rattle.cs_codec.specs.Plain.{IsPlainPart}
use Rattle.cs_codec.specs.BitmapParts.{IsBitmapsPart}
use Rattle.cs_piece.specs.declared.pieces.Piece.{Piece}
use Rattle.cs_piece.specs.declared.pieces.Piece.TheVariants as pieces
use Rattle.cs_piece.specs.Columns.{CanEncode}
use Rattle.cs_piece.specs.Pieces.{IsPieceOf, IsList}
use Rattle.cs_piece.proofs.Variants.{int_runs, text_runs, int_bitmaps, text_bitmaps, rising_ints, plain_ints, plain_texts, parts_tell, fit_together}
use Rattle.cs_piece.proofs.pieces.Piece.can_join.Goals as goal
use Rattle.std.proofs.Common.{true}

pub returns-in-IntRuns-IntRuns : goal.returns-in-IntRuns-IntRuns
returns-in-IntRuns-IntRuns c = λ code code2 kind kind2 x y hx hy.
    let l : IsPieceOf (pieces.IntRuns c.in-IntRuns-IntRuns.left) code kind x = subst (λ (p : Piece). IsPieceOf p code kind x) c.in-IntRuns-IntRuns.is-0 hx in
    let r : IsPieceOf (pieces.IntRuns c.in-IntRuns-IntRuns.right) code2 kind2 y = subst (λ (p : Piece). IsPieceOf p code2 kind2 y) c.in-IntRuns-IntRuns.is-1 hy in
    fit_together Code.Runs Kind.Int code code2 kind kind2 c.can_join.result x y l.code_is r.code_is l.kind_is r.kind_is (parts_tell Value.Int (runs_text int_cell int_eq) IsShort IsInt Code.Runs Kind.Int int_runs IsList c.in-IntRuns-IntRuns.left c.in-IntRuns-IntRuns.right c.can_join.result x y c.can_join.ensures l.holds r.holds)

pub returns-in-TextRuns-TextRuns : goal.returns-in-TextRuns-TextRuns
returns-in-TextRuns-TextRuns c = λ code code2 kind kind2 x y hx hy.
    let l : IsPieceOf (pieces.TextRuns c.in-TextRuns-TextRuns.left) code kind x = subst (λ (p : Piece). IsPieceOf p code kind x) c.in-TextRuns-TextRuns.is-0 hx in
    let r : IsPieceOf (pieces.TextRuns c.in-TextRuns-TextRuns.right) code2 kind2 y = subst (λ (p : Piece). IsPieceOf p code2 kind2 y) c.in-TextRuns-TextRuns.is-1 hy in
    fit_together Code.Runs Kind.Text code code2 kind kind2 c.can_join-in-TextRuns-TextRuns.result x y l.code_is r.code_is l.kind_is r.kind_is (parts_tell Value.Text (runs_text text_cell (pointwise nat_eq)) IsShort IsText Code.Runs Kind.Text text_runs IsList c.in-TextRuns-TextRuns.left c.in-TextRuns-TextRuns.right c.can_join-in-TextRuns-TextRuns.result x y c.can_join-in-TextRuns-TextRuns.ensures l.holds r.holds)

pub returns-in-IntBitmaps-IntBitmaps : goal.returns-in-IntBitmaps-IntBitmaps
returns-in-IntBitmaps-IntBitmaps c = λ code code2 kind kind2 x y hx hy.
    let l : IsPieceOf (pieces.IntBitmaps c.in-IntBitmaps-IntBitmaps.left) code kind x = subst (λ (p : Piece). IsPieceOf p code kind x) c.in-IntBitmaps-IntBitmaps.is-0 hx in
    let r : IsPieceOf (pieces.IntBitmaps c.in-IntBitmaps-IntBitmaps.right) code2 kind2 y = subst (λ (p : Piece). IsPieceOf p code2 kind2 y) c.in-IntBitmaps-IntBitmaps.is-1 hy in
    fit_together Code.Bitmaps Kind.Int code code2 kind kind2 c.can_join-in-IntBitmaps-IntBitmaps.result x y l.code_is r.code_is l.kind_is r.kind_is (parts_tell Value.Int (bitmaps_text int_cell int_eq int_cmp) IsShort IsInt Code.Bitmaps Kind.Int int_bitmaps (IsBitmapsPart int_eq int_cmp) c.in-IntBitmaps-IntBitmaps.left c.in-IntBitmaps-IntBitmaps.right c.can_join-in-IntBitmaps-IntBitmaps.result x y c.can_join-in-IntBitmaps-IntBitmaps.ensures l.holds r.holds)

pub returns-in-TextBitmaps-TextBitmaps : goal.returns-in-TextBitmaps-TextBitmaps
returns-in-TextBitmaps-TextBitmaps c = λ code code2 kind kind2 x y hx hy.
    let l : IsPieceOf (pieces.TextBitmaps c.in-TextBitmaps-TextBitmaps.left) code kind x = subst (λ (p : Piece). IsPieceOf p code kind x) c.in-TextBitmaps-TextBitmaps.is-0 hx in
    let r : IsPieceOf (pieces.TextBitmaps c.in-TextBitmaps-TextBitmaps.right) code2 kind2 y = subst (λ (p : Piece). IsPieceOf p code2 kind2 y) c.in-TextBitmaps-TextBitmaps.is-1 hy in
    fit_together Code.Bitmaps Kind.Text code code2 kind kind2 c.can_join-in-TextBitmaps-TextBitmaps.result x y l.code_is r.code_is l.kind_is r.kind_is (parts_tell Value.Text (bitmaps_text text_cell (pointwise nat_eq) (slice_cmp nat_cmp)) IsShort IsText Code.Bitmaps Kind.Text text_bitmaps (IsBitmapsPart (pointwise nat_eq) (slice_cmp nat_cmp)) c.in-TextBitmaps-TextBitmaps.left c.in-TextBitmaps-TextBitmaps.right c.can_join-in-TextBitmaps-TextBitmaps.result x y c.can_join-in-TextBitmaps-TextBitmaps.ensures l.holds r.holds)

pub returns-in-RisingInts-RisingInts : goal.returns-in-RisingInts-RisingInts
returns-in-RisingInts-RisingInts c = λ code code2 kind kind2 x y hx hy.
    let l : IsPieceOf (pieces.RisingInts c.in-RisingInts-RisingInts.left) code kind x = subst (λ (p : Piece). IsPieceOf p code kind x) c.in-RisingInts-RisingInts.is-0 hx in
    let r : IsPieceOf (pieces.RisingInts c.in-RisingInts-RisingInts.right) code2 kind2 y = subst (λ (p : Piece). IsPieceOf p code2 kind2 y) c.in-RisingInts-RisingInts.is-1 hy in
    fit_together Code.Differences Kind.Int code code2 kind kind2 c.can_join-in-RisingInts-RisingInts.result x y l.code_is r.code_is l.kind_is r.kind_is (parts_tell Value.Int differences_text NeverFallsShort IsInt Code.Differences Kind.Int rising_ints IsList c.in-RisingInts-RisingInts.left c.in-RisingInts-RisingInts.right c.can_join-in-RisingInts-RisingInts.result x y c.can_join-in-RisingInts-RisingInts.ensures l.holds r.holds)

pub returns-in-PlainInts-PlainInts : goal.returns-in-PlainInts-PlainInts
returns-in-PlainInts-PlainInts c = λ code code2 kind kind2 x y hx hy.
    let l : IsPieceOf (pieces.PlainInts c.in-PlainInts-PlainInts.left) code kind x = subst (λ (p : Piece). IsPieceOf p code kind x) c.in-PlainInts-PlainInts.is-0 hx in
    let r : IsPieceOf (pieces.PlainInts c.in-PlainInts-PlainInts.right) code2 kind2 y = subst (λ (p : Piece). IsPieceOf p code2 kind2 y) c.in-PlainInts-PlainInts.is-1 hy in
    fit_together Code.Plain Kind.Int code code2 kind kind2 c.can_join-in-PlainInts-PlainInts.result x y l.code_is r.code_is l.kind_is r.kind_is (parts_tell Value.Int (plain_text int_cell) IsShort IsInt Code.Plain Kind.Int plain_ints (IsPlainPart int_cell) c.in-PlainInts-PlainInts.left c.in-PlainInts-PlainInts.right c.can_join-in-PlainInts-PlainInts.result x y c.can_join-in-PlainInts-PlainInts.ensures l.holds r.holds)

pub returns-in-PlainTexts-PlainTexts : goal.returns-in-PlainTexts-PlainTexts
returns-in-PlainTexts-PlainTexts c = λ code code2 kind kind2 x y hx hy.
    let l : IsPieceOf (pieces.PlainTexts c.in-PlainTexts-PlainTexts.left) code kind x = subst (λ (p : Piece). IsPieceOf p code kind x) c.in-PlainTexts-PlainTexts.is-0 hx in
    let r : IsPieceOf (pieces.PlainTexts c.in-PlainTexts-PlainTexts.right) code2 kind2 y = subst (λ (p : Piece). IsPieceOf p code2 kind2 y) c.in-PlainTexts-PlainTexts.is-1 hy in
    fit_together Code.Plain Kind.Text code code2 kind kind2 c.can_join-in-PlainTexts-PlainTexts.result x y l.code_is r.code_is l.kind_is r.kind_is (parts_tell Value.Text (plain_text text_cell) IsShort IsText Code.Plain Kind.Text plain_texts (IsPlainPart text_cell) c.in-PlainTexts-PlainTexts.left c.in-PlainTexts-PlainTexts.right c.can_join-in-PlainTexts-PlainTexts.result x y c.can_join-in-PlainTexts-PlainTexts.ensures l.holds r.holds)

pub returns-in-NoTexts-NoTexts : goal.returns-in-NoTexts-NoTexts
returns-in-NoTexts-NoTexts c = λ code code2 kind kind2 x y hx hy.
    let l : IsPieceOf pieces.NoTexts code kind x = subst (λ (p : Piece). IsPieceOf p code kind x) c.in-NoTexts-NoTexts.is-0 hx in
    let r : IsPieceOf pieces.NoTexts code2 kind2 y = subst (λ (p : Piece). IsPieceOf p code2 kind2 y) c.in-NoTexts-NoTexts.is-1 hy in
    let whole : x ++ y ≡ [] = ap (λ (z : List Value). z ++ y) l.holds ∙ r.holds in
    let size : length (x ++ y) ≡ 0 = ap (λ (z : List Value). length z) whole in
    let can : CanEncode Code.Differences Kind.Text (x ++ y) = record { count = omega (arith, size); order = whole } in
    fit_together Code.Differences Kind.Text code code2 kind kind2 true x y l.code_is r.code_is l.kind_is r.kind_is (λ t. can, λ h. refl)
