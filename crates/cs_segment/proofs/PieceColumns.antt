-- Pieces and the columns of a base.
use Rattle.std.proofs.Common.{◌≡◌, ℕ, ◌+◌, ◌<◌, ◌≤◌, List, [], ◌++◌, length, get_or, take, sym, ap, subst, ◌∙◌, arith, append_assoc, append-nil, Result, Ok, Err}
use Rattle.std.specs.Prelude.{IfOk}
use Rattle.std.proofs.lemmas.List.{take_more, take_all, length-take}
use Rattle.cs_schema.specs.declared.cells.Value.{Value}
use Rattle.cs_schema.specs.CatalogData.{CatalogData, projection, code_at, kind_at}
use Rattle.cs_codec.specs.ColumnText.{FitsColumn}
use Rattle.cs_piece.specs.declared.pieces.Piece.{Piece}
use Rattle.cs_piece.specs.Pieces.{IsPieceOf}
use Rattle.cs_segment.specs.SegmentFile.{Base, IsBase, base_column, sealed, segment_body, segment_text}
use Rattle.cs_segment.specs.Parts.{head_text, part_text, parts_text, text_before}
use Rattle.cs_segment.specs.SegmentPieces.{ArePiecesOf}
use Rattle.cs_segment.proofs.PartLists.{all-at, parts_text-push}
use Rattle.cs_segment.proofs.Heads.{head_of}

pub column_at : (C : CatalogData) (p rows : ℕ) (pieces : List Piece) (b : Base) → ArePiecesOf C p rows pieces b → (j : ℕ) (piece : Piece) → j < length pieces → piece ≡ get_or pieces j piece → IsPieceOf piece (code_at C p j) (kind_at C p j) (base_column b j) × FitsColumn (code_at C p j) (kind_at C p j) (base_column b j)
column_at C p rows pieces b h j piece l e =
    let P : ℕ → Piece → Type 0 = λ n x. IsPieceOf x (code_at C p n) (kind_at C p n) (base_column b n) in
    let here : P (0 + j) (get_or pieces j piece) = all-at P 0 pieces h.pieces_are j piece l in
    let N : ℕ → Type 0 = λ n. P n (get_or pieces j piece) in
    let X : Piece → Type 0 = λ x. P j x in
    let place : 0 + j ≡ j = omega arith in
    let wide = h.width in
    (subst X (sym e) (subst N place here), h.base.columns j (omega arith))

pub parts_more : (C : CatalogData) (p : ℕ) (b : Base) (j : ℕ) → j < length b.columns → parts_text C p 0 (take (j + 1) b.columns) ≡ parts_text C p 0 (take j b.columns) ++ part_text (code_at C p j) (kind_at C p j) (base_column b j)
parts_more C p b j l =
    let done : List (List Value) = take j b.columns in
    let v : List Value = base_column b j in
    let place : 0 + length (take j b.columns) ≡ j = omega (arith, length-take j b.columns) in
    ap (parts_text C p 0) (take_more b.columns j [] l) ∙ parts_text-push C p 0 (take j b.columns) (base_column b j) ∙ ap (λ n. parts_text C p 0 (take j b.columns) ++ part_text (code_at C p n) (kind_at C p n) (base_column b j)) place

-- ---- the bytes of a base's file while it is written

pub text_begun : (C : CatalogData) (p s rows : ℕ) (b : Base) (out : List ℕ) → b.rows ≡ rows → out ≡ head_text p s rows (length (projection C p).columns) → out ≡ text_before C p s b 0
text_begun C p s rows b out r e =
    let width : ℕ = length (projection C p).columns in
    e ∙ ap (λ n. head_text p s n width) (sym r) ∙ sym (append-nil (head_text p s b.rows width))

pub text_more : (C : CatalogData) (p s : ℕ) (b : Base) (j : ℕ) (old new : List ℕ) → j < length b.columns → old ≡ text_before C p s b j → new ≡ old ++ part_text (code_at C p j) (kind_at C p j) (base_column b j) → new ≡ text_before C p s b (j + 1)
text_more C p s b j old new l e k =
    let head : List ℕ = head_text p s b.rows (length (projection C p).columns) in
    let part : List ℕ = part_text (code_at C p j) (kind_at C p j) (base_column b j) in
    k ∙ ap (λ (a : List ℕ). a ++ part) e ∙ append_assoc head (parts_text C p 0 (take j b.columns)) part ∙ ap (λ (a : List ℕ). head ++ a) (sym (parts_more C p b j l))

pub text_whole : (C : CatalogData) (p s : ℕ) (b : Base) (j : ℕ) (out : List ℕ) → IsBase C p b → length b.columns ≤ j → out ≡ text_before C p s b j → out ≡ segment_body C p s b
text_whole C p s b j out h l e =
    e ∙ ap (λ (cs : List (List Value)). head_text p s b.rows (length (projection C p).columns) ++ parts_text C p 0 cs) (take_all j b.columns l)
    ∙ sym (head_of C p s b h).text

-- the sealed bytes are the file of each base whose pieces were written
pub file_made : {V E : Type 0} (items : V → List ℕ) (C : CatalogData) (p s rows j : ℕ) (pieces : List Piece) (r : Result V E) (body : List ℕ) → IfOk r (λ out. items out ≡ sealed body) → length pieces ≤ j → ((b : Base) → ArePiecesOf C p rows pieces b → body ≡ text_before C p s b j)
    → IfOk r (λ out. (b : Base) → ArePiecesOf C p rows pieces b → items out ≡ segment_text C p s b)
file_made items C p s rows j pieces (Ok out) body h l e = λ b a. let wide = a.width in h ∙ ap sealed (text_whole C p s b j body a.base (omega arith) (e b a))
file_made items C p s rows j pieces (Err x) body h l e = tt
