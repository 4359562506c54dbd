-- A segment of a store, the bodies of its columns, and its file.
use Rattle.std.proofs.Common.{◌≡◌, ℕ, ◌+◌, List, [], ◌∷◌, ◌++◌, map, length, sym, ap, subst, ◌∙◌, arith, Result, Ok, Err}
use Rattle.std.specs.Prelude.{IfOk, OnOk}
use Rattle.std.specs.Global.{Vec}
use Rattle.std.proofs.lemmas.List.{append-nil, length-map}
use Rattle.std.proofs.lemmas.List.Concat.{flat_map-append}
use Rattle.std.proofs.lemmas.List.FromFn.{length-map-range_with_len, get_or-map-range_with_len}
use Rattle.cs_schema.specs.declared.kinds.Code.{Code}
use Rattle.cs_schema.specs.declared.kinds.Kind.{Kind}
use Rattle.cs_schema.specs.declared.cells.Value.{Value}
use Rattle.cs_schema.specs.Rows.{Row, cell, project}
use Rattle.cs_codec.specs.ColumnText.{cell_bytes, column_text, FitsColumn}
use Rattle.cs_codec.proofs.PlainLemmas.{plain_text-append}
use Rattle.cs_order.specs.Orders.{row_at}
use Rattle.cs_piece.specs.declared.pieces.Piece.{Piece}
use Rattle.cs_piece.specs.Pieces.{IsPieceOf, IsTextOf, IsShortTextOf}
use Rattle.cs_piece.proofs.ShortTexts.{short_text}
use Rattle.cs_segment.specs.Bodies.{body_part}
use Rattle.cs_segment.specs.SegmentWriter.{joined}
use Rattle.cs_segment.specs.SegmentFile.{IsBase, base_column, sealed, segment_text}
use Rattle.cs_segment.proofs.PieceColumns.{text_more, text_whole}
use Rattle.cs_rebuild.specs.Encoding.{base_at}
use Rattle.cs_rebuild.specs.OnStore.{segment_file_on}
use Rattle.cs_rebuild.specs.SegmentEncoder.{Appends, CanEncodeAt, HasColumn, HoldsFirst, IsBody, IsColumnBody, base_in, code_in, column_count, kind_in, values_in}
use Rattle.cs_rebuild.specs.declared.segment_encoder.SegmentEncoder.{SegmentEncoder}
use Rattle.cs_rebuild.proofs.SoundFacts as sound

pub on_then : {T E P Q : Type 0} (r : Result T E) → OnOk r P → (P → Q) → OnOk r Q
on_then (Ok x) h k = k h
on_then (Err e) h k = tt

-- ---- the rows of a segment

module _ (e : SegmentEncoder) where
  has_base : IsBase e.store.now.catalog.now e.p (base_in e)
  has_base =
      let g = e.store.now in
      subst (λ ns. IsBase g.catalog.now e.p (base_at g.catalog.now e.p g.walked.rows ns)) (sym e.numbers_are)
      (sound.has_base g.catalog.now e.rules g.walked g.orders g.table g.fits e.p e.s e.segment g.each)

  pub can_encode_all : (j : ℕ) → HasColumn e j → CanEncodeAt e j e.numbers.now
  can_encode_all j l =
      let g = e.store.now in
      subst (CanEncodeAt e j) (sym e.numbers_are) (record {
        below = λ k. g.below e.p e.s k e.segment.0;
        few = g.ranges e.p e.s e.segment;
        rises = sound.rises g.catalog.now e.rules g.walked g.orders g.table g.fits e.p e.s e.segment g.each j l;
      })

  abbrev projected : List Row
  projected = map (project e.store.now.catalog.now e.p) (map (row_at e.store.now.walked.rows) e.numbers.now)

  pub rows_are : (base_in e).rows ≡ length e.numbers.now
  rows_are = length-map (map (row_at e.store.now.walked.rows) e.numbers.now) (project e.store.now.catalog.now e.p) ∙ length-map e.numbers.now (row_at e.store.now.walked.rows)

  width_is : length (base_in e).columns ≡ column_count e
  width_is = length-map-range_with_len (λ j. map (λ x. cell x j) projected) 0 (column_count e)

  module _ (j : ℕ) (below : HasColumn e j) where
    column_is : base_column (base_in e) j ≡ values_in e j e.numbers.now
    column_is = get_or-map-range_with_len (λ i. map (λ x. cell x i) projected) 0 (column_count e) j j [] below (omega arith) ∙ sound.values_are e.store.now.catalog.now e.p e.store.now.walked.rows j below e.numbers.now

    pub fits_column : FitsColumn (code_in e j) (kind_in e j) (values_in e j e.numbers.now)
    fits_column = let w = width_is in subst (FitsColumn (code_in e j) (kind_in e j)) column_is (has_base.columns j (omega arith))

    pub appends : (body : Vec (Vec ℕ)) (old new : List ℕ) → IsBody e j body → new ≡ old ++ body_part (code_in e j) (kind_in e j) (joined body.items) → Appends e j old new
    appends body old new is k holds =
        let w = width_is in
        let code : Code = code_in e j in
        let kind : Kind = kind_in e j in
        text_more e.store.now.catalog.now e.p e.s (base_in e) j old new (omega arith) holds (k ∙ ap (λ x. old ++ body_part code kind x) (is.is ∙ ap (column_text code) (sym column_is)))

  -- sealing all columns gives the file
  pub file_is : {E : Type 0} (r : Result (Vec ℕ) E) (body : List ℕ) → HoldsFirst e (column_count e) body → IfOk r (λ file. file.items ≡ sealed body) → IfOk r (λ file. file.items ≡ segment_file_on e.store.now e.p e.s)
  file_is (Ok file) body holds k =
      let g = e.store.now in
      let w = width_is in
      k ∙ ap sealed (text_whole g.catalog.now e.p e.s (base_in e) (column_count e) body has_base (omega arith) holds)
      ∙ ap (λ ns. segment_text g.catalog.now e.p e.s (base_at g.catalog.now e.p g.walked.rows ns)) e.numbers_are
      ∙ ap (segment_text g.catalog.now e.p e.s) (sound.base_here g.catalog.now e.rules g.walked g.orders g.table g.fits e.p e.s e.segment g.each)
  file_is (Err x) body holds k = tt

-- ---- the body of a column

plain_joined : (x y : List Value) → column_text Code.Plain (x ++ y) ≡ column_text Code.Plain x ++ column_text Code.Plain y
plain_joined = plain_text-append cell_bytes

joined_push : (parts : List (Vec ℕ)) (part : Vec ℕ) → joined (parts ++ part ∷ []) ≡ joined parts ++ part.items
joined_push parts part = flat_map-append (λ (piece : Vec ℕ). piece.items) parts (part ∷ []) ∙ ap (λ last. joined parts ++ last) (append-nil part.items)

-- no plain chunks yet
pub plain_begun : (parts : List (Vec ℕ)) (v : List Value) → parts ≡ [] → v ≡ [] → joined parts ≡ column_text Code.Plain v
plain_begun parts v e k = ap joined e ∙ sym (ap (column_text Code.Plain) k)

-- one more plain chunk
pub plain_grown : (before after : List (Vec ℕ)) (part : Vec ℕ) (chunk : Piece) (kind : Kind) (v w : List Value)
    → after ≡ before ++ part ∷ [] → IsTextOf chunk part.items → IsPieceOf chunk Code.Plain kind w → joined before ≡ column_text Code.Plain v → joined after ≡ column_text Code.Plain (v ++ w)
plain_grown before after part chunk kind v w e written is held =
    ap joined e ∙ joined_push before part ∙ ap (λ x. x ++ part.items) held ∙ ap (λ x. column_text Code.Plain v ++ x) (written Code.Plain kind w is) ∙ sym (plain_joined v w)

-- the parts together are the body
pub column_whole : (code known : Code) (kind : Kind) (v : List Value) (body : List ℕ) → code ≡ known → body ≡ column_text known v → IsColumnBody code kind v body
column_whole code known kind v body same held =
    let is : body ≡ column_text code v = held ∙ ap (λ x. column_text x v) (sym same) in
    record { is = is; short = λ fits. short_text code kind v body fits is }

-- a single part is the body
pub part_alone : (none parts : List (Vec ℕ)) (part : Vec ℕ) (column : Piece) (code : Code) (kind : Kind) (v : List Value)
    → none ≡ [] → parts ≡ none ++ part ∷ [] → IsTextOf column part.items → IsShortTextOf column part.items → IsPieceOf column code kind v → IsColumnBody code kind v (joined parts)
part_alone none parts part column code kind v empty pushed written short is =
    let alone : joined parts ≡ part.items = ap joined (pushed ∙ ap (λ front. front ++ part ∷ []) empty) ∙ append-nil part.items in
    subst (IsColumnBody code kind v) (sym alone) (record { is = written code kind v is; short = short code kind v is })
