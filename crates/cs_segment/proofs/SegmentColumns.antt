-- The columns of cells of a segment, and those of its base.
use Rattle.std.proofs.Common.{◌≡◌, ℕ, ◌<◌, List, [], map, length, get_or, sym, ap, ◌∙◌, arith}
use Rattle.std.proofs.lemmas.List.{get_or-map, length-map}
use Rattle.std.proofs.lemmas.List.FromFn.{get_or-map-range_with_len, length-map-range_with_len}
use Rattle.cs_schema.specs.declared.kinds.Kind.{Kind}
use Rattle.cs_schema.specs.declared.kinds.Code.{Code}
use Rattle.cs_schema.specs.declared.cells.Value.{Value}
use Rattle.cs_schema.specs.declared.cells.Cells.{Cells}
use Rattle.cs_schema.specs.CatalogData.{CatalogData, projection, kind_at}
use Rattle.cs_schema.specs.Values.{values, kind_of}
use Rattle.cs_codec.specs.ColumnText.{FitsColumn}
use Rattle.cs_piece.specs.Columns.{CanEncode}
use Rattle.cs_segment.specs.SegmentData.{kinds_at}

pub cells_at : (columns : List (List Value)) (xs : List Cells) (j : ℕ) (x : Cells) → map values xs ≡ columns → j < length xs → x ≡ get_or xs j x → values x ≡ get_or columns j []
cells_at columns xs j x e l is = ap values is ∙ sym (get_or-map values xs j x [] l) ∙ ap (λ (vs : List (List Value)). get_or vs j []) e

pub kind_is : (C : CatalogData) (p : ℕ) (xs : List Cells) (j : ℕ) (x : Cells) → map kind_of xs ≡ kinds_at C p → j < length xs → x ≡ get_or xs j x → kind_of x ≡ kind_at C p j
kind_is C p xs j x e l is =
    let n = length (projection C p).columns in
    let wide : length xs ≡ n = sym (length-map xs kind_of) ∙ ap length e ∙ length-map-range_with_len (kind_at C p) 0 n in
    ap kind_of is ∙ sym (get_or-map kind_of xs j x Kind.Int l) ∙ ap (λ (ks : List Kind). get_or ks j Kind.Int) e
    ∙ get_or-map-range_with_len (kind_at C p) 0 n j j Kind.Int (omega arith) (omega arith)

pub fits_encoding : (code : Code) (kind : Kind) (v : List Value) → FitsColumn code kind v → CanEncode code kind v
fits_encoding code kind v f = record { count = f.count; order = f.order }
