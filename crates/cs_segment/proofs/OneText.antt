-- Bytes are the file of at most one base.
use Rattle.std.proofs.Common.{◌≡◌, ℕ, ◌+◌, List, [], ◌∷◌, length, refl, sym, ap, ◌∙◌, arith}
use Rattle.cs_schema.specs.declared.cells.Value.{Value}
use Rattle.cs_schema.specs.CatalogData.{CatalogData, projection}
use Rattle.cs_segment.specs.SegmentFile.{Base, segment_body}
use Rattle.cs_schema.specs.CatalogData.{code_at, kind_at}
use Rattle.cs_schema.proofs.Widths.{at_most_32}
use Rattle.cs_piece.proofs.Variants.{have_one_column}
use Rattle.cs_segment.specs.Parts.{parts_text, AllFrom, IsColumnAt}
use Rattle.cs_segment.specs.Laws.{OneSegment}
use Rattle.cs_segment.proofs.PartLists.{one_part}
use Rattle.cs_segment.proofs.Heads.{file_head, one_head, parts_of_base}

one_columns : (C : CatalogData) (p m n j : ℕ) (vs ws : List (List Value)) → length vs ≡ length ws → AllFrom (IsColumnAt C p m) j vs → AllFrom (IsColumnAt C p n) j ws → parts_text C p j vs ≡ parts_text C p j ws → vs ≡ ws
one_columns C p m n j [] [] l hv hw e = refl
one_columns C p m n j [] (w ∷ ws) l hv hw e = absurd (omega arith)
one_columns C p m n j (v ∷ vs) [] l hv hw e = absurd (omega arith)
one_columns C p m n j (v ∷ vs) (w ∷ ws) l hv hw e =
    let first = one_part (code_at C p j) (kind_at C p j) v w (parts_text C p (j + 1) vs) (parts_text C p (j + 1) ws) hv.0.fits hw.0.fits e in
    ap (λ (x : List Value). x ∷ vs) (have_one_column (code_at C p j) (kind_at C p j) v w hv.0.fits hw.0.fits first.0)
    ∙ ap (λ (xs : List (List Value)). w ∷ xs) (one_columns C p m n (j + 1) vs ws (omega arith) hv.1 hw.1 first.1)

pub one_segment : OneSegment
one_segment C rules p s here bytes b d f g =
    let same = one_head p s (length (projection C p).columns) (segment_body C p s b) b.rows d.rows (parts_text C p 0 b.columns) (parts_text C p 0 d.columns) (at_most_32 C p rules here)
    (file_head C p s (length (projection C p).columns) bytes (segment_body C p s b) b f.text refl f)
    (file_head C p s (length (projection C p).columns) bytes (segment_body C p s b) d f.text refl g) in
    let columns = one_columns C p b.rows d.rows 0 b.columns d.columns (f.base.width ∙ sym g.base.width) (parts_of_base C p b f.base).columns_are (parts_of_base C p d g.base).columns_are same.1 in
    ap (λ (n : ℕ). let r : Base = record { rows = n; columns = b.columns } in r) same.0 ∙ ap (λ (cs : List (List Value)). let r : Base = record { rows = d.rows; columns = cs } in r) columns
