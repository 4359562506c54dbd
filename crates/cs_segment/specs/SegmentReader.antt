-- What the reader of a segment's columns has found in a file, and what it decodes.
use Rattle.std.specs.Prelude.{◌≡◌, ℕ, List, [], map, length, slice_index_or, Vec, Result, Err, IfOk}
use Rattle.std.specs.Global.{Global}
use Rattle.cs_schema.specs.declared.cells.Cells.{Cells}
use Rattle.cs_schema.specs.CatalogData.{CatalogData, projection, code_at, kind_at}
use Rattle.cs_schema.specs.CatalogRules.{IsCatalog}
use Rattle.cs_piece.specs.Columns.{NoColumn}
use Rattle.cs_segment.specs.Parts.{BeginsWithHead}
use Rattle.cs_segment.specs.Bodies.{AreBodies, AreFirstIn, IsColumnIn, NoColumnIn}
use Rattle.cs_segment.specs.declared.fault.FileFault.{FileFault}
use Rattle.cs_segment.specs.declared.reader.SegmentReader.{SegmentReader}

-- the body of each column
abbrev pub bodies_of : SegmentReader → List (List ℕ)
bodies_of reader = map (λ body. body.now) reader.bodies.items

-- the bytes, a file without its digest, are a header and the parts of the reader's columns
pub record IsReaderOf (C : CatalogData) (p s : ℕ) (bytes : List ℕ) (reader : SegmentReader) : Type 0 where
  pub catalog_is : reader.catalog.now ≡ C
  pub p_is : reader.p ≡ p
  pub parts : List ℕ
  pub head : BeginsWithHead p s (length (projection C p).columns) bytes reader.rows parts
  pub bodies_are : AreBodies C p parts (bodies_of reader)
  pub rules : IsCatalog C

-- the result of decoding the j-th column
pub record IsReadAt (reader : SegmentReader) (j : ℕ) (result : Result Cells FileFault) : Type 0 where
  pub found : IfOk result (IsColumnIn reader.catalog.now reader.p reader.rows j (slice_index_or (bodies_of reader) j []))
  pub refused : result ≡ Err FileFault.Damaged → NoColumn (code_at reader.catalog.now reader.p j) (kind_at reader.catalog.now reader.p j) (slice_index_or (bodies_of reader) j []) reader.rows

-- the result of decoding the first `count` columns
pub record AreFirstRead (reader : SegmentReader) (count : ℕ) (result : Result (Vec Cells Global) FileFault) : Type 0 where
  pub found : IfOk result (λ columns. AreFirstIn reader.catalog.now reader.p reader.rows (bodies_of reader) count columns.items)
  pub refused : result ≡ Err FileFault.Damaged → NoColumnIn reader.catalog.now reader.p reader.rows (bodies_of reader)
