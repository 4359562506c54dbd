-- The bodies of a segment's columns in its file, and reading them.
use Rattle.std.specs.Prelude.{◌≡◌, ℕ, ◌+◌, ◌-◌, ◌^◌, ◌<◌, List, [], ◌∷◌, ◌++◌, length, slice_index_or, take, Bool, false, IsTrue}
use Rattle.cs_schema.specs.declared.cells.Cells.{Cells}
use Rattle.cs_schema.specs.declared.kinds.Kind.{Kind}
use Rattle.cs_schema.specs.declared.kinds.Code.{Code}
use Rattle.cs_schema.specs.CatalogData.{CatalogData, projection, code_at, kind_at}
use Rattle.cs_schema.specs.Values.{values, kind_of}
use Rattle.cs_piece.specs.Columns.{IsColumnOf, NoColumn}
use Rattle.cs_segment.specs.Bytes.{be32}
use Rattle.cs_segment.specs.SegmentFile.{code_number, kind_number, sealed}

-- a column's header: its code, its kind, and the number of bytes of its body
abbrev pub part_front : Code → Kind → ℕ → List ℕ
part_front code kind count = code_number code ∷ kind_number kind ∷ be32 count

-- a column's part of the file: its header and its body
abbrev pub body_part : Code → Kind → List ℕ → List ℕ
body_part code kind body = part_front code kind (length body) ++ body

-- the bytes are the part of a column with this body, then `rest`
pub record BeginsWithBody (code : Code) (kind : Kind) (bytes body rest : List ℕ) : Type 0 where
  pub text : bytes ≡ body_part code kind body ++ rest
  pub short : length body < 2 ^ 32

-- the parts of columns with these bodies, the first of which has number j
abbrev pub bodies_text : CatalogData → ℕ → ℕ → List (List ℕ) → List ℕ
bodies_text C p j [] = []
bodies_text C p j (b ∷ bs) = body_part (code_at C p j) (kind_at C p j) b ++ bodies_text C p (j + 1) bs

abbrev pub AreShort : List (List ℕ) → Type 0
AreShort [] = Unit {0}
AreShort (b ∷ bs) = (length b < 2 ^ 32) × AreShort bs

-- the bytes are the parts of a projection's columns, which have these bodies
pub record AreBodies (C : CatalogData) (p : ℕ) (bytes : List ℕ) (bodies : List (List ℕ)) : Type 0 where
  pub text : bytes ≡ bodies_text C p 0 bodies
  pub width : length bodies ≡ length (projection C p).columns
  pub short : AreShort bodies

-- the cells are column j, which has this body and this many rows
pub record IsColumnIn (C : CatalogData) (p rows j : ℕ) (body : List ℕ) (cells : Cells) : Type 0 where
  pub kind_is : kind_of cells ≡ kind_at C p j
  pub column_is : IsColumnOf (code_at C p j) (kind_at C p j) body rows (values cells)

-- the columns are those of the first `count` bodies
pub record AreFirstIn (C : CatalogData) (p rows : ℕ) (bodies : List (List ℕ)) (count : ℕ) (columns : List Cells) : Type 0 where
  pub count_is : length columns ≡ count
  pub each : (j : ℕ) (d : Cells) → j < count → IsColumnIn C p rows j (slice_index_or bodies j []) (slice_index_or columns j d)

-- some body, the j-th, is that of no column
pub record NoColumnIn (C : CatalogData) (p rows : ℕ) (bodies : List (List ℕ)) : Type 0 where
  pub j : ℕ
  pub within : j < length bodies
  pub none : NoColumn (code_at C p j) (kind_at C p j) (slice_index_or bodies j []) rows

-- whether the bytes end with the digest of the bytes before it
pub record IsSealed (bytes : List ℕ) (result : Bool) : Type 0 where
  pub found : IsTrue result → bytes ≡ sealed (take (length bytes - 32) bytes)
  pub none : result ≡ false → (body : List ℕ) → bytes ≡ sealed body → ⊥
