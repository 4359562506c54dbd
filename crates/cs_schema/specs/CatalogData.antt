-- A catalog as plain data.
use Rattle.std.specs.Prelude.{ℕ, ◌+◌, ◌<◌, Bool, List, [], length, slice_index, slice_index_or}
use Rattle.cs_schema.specs.declared.kinds.Kind.{Kind}
use Rattle.cs_schema.specs.declared.kinds.Code.{Code}
use Rattle.cs_schema.specs.declared.kinds.Safety.{Safety}
use Rattle.cs_schema.specs.declared.cells.Value.{Value}
use Rattle.cs_schema.specs.Lists.{member}

-- a column of the table
pub record ColumnData : Type 0 where
  pub name : List ℕ
  pub kind : Kind

-- a projection: columns and sort are numbers of the table's columns, joins are numbers of projections
pub record ProjectionData : Type 0 where
  pub name : List ℕ
  pub columns : List ℕ
  pub codes : List Code
  pub sort : List ℕ
  pub cuts : List Value
  pub sites : List ℕ
  pub joins : List ℕ

pub record CatalogData : Type 0 where
  pub table : List ℕ
  pub safety : Safety
  pub key : ℕ
  pub sites : ℕ
  pub columns : List ColumnData
  pub projections : List ProjectionData

abbrev pub no_column : ColumnData
no_column = record { name = []; kind = Kind.Int }

abbrev pub no_projection : ProjectionData
no_projection = record { name = []; columns = []; codes = []; sort = []; cuts = []; sites = []; joins = [] }

abbrev pub column : CatalogData → ℕ → ColumnData
column C c = slice_index_or C.columns c no_column

abbrev pub projection : CatalogData → ℕ → ProjectionData
projection C p = slice_index_or C.projections p no_projection

-- one more than the cuts
abbrev pub segments : CatalogData → ℕ → ℕ
segments C p = length (projection C p).cuts + 1

abbrev pub HasSegment : CatalogData → ℕ → ℕ → Type 0
HasSegment C p s = (p < length C.projections) × (s < segments C p)

abbrev pub has_join : CatalogData → ℕ → ℕ → Bool
has_join C p q = member (projection C p).joins q

-- the code of the j-th column of a projection, and its kind
abbrev pub code_at : CatalogData → ℕ → ℕ → Code
code_at C p j = slice_index_or (projection C p).codes j Code.Plain

abbrev pub kind_at : CatalogData → ℕ → ℕ → Kind
kind_at C p j = (column C (slice_index (projection C p).columns j)).kind
