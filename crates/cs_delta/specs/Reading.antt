-- What a delta's bytes begin with: a header, a layer, an item, a row, a cell.
use Rattle.std.specs.Prelude.{◌≡◌, ℕ, ◌≤◌, ◌==◌, if◌then◌else◌, List, [], ◌∷◌, ◌++◌, map, length, codes}
use Rattle.std.specs.List.{concat}
use Rattle.cs_schema.specs.declared.kinds.Kind.{Kind}
use Rattle.cs_schema.specs.declared.cells.Value.{Value}
use Rattle.cs_schema.specs.Values.{IsOfKind}
use Rattle.cs_schema.specs.Order.{row_limit}
use Rattle.cs_schema.specs.CatalogData.{CatalogData}
use Rattle.cs_codec.specs.ColumnText.{cell_bytes}
use Rattle.cs_segment.specs.Bytes.{be16, be32}
use Rattle.cs_delta.specs.Image.{Change}
use Rattle.cs_delta.specs.DeltaFile.{DeltaData, key_limit, IsCellsOf, IsChange, IsLayer, AreLayersFrom, HasVersion, change_bytes, layer_text}

-- a delta with these counts, against which items are checked
abbrev pub counted : ℕ → ℕ → DeltaData
counted rows top = record { p = 0; s = 0; version = 1; rows = rows; top = top; layers = [] }

pub record BeginsWithCell (kind : Kind) (bytes : List ℕ) (v : Value) (rest : List ℕ) : Type 0 where
  pub text : bytes ≡ cell_bytes v ++ rest
  pub of_kind : IsOfKind kind v

abbrev pub NoCell : Kind → List ℕ → Type 0
NoCell kind bytes = (v : Value) (rest : List ℕ) → BeginsWithCell kind bytes v rest → ⊥

-- the bytes are the cells of a row of the projection, then `rest`
pub record BeginsWithRow (C : CatalogData) (p : ℕ) (bytes : List ℕ) (row : List Value) (rest : List ℕ) : Type 0 where
  pub text : bytes ≡ concat (map cell_bytes row) ++ rest
  pub cells : IsCellsOf C p row

abbrev pub NoRow : CatalogData → ℕ → List ℕ → Type 0
NoRow C p bytes = (row : List Value) (rest : List ℕ) → BeginsWithRow C p bytes row rest → ⊥

-- the bytes are an item on n rows, then `rest`
pub record BeginsWithItem (C : CatalogData) (p rows top n : ℕ) (bytes : List ℕ) (c : Change) (rest : List ℕ) : Type 0 where
  pub text : bytes ≡ change_bytes c ++ rest
  pub change : IsChange C p (counted rows top) n c

abbrev pub NoItem : CatalogData → ℕ → ℕ → ℕ → ℕ → List ℕ → Type 0
NoItem C p rows top n bytes = (c : Change) (rest : List ℕ) → BeginsWithItem C p rows top n bytes c rest → ⊥

-- the bytes are a layer on n rows, then `rest`
pub record BeginsWithLayer (C : CatalogData) (p rows top n : ℕ) (bytes : List ℕ) (l : List Change) (rest : List ℕ) : Type 0 where
  pub text : bytes ≡ layer_text l ++ rest
  pub layer : IsLayer C p (counted rows top) n l

abbrev pub NoLayer : CatalogData → ℕ → ℕ → ℕ → ℕ → List ℕ → Type 0
NoLayer C p rows top n bytes = (l : List Change) (rest : List ℕ) → BeginsWithLayer C p rows top n bytes l rest → ⊥

-- the bytes are `count` layers
pub record AreLayersOf (C : CatalogData) (p rows top count : ℕ) (bytes : List ℕ) (ls : List (List Change)) : Type 0 where
  pub text : bytes ≡ concat (map layer_text ls)
  pub layers : AreLayersFrom C p (counted rows top) rows ls
  pub count_is : length ls ≡ count

abbrev pub NoLayers : CatalogData → ℕ → ℕ → ℕ → ℕ → List ℕ → Type 0
NoLayers C p rows top count bytes = (ls : List (List Change)) → AreLayersOf C p rows top count bytes ls → ⊥

-- the bytes are the numbers and the counts of a delta of this segment, then `rest`
pub record BeginsWithCounts (p s : ℕ) (bytes : List ℕ) (rows top : ℕ) (rest : List ℕ) : Type 0 where
  pub text : bytes ≡ be16 p ++ be16 s ++ be32 rows ++ be32 top ++ rest
  pub count : rows ≤ row_limit
  pub least_top : rows ≤ top
  pub top_limit : top ≤ key_limit

abbrev pub NoCounts : ℕ → ℕ → List ℕ → Type 0
NoCounts p s bytes = (rows top : ℕ) (rest : List ℕ) → BeginsWithCounts p s bytes rows top rest → ⊥

abbrev pub version_text : ℕ → List ℕ
version_text version = if version == 1 then codes "CSDEL001" else codes "CSDEL002"

-- version 1 does not store its number of layers
abbrev pub number_text : ℕ → ℕ → List ℕ
number_text version layers = if version == 1 then [] else layers ∷ []

-- the bytes are the header of a delta of this segment, up to its first layer, then `rest`
pub record BeginsWithHead (p s : ℕ) (bytes : List ℕ) (version layers rows top : ℕ) (rest : List ℕ) : Type 0 where
  pub text : bytes ≡ version_text version ++ be16 p ++ be16 s ++ be32 rows ++ be32 top ++ number_text version layers ++ rest
  pub version_is : HasVersion version layers
  pub count : rows ≤ row_limit
  pub least_top : rows ≤ top
  pub top_limit : top ≤ key_limit

abbrev pub NoHead : ℕ → ℕ → List ℕ → Type 0
NoHead p s bytes = (version layers rows top : ℕ) (rest : List ℕ) → BeginsWithHead p s bytes version layers rows top rest → ⊥
