-- What reading cells, rows and items adds to the cells of a layer.
use Rattle.std.specs.Prelude.{◌≡◌, ℕ, List, [], ◌∷◌, ◌++◌, length}
use Rattle.cs_schema.specs.declared.kinds.Kind.{Kind}
use Rattle.cs_schema.specs.declared.cells.Value.{Value}
use Rattle.cs_schema.specs.CatalogData.{CatalogData, projection}
use Rattle.cs_delta.specs.declared.stored_item.StoredItem.{StoredItem}
use Rattle.cs_delta.specs.StoredItems.{stored_change, AreAmong}
use Rattle.cs_delta.specs.Reading.{BeginsWithCell, BeginsWithRow, BeginsWithItem}

-- it adds the cell that the bytes begin with
pub record AddsCell (kind : Kind) (bytes : List ℕ) (old new : List Value) (rest : List ℕ) : Type 0 where
  pub value : Value
  pub added : new ≡ old ++ value ∷ []
  pub begins : BeginsWithCell kind bytes value rest

-- it adds the cells of the row that the bytes begin with
pub record AddsRow (C : CatalogData) (p : ℕ) (bytes : List ℕ) (old new : List Value) (rest : List ℕ) : Type 0 where
  pub row : List Value
  pub added : new ≡ old ++ row
  pub begins : BeginsWithRow C p bytes row rest

-- it adds the cells of the item that the bytes begin with
pub record AddsItem (C : CatalogData) (p rows top n : ℕ) (bytes : List ℕ) (old new : List Value) (item : StoredItem) (rest : List ℕ) : Type 0 where
  pub cells : List Value
  pub added : new ≡ old ++ cells
  pub among : AreAmong (length new) (length (projection C p).columns) item
  pub begins : BeginsWithItem C p rows top n bytes (stored_change new (length (projection C p).columns) item) rest
