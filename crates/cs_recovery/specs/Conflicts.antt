-- What contradicts a table: a graph whose vertices are sites.
use Rattle.std.specs.Prelude.{◌≡◌, ◌≢◌, ℕ, ◌+◌, ◌⊎◌, List, map, length, slice_index, Some, None, IsTrue}
use Rattle.std.specs.List.{slice_get}
use Rattle.cs_schema.specs.declared.file_name.FileName.{FileName}
use Rattle.cs_schema.specs.Lists.{member}
use Rattle.cs_schema.specs.CatalogData.{CatalogData, projection}
use Rattle.cs_schema.specs.FileNames.{FileContents, HasName, projection_of, segment_of}
use Rattle.cs_schema.specs.Losses.{Sites}
use Rattle.cs_schema.specs.Rows.{Row, segment_of_row, project}
use Rattle.cs_schema.specs.Order.{rows_of, index_of}
use Rattle.cs_delta.specs.Image.{ImageData, image_keys, image_rows, position_of_key}
use Rattle.cs_jix.specs.JoinIndex.{Place, no_place}
use Rattle.cs_recovery.specs.Contents.{IsImageOf, IsJoinOf}
use Rattle.cs_recovery.specs.Verdicts.{IsSound}

-- the site of a file
abbrev pub site_of : CatalogData → FileName → ℕ
site_of C n = slice_index (projection C (projection_of n)).sites (segment_of n)

-- a segment and its delta merge to this image, which has the table's rows of that range in order
pub record IsImageOfTable (C : CatalogData) (F : FileContents) (T : List Row) (p s : ℕ) (m : ImageData) : Type 0 where
  pub reads : IsImageOf C F p s m
  pub rows : image_rows m ≡ map (project C p) (rows_of C T p s)

-- The entry of a row of the table in a join index: it is the one for the row's key, and keys start at 1.
pub record IsEntryOf (C : CatalogData) (F : FileContents) (T : List Row) (p s q : ℕ) (r : Row) (e : Place) : Type 0 where
  pub image : ImageData
  pub entries : List Place
  pub index : ℕ
  pub before : ℕ
  pub is_image : IsImageOfTable C F T p s image
  pub is_join : IsJoinOf F p s q entries
  pub row : slice_get (rows_of C T p s) index ≡ Some r
  pub live : position_of_key image (before + 1) ≡ Some index
  pub entry : slice_get entries before ≡ Some e

-- the key of a row of the table in its segment of a projection
pub record IsKeyOf (C : CatalogData) (F : FileContents) (T : List Row) (q : ℕ) (r : Row) (key : ℕ) : Type 0 where
  pub image : ImageData
  pub index : ℕ
  pub is_image : IsImageOfTable C F T q (segment_of_row C q r) image
  pub row : index_of C T q r ≡ Some index
  pub live : slice_get (image_keys image) index ≡ Some key

-- A file contradicts the table by itself if it is missing or damaged, if its segment has other rows, or if it is a join
-- index that does not have one entry for each key, has a place at a dead key, or names for a row another segment than
-- the row's, or no key.
pub data Contradicts (C : CatalogData) (F : FileContents) (T : List Row) (n : FileName) : Type 0 where
  bad_file : ¬ IsSound C F n → Contradicts C F T n
  other_rows : (p s : ℕ) (m : ImageData) → n ≡ FileName.Seg p s → IsImageOf C F p s m → image_rows m ≢ map (project C p) (rows_of C T p s) → Contradicts C F T n
  other_count : (p s q : ℕ) (m : ImageData) (entries : List Place) → n ≡ FileName.Jix p s q → IsImageOf C F p s m → IsJoinOf F p s q entries → length entries ≢ m.top → Contradicts C F T n
  dead_key : (p s q : ℕ) (m : ImageData) (entries : List Place) (before : ℕ) (e : Place) → n ≡ FileName.Jix p s q → IsImageOf C F p s m → IsJoinOf F p s q entries
      → slice_get entries before ≡ Some e → position_of_key m (before + 1) ≡ None → e ≢ no_place → Contradicts C F T n
  wrong_place : (p s q : ℕ) (r : Row) (e : Place) → n ≡ FileName.Jix p s q → IsEntryOf C F T p s q r e → (e.0 ≢ segment_of_row C q r) ⊎ (e.1 ≡ 0) → Contradicts C F T n

-- A conflict between files and a table, an edge between two sites: the entry of a row on one site names another key
-- than the row has on the other site. A site with a file that contradicts the table by itself is in conflict with
-- itself.
pub data IsConflict (C : CatalogData) (F : FileContents) (T : List Row) (x y : ℕ) : Type 0 where
  alone : (n : FileName) → HasName C n → Contradicts C F T n → x ≡ site_of C n → y ≡ site_of C n → IsConflict C F T x y
  pair : (p s q : ℕ) (r : Row) (e : Place) (key : ℕ) → HasName C (FileName.Jix p s q) → IsEntryOf C F T p s q r e → IsKeyOf C F T q r key → e.1 ≢ key
      → x ≡ site_of C (FileName.Jix p s q) → y ≡ site_of C (FileName.Seg q (segment_of_row C q r)) → IsConflict C F T x y

-- the loss contains a site of each conflict: it is a vertex cover
abbrev pub HitsConflicts : CatalogData → FileContents → List Row → Sites → Type 0
HitsConflicts C F T L = (x y : ℕ) → IsConflict C F T x y → IsTrue (member L x) ⊎ IsTrue (member L y)

-- each file was read, so it is known whether it is sound
abbrev pub AreRead : CatalogData → FileContents → Type 0
AreRead C F = (n : FileName) → HasName C n → IsSound C F n ⊎ ¬ IsSound C F n
