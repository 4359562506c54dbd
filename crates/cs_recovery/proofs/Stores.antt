-- Each table that fits is held by some files, so the claims about held tables are not vacuous.
use Rattle.std.proofs.Common.{◌≡◌, ℕ, List, [], refl, sym, ◌∙◌, true, false, None}
use Rattle.cs_schema.specs.CatalogData.{CatalogData, HasSegment}
use Rattle.cs_schema.specs.CatalogRules.{IsCatalog}
use Rattle.cs_schema.specs.Losses.{Sites, lost}
use Rattle.cs_schema.specs.Rows.{Row, IsTable}
use Rattle.cs_schema.specs.FileNames.{FileContents}
use Rattle.cs_schema.specs.Order.{Fits}
use Rattle.cs_delta.specs.Image.{ImageData}
use Rattle.cs_rows.specs.Walk.{Contents}
use Rattle.cs_recovery.specs.Contents.{Reads}
use Rattle.cs_recovery.specs.Holding.{AreContentsOf, Holds}
use Rattle.cs_recovery.specs.Expected.{written}
use Rattle.cs_recovery.specs.Claims.{put_over}
use Rattle.cs_schema.proofs.Ascending.{false≢true}
use Rattle.cs_recovery.proofs.Exact.{Layers}
use Rattle.cs_recovery.proofs.Whole.{left_holds}

abbrev no_image : ImageData
no_image = record { pairs = []; top = 0 }

abbrev nothing : Contents
nothing = record { image = λ p s. no_image; join = λ p s q. [] }

abbrev no_files : FileContents
no_files n = None

-- the files that would recover it if every segment is lost
pub store_exists : (C : CatalogData) → IsCatalog C → Layers C → (L : Sites) → ((p s : ℕ) → HasSegment C p s → lost C L p s ≡ true) → (T : List Row) → IsTable C T → Fits C T → (F : FileContents) × Holds C F T
store_exists C cat layers L all T t fits =
    let out : FileContents = written C L nothing T in
    (put_over out no_files, left_holds C cat layers no_files L nothing reads T t fits same out (λ n. refl))
  where
    none : {A : Type 0} (p s : ℕ) → HasSegment C p s → lost C L p s ≡ false → A
    none p s h e = false≢true (sym e ∙ all p s h)

    reads : Reads C no_files L nothing
    reads = record { images = λ p s v. none p s v.0 v.1; joins = λ p s q v. none p s v.0.0 v.1 }

    same : AreContentsOf C L nothing T
    same = record { images = λ p s v. none p s v.0 v.1; joins = λ p s q v. none p s v.0.0 v.1 }
