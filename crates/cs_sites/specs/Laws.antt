-- What the sources of sites come to together.
use Rattle.std.specs.Prelude.{◌≡◌, ◌≤◌, ℕ, List, Option, Some, IsSome}
use Rattle.cs_schema.specs.declared.file_name.FileName.{FileName}
use Rattle.cs_schema.specs.CatalogData.{CatalogData}
use Rattle.cs_schema.specs.CatalogRules.{IsCatalog}
use Rattle.cs_schema.specs.FileNames.{FileContents, HasName, projection_of, segment_of}
use Rattle.cs_schema.specs.Lists.{member}
use Rattle.cs_schema.specs.Losses.{Sites, lost}
use Rattle.cs_sites.specs.Routing.{routes_of, site_of, source_at}
use Rattle.cs_sites.specs.Sited.{AnswersFile}

-- the site of a file is one of the catalog's, and a loss takes the file just if it has the site
pub record IsSiteOf (C : CatalogData) (name : FileName) (site : ℕ) : Type 0 where
  pub is : site_of (routes_of C) name ≡ Some site
  pub low : 1 ≤ site
  pub high : site ≤ C.sites
  pub taken : (L : Sites) → lost C L (projection_of name) (segment_of name) ≡ member L site

-- each file of a catalog has a site
abbrev pub FilesHaveSites : Type 0
FilesHaveSites = (C : CatalogData) → IsCatalog C → (name : FileName) → HasName C name → (site : ℕ) × IsSiteOf C name site

module _ {S : Type 0} (answers : S → FileName → Option (List ℕ) → Type 0) where
  -- of the names of its site, each source that is there answers what stands there in the whole store
  abbrev pub AreShares : List (List ℕ) → List (Option S) → FileContents → Type 0
  AreShares routes sources whole =
      (site : ℕ) (source : S) → source_at sources site ≡ Some source → (name : FileName) → site_of routes name ≡ Some site
      → (file : Option (List ℕ)) → answers source name file → file ≡ whole name

  -- sources that have shares of a store answer together what stands there in the whole store
  abbrev pub SharesAreOneStore : Type 0
  SharesAreOneStore =
      (routes : List (List ℕ)) (sources : List (Option S)) (whole : FileContents) → AreShares routes sources whole
      → (name : FileName) → IsSome (site_of routes name)
      → (file : Option (List ℕ)) → AnswersFile routes sources name answers file → file ≡ whole name
