-- Laws about delta files.
use Rattle.std.specs.Prelude.{◌≡◌, ℕ, List}
use Rattle.cs_schema.specs.CatalogData.{CatalogData}
use Rattle.cs_delta.specs.DeltaFile.{DeltaData, IsDeltaFile}

-- bytes are the file of at most one delta
abbrev pub OneDelta : Type 0
OneDelta = (C : CatalogData) (p s : ℕ) (bytes : List ℕ) (d e : DeltaData) → IsDeltaFile C p s bytes d → IsDeltaFile C p s bytes e → d ≡ e
