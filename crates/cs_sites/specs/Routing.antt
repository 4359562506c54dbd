-- The site of each file of a store, and its source.
use Rattle.std.specs.Prelude.{ℕ, ◌-◌, List, Option, option_and_then, map, slice_get}
use Rattle.cs_schema.specs.declared.file_name.FileName.{FileName}
use Rattle.cs_schema.specs.CatalogData.{CatalogData}
use Rattle.cs_schema.specs.FileNames.{projection_of, segment_of}

-- the sites of a catalog's segments, projection by projection
abbrev pub routes_of : CatalogData → List (List ℕ)
routes_of C = map (λ p. p.sites) C.projections

-- the site of a file's segment, if there is such a segment
abbrev pub site_of : List (List ℕ) → FileName → Option ℕ
site_of routes name = option_and_then (λ sites. slice_get sites (segment_of name)) (slice_get routes (projection_of name))

-- the source of a site, of sources in the order of the sites from 1; none if the site is away
abbrev pub source_at : {S : Type 0} → List (Option S) → ℕ → Option S
source_at sources site = option_and_then (λ source. source) (slice_get sources (site - 1))
