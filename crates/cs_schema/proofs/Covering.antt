-- Each column stands in some projection.
use Rattle.std.proofs.Common.{ℕ, ◌<◌, length}
use Rattle.std.specs.Prelude.{IsTrue}
use Rattle.std.specs.List.{position_or_len}
use Rattle.cs_schema.specs.Lists.{member}
use Rattle.cs_schema.specs.CatalogData.{CatalogData, ProjectionData, projection, no_projection}
use Rattle.cs_schema.specs.CatalogRules.{IsCatalog}
use Rattle.cs_schema.proofs.ColumnNames.{found_below, found_passes}

pub covered : (C : CatalogData) → IsCatalog C → (c : ℕ) → c < length C.columns → (p : ℕ) × (p < length C.projections) × IsTrue (member (projection C p).columns c)
covered C rules c h =
    let test = λ (P : ProjectionData). member P.columns c in
    (position_or_len test C.projections, found_below test C.projections (rules.covers c h), found_passes test C.projections no_projection (rules.covers c h))
