-- What a catalog says of losses beside what is lost already.
use Rattle.std.specs.Prelude.{◌≡◌}
use Rattle.cs_schema.specs.CatalogData.{CatalogData}
use Rattle.cs_schema.specs.Losses.{Sites}
use Rattle.cs_design.specs.Fatal.{AreFatalLosses, IsGreatestK}
use Rattle.cs_reports.specs.declared.design.Design.{Design}

-- the greatest number of further sites of which any may fail, and the least fatal losses, beside what is lost
pub record IsDesign (C : CatalogData) (lost : Sites) (d : Design) : Type 0 where
  pub beside : d.lost ≡ lost
  pub greatest : IsGreatestK C lost d.k
  pub fatal : AreFatalLosses C lost d.fatal.items
