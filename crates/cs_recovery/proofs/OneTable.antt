-- If two losses are contained in a safe one, the stores that they leave hold the same table.
use Rattle.std.proofs.Common.{◌≡◌, List, [], refl, sym, ap, ◌∙◌, Ok, Err}
use Rattle.cs_schema.specs.CatalogData.{CatalogData}
use Rattle.cs_schema.specs.declared.kinds.Safety.{Safety}
use Rattle.cs_schema.specs.CatalogRules.{IsCatalog}
use Rattle.cs_schema.specs.Rows.{Row}
use Rattle.cs_schema.specs.FileNames.{FileContents}
use Rattle.cs_schema.specs.Losses.{Sites}
use Rattle.cs_safety.specs.Safety.{IsSafeBy, IsSafeByRows}
use Rattle.cs_safety.specs.Within.{IsWithin}
use Rattle.cs_rows.specs.WalkByRows.{walked_by_rows}
use Rattle.cs_recovery.specs.Holding.{HoldsSurvivors}
use Rattle.cs_recovery.specs.Verdicts.{Verdict, judged}
use Rattle.cs_recovery.specs.Claims.{SameSurvivors}
use Rattle.cs_safety.proofs.WholeRows.{whole_by_rows}
use Rattle.cs_recovery.proofs.Exact.{Layers, judged_by_rows}
use Rattle.cs_recovery.proofs.Accepted.{same_contents}
use Rattle.cs_recovery.proofs.FewerSurvive.{fewer_hold}

abbrev table_in : Verdict → List Row
table_in (Ok T) = T
table_in (Err f) = []

safe_rows : (C : CatalogData) → IsCatalog C → (N : Sites) → (rule : Safety) → IsSafeBy rule C N → IsSafeByRows C N
safe_rows C cat N Safety.Whole s = whole_by_rows C cat N s
safe_rows C cat N Safety.Rows s = s

module _ (C : CatalogData) (cat : IsCatalog C) (layers : Layers C) where
  -- The survivors of a safe loss hold at most one table: the walk by rows ends with it.
  pub one_held : (rule : Safety) (F : FileContents) (N : Sites) (T U : List Row) → IsSafeBy rule C N → HoldsSurvivors C F N T → HoldsSurvivors C F N U → T ≡ U
  one_held rule F N T U safe h k =
      let rows = safe_rows C cat N rule safe in
      let other = same_contents C cat layers F N k.contents h.contents k.reads h.reads U k.same in
      let a : judged C N h.contents (walked_by_rows C N h.contents) ≡ Ok T = judged_by_rows C cat layers F N h.contents T h.reads h.table h.fits h.same rows in
      let b : judged C N h.contents (walked_by_rows C N h.contents) ≡ Ok U = judged_by_rows C cat layers F N h.contents U h.reads k.table k.fits other rows in
      ap table_in (sym a ∙ b)

  -- So do the survivors of two losses that it contains.
  pub one_table_held : (rule : Safety) (F G : FileContents) (L M N : Sites) (T U : List Row) → IsWithin L N → IsWithin M N → IsSafeBy rule C N → SameSurvivors C N F G → HoldsSurvivors C F L T → HoldsSurvivors C G M U → T ≡ U
  one_table_held rule F G L M N T U a b safe same h k =
      one_held rule G N T U safe (fewer_hold C cat layers F L N a T h G same) (fewer_hold C cat layers G M N b U k G (λ n v. refl))
