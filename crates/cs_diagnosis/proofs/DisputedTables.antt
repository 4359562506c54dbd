-- The tables of a diagnosis are tables.
use Rattle.std.proofs.Common.{◌≡◌, ℕ, List, refl, sym, ap, subst, ◌∙◌, Some}
use Rattle.std.proofs.lemmas.Option.{same_Some}
use Rattle.std.specs.List.{slice_get}
use Rattle.cs_schema.specs.CatalogData.{CatalogData}
use Rattle.cs_schema.specs.FileNames.{FileContents}
use Rattle.cs_schema.specs.Rows.{IsTable}
use Rattle.cs_recovery.specs.Holding.{HoldsSurvivors}
use Rattle.cs_diagnosis.specs.declared.findings.Explanation.{Explanation}
use Rattle.cs_diagnosis.specs.Findings.{AreExplanations}
use Rattle.cs_diagnosis.specs.Diagnoses.{rows_found}
use Rattle.cs_diagnosis.specs.declared.tables.FoundTable.{FoundTable}

pub are_tables : (C : CatalogData) (F : FileContents) (at_most : ℕ) (found : List Explanation) (tables : List FoundTable) → AreExplanations C (HoldsSurvivors C F) at_most rows_found found tables
    → (n : ℕ) (t : FoundTable) → slice_get tables n ≡ Some t → IsTable C (rows_found t)
are_tables C F at_most found tables a n t at =
    let use_of = a.used n (rows_found t) (t, at, refl) in
    let held = (a.each use_of.0 use_of.1).1 in
    let same : held.1.0 ≡ t = same_Some held.1.0 t (sym held.1.1 ∙ ap (slice_get tables) use_of.2 ∙ at) in
    subst (IsTable C) (sym held.1.2 ∙ ap rows_found same) held.2.accepted.holds.table
