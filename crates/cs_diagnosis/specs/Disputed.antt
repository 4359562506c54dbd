-- Where the tables of a diagnosis differ.
use Rattle.std.specs.Prelude.{◌≡◌, ℕ, ◌<◌, List, length, take, Some, Option}
use Rattle.std.specs.List.{slice_get}
use Rattle.cs_schema.specs.declared.file_name.FileName.{FileName}
use Rattle.cs_schema.specs.CatalogData.{CatalogData}
use Rattle.cs_schema.specs.FileNames.{FileContents}
use Rattle.cs_schema.specs.Lists.{IsIn}
use Rattle.cs_schema.specs.Rows.{Row}
use Rattle.cs_diagnosis.specs.Disputes.{AreDisputes}
use Rattle.cs_diagnosis.specs.declared.merging.Dispute.{Dispute}
use Rattle.cs_diagnosis.specs.declared.merging.Disputes.{Disputes}
use Rattle.cs_diagnosis.specs.Diagnoses.{rows_found, IsDiagnosis}
use Rattle.cs_diagnosis.specs.declared.diagnosing.Diagnosis.{Diagnosis}
use Rattle.cs_diagnosis.specs.declared.disputing.TableDisputes.{TableDisputes}
use Rattle.cs_diagnosis.specs.declared.tables.FoundTable.{FoundTable}

-- the number of disputes of two tables, and the first of them by key, at most `at_most`
pub record AreFirstDisputes (C : CatalogData) (at_most : ℕ) (T U : List Row) (d : Disputes) : Type 0 where
  pub all : List Dispute
  pub are : AreDisputes C.key T U all
  pub count : d.count ≡ length all
  pub rows : d.rows.items ≡ take at_most all

-- the disputes of two tables, with the indices of the tables
pub record AreOfTables (C : CatalogData) (tables : List FoundTable) (at_most : ℕ) (d : TableDisputes) : Type 0 where
  pub first_table : FoundTable
  pub second_table : FoundTable
  pub ascend : d.first < d.second
  pub first : slice_get tables d.first ≡ Some first_table
  pub second : slice_get tables d.second ≡ Some second_table
  pub disputes : AreFirstDisputes C at_most (rows_found first_table) (rows_found second_table) d.disputes

-- the disputes of each two tables
pub record AreAllDisputes (C : CatalogData) (tables : List FoundTable) (at_most : ℕ) (found : List TableDisputes) : Type 0 where
  pub each : (d : TableDisputes) → IsIn d found → AreOfTables C tables at_most d
  pub every : (m n : ℕ) → m < n → n < length tables → (d : TableDisputes) × IsIn d found × (d.first ≡ m) × (d.second ≡ n)

-- some files have this diagnosis
abbrev pub IsSomeDiagnosis : CatalogData → Diagnosis → Type 0
IsSomeDiagnosis C d = (F : FileContents) × (unreadable : List FileName) × (asked : Option ℕ) × IsDiagnosis C F unreadable asked d
