-- Answers about a store's files, once a loss is known to be safe.
use Rattle.std.specs.Prelude.{◌≡◌, List, Result, Ok, Err, length}
use Rattle.cs_schema.specs.CatalogData.{CatalogData}
use Rattle.cs_schema.specs.FileNames.{FileContents}
use Rattle.cs_schema.specs.Losses.{Sites}
use Rattle.cs_schema.specs.Rows.{Row}
use Rattle.cs_store.specs.declared.fault.Fault.{Fault}
use Rattle.cs_store.specs.Fault.{MemoryOr}
use Rattle.cs_store.specs.FileSet.{contents_of}
use Rattle.cs_recovery.specs.Columns.{AreColumnsOf}
use Rattle.cs_recovery.specs.Expected.{AreExpected}
use Rattle.cs_recovery.specs.Verdicts.{IsVerdict}
use Rattle.cs_rebuild.specs.declared.wanted.Answer.{Answer}
use Rattle.cs_rebuild.specs.declared.wanted.Wanted.{Wanted}

-- what is wanted of a table: the files that recover it, the number of its rows, or its rows in columns
abbrev pub Gives : Wanted → CatalogData → FileContents → Sites → List Row → Answer → Type 0
Gives Wanted.Files C F L T (Answer.Files out) = AreExpected C F L T (contents_of out)
Gives Wanted.Count C F L T (Answer.Count n) = n ≡ length T
Gives Wanted.Columns C F L T (Answer.Columns columns) = AreColumnsOf C T columns.items
Gives _ C F L T _ = ⊥

-- what is wanted of the table of the verdict, or the verdict's fault
abbrev pub IsAnswer : Wanted → CatalogData → FileContents → Sites → Result Answer Fault → Type 0
IsAnswer wanted C F L (Ok answer) = (T : List Row) × IsVerdict C F L (Ok T) × Gives wanted C F L T answer
IsAnswer wanted C F L (Err f) = MemoryOr f (IsVerdict C F L (Err f))

-- the fault of a file, which may be missing or damaged, or out of memory
abbrev pub IsOfFiles : Fault → Type 0
IsOfFiles Fault.Memory = Unit {0}
IsOfFiles (Fault.Missing n) = Unit {0}
IsOfFiles (Fault.Damaged n) = Unit {0}
IsOfFiles _ = ⊥
