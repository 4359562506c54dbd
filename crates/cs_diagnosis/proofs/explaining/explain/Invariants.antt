use Rattle.cs_schema.specs.FileNames.{FileContents}
use Rattle.cs_recovery.specs.Holding.{HoldsSurvivors}
use Rattle.cs_rebuild.specs.Steps.{AreRead}
use Rattle.cs_diagnosis.specs.Explanations.{AreForced}
use Rattle.cs_diagnosis.proofs.SearchSteps.{IsSearched}
use Rattle.cs_diagnosis.specs.Diagnoses.{rows_found}
use Rattle.cs_diagnosis.specs.Known.{IsKnown}
use Rattle.cs_diagnosis.proofs.explaining.explain.Given as goal

-- what was found explains the losses so far, and what is known is true of the files
abbrev pub invariant-loop-loss : goal.invariant-loop-loss
invariant-loop-loss g l =
    (F : FileContents) → AreRead l.remains.catalog.now F l.remains.first l.remains.survivors.now → AreForced l.remains.catalog.now (HoldsSurvivors l.remains.catalog.now F) l.remains.first
    → IsSearched l.remains.catalog.now (HoldsSurvivors l.remains.catalog.now F) rows_found l.loss-items l.loss-index l.findings.explanations.items l.findings.tables.items
    × IsKnown l.remains.catalog.now F l.remains.first l.findings.tables.items l.known
