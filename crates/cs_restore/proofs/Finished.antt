-- What a restore comes to, of what `rebuild` answered and of the files in place.
use Rattle.std.proofs.Common.{◌≡◌, List, Ok, sym, subst}
use Rattle.cs_schema.specs.CatalogData.{CatalogData}
use Rattle.cs_schema.specs.CatalogRules.{IsCatalog}
use Rattle.cs_schema.specs.Losses.{Sites}
use Rattle.cs_schema.specs.Rows.{Row}
use Rattle.cs_schema.specs.FileNames.{FileContents}
use Rattle.cs_store.specs.FileSet.{Files, contents_of}
use Rattle.cs_recovery.specs.Claims.{IsOnlyTable, IsRebuildAnswer, put_over}
use Rattle.cs_recovery.specs.Holding.{Holds, HoldsSurvivors}
use Rattle.cs_recovery.specs.Verdicts.{IsRebuildVerdict, Verdict, site, unsafe, safe}
use Rattle.cs_recovery.proofs.Accepted.{verdict_is}
use Rattle.cs_recovery.proofs.Judged.{verdict_holds}
use Rattle.cs_recovery.proofs.KeptKinds.{walk_keeps_kinds}
use Rattle.cs_recovery.proofs.RowKinds.{rows_keep_kinds}
use Rattle.cs_recovery.proofs.Read.{layers}
use Rattle.cs_recovery.proofs.Whole.{whole_again}
use Rattle.cs_restore.specs.Placing.{IsPutOver}
use Rattle.cs_restore.specs.Restoring.{IsFinished}

same_ok : (T U : List Row) → (let v : Verdict = Ok T in v) ≡ Ok U → U ≡ T
same_ok T U e = cc

-- a verdict that is a table is that of a safe loss, and the only table that the survivors hold
only_table : (C : CatalogData) → IsCatalog C → (F : FileContents) (L : Sites) (T : List Row) → IsRebuildVerdict C F L (Ok T) → IsOnlyTable (HoldsSurvivors C F L) T
only_table C cat F L T verdict = elim verdict [
  | site other e ↦ absurd (cc)
  | unsafe names other e ↦ absurd (cc)
  | safe names is v ↦ (verdict_holds C cat F L (walk_keeps_kinds C cat F L) (rows_keep_kinds C cat F L) T v, λ U holds. same_ok T U (verdict_is C cat (layers C cat) F L is U holds (Ok T) v))
]

pub finished : (C : CatalogData) → IsCatalog C → (L : Sites) (out d c : Files) → IsRebuildAnswer C (contents_of d) L (Ok out) → IsPutOver out d c → IsFinished C L d c
finished C cat L out d c answer put =
    let only : IsOnlyTable (HoldsSurvivors C (contents_of d) L) answer.0 = only_table C cat (contents_of d) L answer.0 answer.1 in
    let same : put_over (contents_of out) (contents_of d) ≡ contents_of c = λ i n. sym (put n) i in
    record {
      table = answer.0;
      held = only;
      holds = subst (λ F. Holds C F answer.0) same (whole_again C cat (layers C cat) (contents_of d) L answer.0 only.0 (contents_of out) answer.2);
    }
