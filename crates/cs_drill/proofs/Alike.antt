-- A loss beside itself, around the loss of no site; and what its candidate is.
use Rattle.std.proofs.Common.{◌≡◌, List, [], sym, subst}
use Rattle.std.specs.Prelude.{◌↔◌}
use Rattle.cs_schema.specs.CatalogData.{CatalogData}
use Rattle.cs_schema.specs.FileNames.{FileContents}
use Rattle.cs_schema.specs.Losses.{Sites}
use Rattle.cs_schema.specs.Rows.{Row}
use Rattle.cs_schema.proofs.Ascending.{false≢true}
use Rattle.cs_safety.specs.Safety.{IsSafe}
use Rattle.cs_safety.specs.Within.{IsWithin}
use Rattle.cs_recovery.specs.Holding.{Holds}
use Rattle.cs_rebuild.specs.OnStore.{table_on}
use Rattle.cs_diagnosis.specs.Candidates.{HasNoTable, IsCandidate, IsWalkedLike}
use Rattle.cs_diagnosis.specs.Conflicts.{AreAllHit}
use Rattle.cs_diagnosis.specs.declared.candidate.Candidate.{Candidate}
use Rattle.cs_drill.specs.Drills.{RecoversTable}
use Rattle.cs_store.specs.FileSet.{Files}

pub none_within : (L : Sites) → IsWithin [] L
none_within L x h = false≢true h

walked_like : (C : CatalogData) (L : Sites) → IsSafe C L → IsWalkedLike C [] L L
walked_like C L safe = record { around = none_within L; safe = safe; alike = λ S w h. h }

module _ (C : CatalogData) (F : FileContents) (L : Sites) (T : List Row) (out : Files) (recovers : RecoversTable C F L T out) where
  -- the other files hold a table
  pub some_table : HasNoTable C F [] L → ⊥
  some_table none = none L T (walked_like C L recovers.safe) recovers.only.0

  module _ (c : Candidate) (is : IsCandidate C F [] L c) where
    -- and it is the candidate's
    pub same_table : T ≡ table_on c.store
    same_table = is.only L T (walked_like C L recovers.safe) recovers.only.0

    -- the store as it stands holds it exactly if no conflict is left
    pub holds_table : AreAllHit c.conflicts [] ↔ Holds C F T
    holds_table = subst (λ U. AreAllHit c.conflicts [] ↔ Holds C F U) (sym same_table) (is.conflicts [] (none_within []))
