use Rattle.std.proofs.Common.{List, length, sym, ap, subst, ◌∙◌, IsTrue}
use Rattle.std.specs.Prelude.{◌↔◌}
use Rattle.std.specs.FinMap.{len-entries}
use Rattle.cs_schema.specs.FileNames.{FileContents}
use Rattle.cs_schema.specs.Rows.{Row}
use Rattle.cs_store.specs.FileSet.{contents_of}
use Rattle.cs_rebuild.specs.Steps.{AreRead}
use Rattle.cs_rebuild.proofs.Counts.{length_table}
use Rattle.cs_diagnosis.specs.Candidates.{HasNoTable, IsCandidate}
use Rattle.cs_diagnosis.specs.Conflicts.{AreAllHit}
use Rattle.cs_drill.proofs.Alike.{some_table, same_table, holds_table}
use Rattle.cs_drill.proofs.comparing.compare.Goals as goal

pub invariant_of-remains : goal.invariant_of-remains
invariant_of-remains g c = record { rules = c.projection_count-rules.ensures.rules }

pub unreachable-requires : goal.unreachable-requires
unreachable-requires g c =
    let s = c.args.store.now in
    let C = s.catalog.now in
    let L = c.args.loss in
    let F = contents_of s.files.now in
    let found : (G : FileContents) → AreRead C G c.none-none.result s.survivors.now → HasNoTable C G c.none-none.result L = rw c.in-Ok-None.field-0-is at (rw c.in-Ok-None.is at c.find_candidate.ensures) in
    let none = subst (λ M. HasNoTable C F M L) c.none-none.ensures (found F (subst (λ M. AreRead C F M s.survivors.now) (sym c.none-none.ensures) c.requires.read)) in
    some_table C F L c.requires.recovers.0 c.args.rebuilt.now c.requires.recovers.1 none

pub returns-in-Ok-Some : goal.returns-in-Ok-Some
returns-in-Ok-Some g c =
    let s = c.args.store.now in
    let C = s.catalog.now in
    let L = c.args.loss in
    let F = contents_of s.files.now in
    let T = c.requires.recovers.0 in
    let out = c.args.rebuilt.now in
    let candidate = c.in-Ok-Some.candidate in
    let found : (G : FileContents) → AreRead C G c.none-none.result s.survivors.now → IsCandidate C G c.none-none.result L candidate = rw c.in-Ok-Some.field-0-is at (rw c.in-Ok-Some.is at c.find_candidate.ensures) in
    let is = subst (λ M. IsCandidate C F M L candidate) c.none-none.ensures (found F (subst (λ M. AreRead C F M s.survivors.now) (sym c.none-none.ensures) c.requires.read)) in
    let hit = subst (λ M. IsTrue c.are_hit.result ↔ AreAllHit candidate.conflicts M) c.none-none.ensures c.are_hit.ensures in
    let holds = holds_table C F L T out c.requires.recovers.1 candidate is in
    let table_is = ap (λ (U : List Row). length U) (same_table C F L T out c.requires.recovers.1 candidate is) in
    record {
      table = T;
      files = out;
      recovers = c.requires.recovers.1;
      rows = c.rows.ensures ∙ sym (length_table candidate.store.catalog.now candidate.store.walked.rows candidate.once) ∙ sym table_is;
      count = c.len.ensures.count ∙ len-entries out;
      same = (λ h. holds.0 (hit.0 h), λ h. hit.1 (holds.1 h));
      other = c.first_other.ensures;
    }
