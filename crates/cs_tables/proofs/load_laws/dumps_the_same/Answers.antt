use Rattle.std.proofs.Common.{◌≡◌, [], sym, subst, ◌∙◌}
use Rattle.std.proofs.lemmas.Bool.{false≢true}
use Rattle.cs_recovery.specs.Columns.{AreColumnsOf}
use Rattle.cs_recovery.proofs.FewerSurvive.{fewer_hold}
use Rattle.cs_recovery.proofs.Read.{layers}
use Rattle.cs_tables.proofs.DumpLemmas.{one-text}
use Rattle.cs_tables.proofs.load_laws.dumps_the_same.Goals as goal

pub returns : goal.returns
returns c = λ C cat T F G L a b holds same whole part.
    let left = fewer_hold C cat (layers C cat) F [] L (λ x m. absurd (false≢true m)) T holds G same in
    let first : T ≡ whole.table = whole.only.1 T holds in
    let second : T ≡ part.table = part.only.1 T left in
    let columns = subst (λ U. AreColumnsOf C U part.columns) (sym second ∙ first) part.are in
    whole.is ∙ one-text C whole.table whole.columns part.columns whole.are columns ∙ sym part.is
