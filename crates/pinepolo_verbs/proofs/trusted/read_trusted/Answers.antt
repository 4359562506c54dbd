use Rattle.std.proofs.Common.{subst}
use Rattle.std.proofs.lemmas.Result.{IfOk-weaker}
use Rattle.cs_schema.specs.FileNames.{surviving}
use Rattle.cs_schema.specs.Losses.{Sites}
use Rattle.cs_store.specs.LoadReadable.{LoadsReadable}
use Rattle.cs_parallel_io.specs.Standing.{standing}
use Rattle.cs_verifying.specs.Trust.{gives_trusted, refuses_trusted}
use Rattle.cs_verifying.proofs.TrustedLoads.{loads_trusted}
use Rattle.pinepolo_verbs.proofs.trusted.read_trusted.Goals as goal

pub returns-clause-loads : goal.returns-clause-loads
returns-clause-loads g c =
    let m = c.args.manifest.now in
    let answers = g.S.SharedSource.answers in
    let fails = g.S.SharedSource.fails in
    let source = c.args.source.now in
    IfOk-weaker c.load_readable_side_by_side.result _ _ (λ found loads.
    subst (λ (L : Sites). LoadsReadable (gives_trusted m (standing answers)) (refuses_trusted m (standing answers) (standing fails)) (surviving c.args.catalog.now L) source found.files found.unreadable.items source) c.none.ensures
    (loads_trusted m answers fails _ _ source _ (λ n file given. given) (λ n fault refused. refused) (surviving c.args.catalog.now c.none.result) found.files found.unreadable.items loads)) c.load_readable_side_by_side.ensures.ok
