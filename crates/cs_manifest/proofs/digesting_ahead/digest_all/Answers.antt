use Rattle.rayon.proofs.ListFacts.{IfOk-then}
use Rattle.cs_manifest.specs.Ahead.{DigestsName}
use Rattle.cs_parallel_io.proofs.AllSaid.{all_right}
use Rattle.cs_parallel_io.specs.Standing.{standing}
use Rattle.cs_manifest.proofs.digesting_ahead.digest_all.Goals as goal

pub returns : goal.returns
returns g c =
    let collected = rw c.map.ensures.f at c.collect.ensures in
    IfOk-then c.collect.result _ _ collected (λ v h.
    let chain = h.1 in
    rw h.2 (all_right (λ read. DigestsName (standing g.S.SharedSource.answers) (standing g.S.SharedSource.fails) c.args.source.now read) chain.0 h.0 chain.2))
