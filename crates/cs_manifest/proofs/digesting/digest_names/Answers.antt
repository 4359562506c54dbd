use Rattle.std.proofs.Common.{◌<◌, ◌+◌, sym, subst, length, get_or, arith}
use Rattle.std.proofs.lemmas.List.{get_or_default}
use Rattle.cs_schema.specs.declared.file_name.FileName.TheVariants.{Seg}
use Rattle.cs_manifest.proofs.DigestLemmas.{digest_more, DigestedSoFar}
use Rattle.cs_parallel_io.specs.Standing.{standing}
use Rattle.cs_manifest.proofs.digesting.digest_names.Goals as goal

pub loop-name-preserved : goal.loop-name-preserved
loop-name-preserved g c =
    let within : c.loop-name.name-index < length c.args.names.now = omega arith in
    let name = get_or c.args.names.now c.loop-name.name-index (Seg 0 0) in (
      subst (λ files. DigestedSoFar (standing g.S.SharedSource.answers) (standing g.S.SharedSource.fails) c.args.names.now (c.loop-name.name-index + 1) c.args.source.now files c.args.source.now) (sym c.in_ok-push.ensures.items)
          (digest_more (standing g.S.SharedSource.answers) (standing g.S.SharedSource.fails) c.args.names.now c.loop-name.name-index c.args.source.now c.args.source.now c.loop-name.files.items c.loop-name.invariant.0
          name within (get_or_default _ _ (Seg 0 0) name within) c.args.source.now c.in_ok-found.found c.in_ok-found.ensures.found),
      c.in_ok-found.ensures.rest,
    )
