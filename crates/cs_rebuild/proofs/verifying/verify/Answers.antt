use Rattle.std.proofs.Common.{sym, subst}
use Rattle.cs_rows.specs.Survivors.{contents_of as held_by}
use Rattle.cs_rebuild.specs.OnStore.{IsStoreOf}
use Rattle.cs_rebuild.specs.Steps.{AreSound}
use Rattle.cs_rebuild.specs.declared.ordered_store.OrderedStore.{OrderedStore}
use Rattle.cs_rebuild.proofs.Verdicts.{memory_or, unordered_rows}
use Rattle.cs_rebuild.proofs.VerifiedStores.{sound, is_sound, contradiction_is}
use Rattle.cs_rebuild.proofs.verifying.verify.Goals as goal

pub returns-in-Err-clause-err : goal.returns-in-Err-clause-err
returns-in-Err-clause-err g c F read =
    memory_or _ c.in-Err.ensures.err (unordered_rows c.args.catalog.now F c.args.loss (held_by c.args.survivors.now) read.reads _)

pub returns-clause-err : goal.returns-clause-err
returns-clause-err g c F read =
    memory_or _ c.in-Err-verify_files.ensures.err (λ h. contradiction_is c.in-Ok.store c.in-Ok.ensures.of c.in-Ok.ensures.ok _ h F read)

pub of-requires : goal.of-requires
of-requires g c = is_sound c.in-Ok.store c.in-Ok.ensures.of c.in-Ok.ensures.ok c.in-Ok-verify_files.ensures.ok c.projection_count-rules.ensures.rules c.requires.read

pub returns-in-Ok-verify_files-clause-ok : goal.returns-in-Ok-verify_files-clause-ok
returns-in-Ok-verify_files-clause-ok g c F read =
    subst (λ (o : OrderedStore). AreSound c.args.catalog.now F c.args.loss c.args.survivors.now o.walked o.orders) (sym c.of.ensures)
    (sound c.in-Ok.store c.in-Ok.ensures.of c.in-Ok.ensures.ok c.in-Ok-verify_files.ensures.ok F read)

pub returns-in-Ok-verify_files-clause-of : goal.returns-in-Ok-verify_files-clause-of
returns-in-Ok-verify_files-clause-of g c = subst (IsStoreOf c.args.catalog.now c.args.loss c.args.survivors.now) (sym c.of.ensures) c.in-Ok.ensures.of
