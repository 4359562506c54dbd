use Rattle.std.proofs.Common.{◌∙◌, subst}
use Rattle.cs_schema.specs.Lists.{IsIn}
use Rattle.cs_recovery.proofs.Exact.{survivors_survive}
use Rattle.cs_rebuild.proofs.verifying.verify_files.Goals as goal

pub joins_of-requires-clause-exist : goal.joins_of-requires-clause-exist
joins_of-requires-clause-exist g c a i = (survivors_survive c.args.store.now.catalog.now c.args.store.now.loss a (subst (IsIn a) (c.as_slice-2.ensures.value ∙ c.in-Ok.ensures.all) i)).0
