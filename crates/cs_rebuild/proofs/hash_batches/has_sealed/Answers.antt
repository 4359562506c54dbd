use Rattle.std.proofs.Common.{sym, subst}
use Rattle.cs_schema.specs.Lists.{IsIn}
use Rattle.cs_rebuild.proofs.hash_batches.has_sealed.Goals as goal

pub returns-in-Ok : goal.returns-in-Ok
returns-in-Ok c = λ yes k f at own. c.are_sealed.ensures yes f (subst (IsIn f) (sym c.as_slice.ensures.value) (c.in-Ok.ensures k f at own))
