use Rattle.std.proofs.Common.{subst}
use Rattle.cs_schema.specs.Lists.{IsIn}
use Rattle.cs_diagnosis.proofs.diagnosing.diagnose.Goals as goal

pub bad_sites-first-requires : goal.bad_sites-first-requires
bad_sites-first-requires g c b i = (c.in_ok-missing.ensures.each b (subst (IsIn b) c.as_slice.ensures.value i)).0

pub diagnose_beside-requires-clause-missing : goal.diagnose_beside-requires-clause-missing
diagnose_beside-requires-clause-missing g c κs within x m =
    let b = (c.bad_sites-first.ensures x).0 m in
    let lacks = c.in_ok-missing.ensures.each b.0 (subst (IsIn b.0) c.as_slice.ensures.value b.1) in
    (b.0.0, lacks.0, lacks.1, b.2)
