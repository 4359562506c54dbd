use Rattle.std.proofs.Common.{subst}
use Rattle.std.specs.Prelude.{◌↔◌, IsTrue}
use Rattle.cs_schema.specs.Lists.{member, IsIn}
use Rattle.cs_diagnosis.specs.Forced.{IsBadSite}
use Rattle.pinepolo_answers.proofs.checked.Checked.bad_sites.Goals as goal

pub bad_sites-requires : goal.bad_sites-requires
bad_sites-requires c b is = c.args.self.now.named b (subst (IsIn b) c.as_slice.ensures.value is)

pub returns : goal.returns
returns c x = subst (λ bad. IsTrue (member c.bad_sites.result x) ↔ IsBadSite c.args.self.now.catalog bad x) c.as_slice.ensures.value (c.bad_sites.ensures x)
