use Rattle.std.proofs.Common.{ap, length}
use Rattle.std.proofs.lemmas.Option.{none-some}
use Rattle.cs_diagnosis.proofs.WalkedOnce.{none_walked}
use Rattle.cs_diagnosis.proofs.known.Known.new.Goals as goal

pub returns : goal.returns
returns c C F first = record {
  count = ap length c.new.ensures.items;
  each = λ n t k at. absurd (none-some t at);
  walks = c.new-2.ensures.walks C F first;
  once = none_walked c.new-2.result c.new.result.items c.new-2.ensures.empty;
}
