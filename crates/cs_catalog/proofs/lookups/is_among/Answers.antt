use Rattle.std.proofs.Common.{◌∙◌, sym}
use Rattle.cs_catalog.proofs.TextLists.{is_among-texts}
use Rattle.cs_catalog.proofs.lookups.is_among.Goals as goal

pub returns : goal.returns
returns c = c.contains.ensures.value ∙ sym (is_among-texts c.args.name.now c.args.names.now)
