use Rattle.std.proofs.Common.{◌∙◌}
use Rattle.clap.specs.Words.{found_of}
use Rattle.pinepolo_args.proofs.Rows.{flag_is}
use Rattle.pinepolo_args.proofs.values.flag_of.Goals as goal

pub returns : goal.returns
returns c = c.unwrap_or.ensures ∙ flag_is _ (found_of c.args.found.now) c.args.id.now c.get_one.result c.get_one.ensures.none c.get_one.ensures.value
