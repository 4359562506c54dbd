use Rattle.clap.specs.Words.{found_of}
use Rattle.pinepolo_args.proofs.Rows.{number_is}
use Rattle.pinepolo_args.proofs.values.number_of.Goals as goal

pub returns-in-Ok : goal.returns-in-Ok
returns-in-Ok c = number_is 32 (found_of c.args.found.now) c.args.id.now c.try_get_one.result c.try_get_one.ensures.none c.try_get_one.ensures.value c.in-Ok.number c.in-Ok.is
