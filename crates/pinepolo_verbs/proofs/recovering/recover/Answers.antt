use Rattle.std.proofs.Common.{inr}
use Rattle.pinepolo_verbs.proofs.recovering.recover.Goals as goal

pub returns-in-Err-write_output-clause-err : goal.returns-in-Err-write_output-clause-err
returns-in-Err-write_output-clause-err g c =
    inr (c.in-Ok.found.1, c.rebuild_store.new.places, c.in-Ok.ensures.ok, c.in-Err-write_output.ensures.err)
