use Rattle.cs_codec.proofs.RunReading.{count_missing}
use Rattle.cs_codec.proofs.run_reading.read_run.Goals as goal

pub returns-in_default-read_number-2-clause-none : goal.returns-in_default-read_number-2-clause-none
returns-in_default-read_number-2-clause-none g c =
    let found = rw c.in-Some.is at c.in_ok-end.ensures.found in
    count_missing g.C.Cell.bytes g.C.Cell.is_cell g.met.C.Cell.begins_one c.args.bytes.now c.args.at found.cell c.in-Some.end c.in-Some-read_number.position found.stands c.in-Some-read_number.ensures.found c.in_default-read_number-2.ensures.none
