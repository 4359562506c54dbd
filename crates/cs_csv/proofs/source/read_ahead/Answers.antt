use Rattle.csv.specs.Records.{fields_of}
use Rattle.cs_csv.proofs.ReadLemmas.{first-ahead}
use Rattle.cs_csv.proofs.source.read_ahead.Goals as goal

pub returns-in-Ok-true-clause-ok : goal.returns-in-Ok-true-clause-ok
returns-in-Ok-true-clause-ok g c known e =
    let found = c.in-Ok-true in
    let start = c.new_reader-records.ensures known e in
    first-ahead g.R.Read.remaining known c.new_reader-records.result c.read_byte_record.new.self (fields_of c.read_byte_record.new.row) start
    (rw found.field-0-test at (found.ensures.reads start.set_up.plain start.set_up.ready)) (found.ensures.ready start.set_up.plain) found.ensures.flexible
