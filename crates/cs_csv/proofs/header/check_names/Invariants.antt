use Rattle.csv.specs.Records.{fields_of}
use Rattle.cs_csv.specs.Headers.{AreNamesBefore}
use Rattle.cs_csv.proofs.header.check_names.Given as goal

abbrev pub invariant-loop-place : goal.invariant-loop-place
invariant-loop-place l = AreNamesBefore l.columns (fields_of l.header) l.place
