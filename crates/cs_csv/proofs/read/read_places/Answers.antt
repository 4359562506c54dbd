use Rattle.std.proofs.Common.{[], inl, inr}
use Rattle.csv.specs.Records.{fields_of}
use Rattle.cs_csv.proofs.OutcomeLemmas.{if-err-then}
use Rattle.cs_csv.proofs.RowsLemmas.{header-fault, outside-fault, unclosed-header}
use Rattle.cs_csv.proofs.read.read_places.Goals as goal

pub returns-clause-err : goal.returns-clause-err
returns-clause-err g c = if-err-then c.read_header.result _ _ (λ f bad known h.
    let more = c.next_record.ensures.more (rw c.in-Ok-true.field-0-test at c.in-Ok-true.is) known [] h in
    header-fault g.R.Read.remaining known c.next_record.new.reader _ c.args.columns.now (fields_of c.next_record.new.row) f more bad) c.read_header.ensures.err

pub returns-in-Err-clause-err : goal.returns-in-Err-clause-err
returns-in-Err-clause-err g c known h = elim c.in-Err.ensures.err [
  | inl o ↦ outside-fault known c.args.columns.now _ o
  | inr u ↦ unclosed-header known c.args.columns.now _ u.0 (u.1 known [] h)
]
