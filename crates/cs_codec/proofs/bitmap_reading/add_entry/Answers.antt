use Rattle.std.proofs.lemmas.Result.{IfOk-weaker}
use Rattle.cs_codec.proofs.EntryReading.{entry_added}
use Rattle.cs_codec.proofs.bitmap_reading.add_entry.Goals as goal

pub returns : goal.returns
returns g c =
    let reads = (rw c.in-Some.is at c.in_ok-end.ensures.found) in
    IfOk-weaker c.read_lengths.result _ _ (λ found lengths.
    entry_added g.C.Cell.bytes g.C.Cell.is_cell g.met.C.Cell.begins_one g.met.C.Cell.some_bytes c.args.bytes.now c.args.at c.in-Some.end (g.L.Column.cells c.args.values.now) (g.L.Column.cells c.read.new.self) reads c.read_lengths.new.lengths.items found lengths) c.read_lengths.ensures
