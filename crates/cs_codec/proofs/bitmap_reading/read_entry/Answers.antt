use Rattle.std.proofs.Common.{ℕ, Option, subst}
use Rattle.cs_codec.specs.BitmapReading.{ReadsLengths}
use Rattle.cs_codec.proofs.EntryReading.{no_lengths, entry_read}
use Rattle.cs_codec.proofs.bitmap_reading.read_entry.Goals as goal

pub returns-in_default-2 : goal.returns-in_default-2
returns-in_default-2 g c =
    no_lengths g.C.Cell.bytes g.C.Cell.is_cell g.met.C.Cell.begins_one c.args.bytes.now c.args.at c.in-Some.value c.in-Some.end c.in-Some.ensures.found c.read_lengths.new.lengths.items
    (subst (λ (o : Option ℕ). ReadsLengths c.args.bytes.now c.in-Some.end c.read_lengths.new.lengths.items o) c.in_default-2.is c.in_ok-stop.ensures)

pub returns : goal.returns
returns g c =
    entry_read g.C.Cell.bytes g.C.Cell.is_cell g.met.C.Cell.begins_one c.args.bytes.now c.args.at c.in-Some.value c.in-Some.end c.in-Some.ensures.found c.read_lengths.new.lengths.items c.in-Some-2.stop
    (subst (λ (o : Option ℕ). ReadsLengths c.args.bytes.now c.in-Some.end c.read_lengths.new.lengths.items o) c.in-Some-2.is c.in_ok-stop.ensures) (g.met.C.Cell.some_bytes c.in-Some.value)
