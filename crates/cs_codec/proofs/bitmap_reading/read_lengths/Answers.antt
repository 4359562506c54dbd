use Rattle.std.proofs.lemmas.Result.{IfOk-weaker}
use Rattle.cs_codec.proofs.EntryReading.{lengths_read}
use Rattle.cs_codec.proofs.bitmap_reading.read_lengths.Goals as goal

pub returns : goal.returns
returns c = IfOk-weaker c.read_numbers.result _ _ (λ found reads. lengths_read c.args.bytes.now c.args.at c.in-Some.count c.in-Some.ensures.found c.read_numbers.new.numbers.items found reads) c.read_numbers.ensures
