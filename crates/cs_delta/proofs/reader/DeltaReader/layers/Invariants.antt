use Rattle.std.proofs.Common.{◌≡◌, length}
use Rattle.cs_delta.specs.DeltaFile.{IsLayer, layer_text, rows_after}
use Rattle.cs_delta.specs.Reading.{counted}
use Rattle.cs_delta.proofs.Sequences.{IsReadSoFar, along}
use Rattle.cs_delta.proofs.reader.DeltaReader.layers.Given as goal

abbrev pub invariant-loop : goal.invariant-loop
invariant-loop l = record {
  so_far : IsReadSoFar layer_text rows_after (IsLayer l.self.catalog.now l.self.p (counted l.self.rows l.self.top)) l.self.rows l.bytes l.layers.items l.rest;
  count : length l.layers.items ≡ l.counter;
  left : l.below ≡ along rows_after l.self.rows l.layers.items;
}
