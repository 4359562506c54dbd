use Rattle.std.proofs.Common.{◌≡◌, map, length}
use Rattle.std.specs.List.{All}
use Rattle.cs_schema.specs.CatalogData.{projection}
use Rattle.cs_delta.specs.DeltaFile.{IsChange, change_bytes}
use Rattle.cs_delta.specs.Reading.{counted}
use Rattle.cs_delta.specs.StoredItems.{stored_change, AreAmong}
use Rattle.cs_delta.proofs.Sequences.{IsReadSoFar}
use Rattle.cs_delta.proofs.ItemTexts.{same_rows}
use Rattle.cs_delta.proofs.reader.DeltaReader.layer.Given as goal

abbrev pub invariant-loop : goal.invariant-loop
invariant-loop l =
    let width = length (projection l.self.catalog.now l.self.p).columns in
    record {
      so_far : IsReadSoFar change_bytes same_rows (λ n c. IsChange l.self.catalog.now l.self.p (counted l.self.rows l.self.top) l.below c) l.below l.initial.rest (map (stored_change l.cells width) l.items.items) l.rest;
      among : All (AreAmong (length l.cells) width) l.items.items;
      count : length l.items.items ≡ l.counter;
    }
