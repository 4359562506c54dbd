use Rattle.std.proofs.Common.{◌≡◌, ℕ, map, List}
use Rattle.std.specs.List.{filter}
use Rattle.cs_store.specs.FileSet.{contents_of}
use Rattle.cs_rebuild.specs.Reading.{resealed}
use Rattle.cs_schema.specs.CatalogData.{has_join}
use Rattle.cs_schema.specs.Lists.{IsIn, numbers_below}
use Rattle.cs_recovery.specs.Contents.{IsJoinOf}
use Rattle.cs_jix.specs.JoinIndex.{Place}
use Rattle.cs_rebuild.proofs.files_of.SegmentSource.read_joins.Given as goal

abbrev pub invariant-loop-q : goal.invariant-loop-q
invariant-loop-q l = record {
  targets : map (λ j. j.0) l.joins.items ≡ filter (has_join l.self.catalog.now l.self.p) (numbers_below l.q);
  joins : (j : ℕ × List Place) → IsIn j l.joins.items → IsJoinOf (resealed (contents_of l.self.files.now)) l.self.p l.self.s j.0 j.1;
}
