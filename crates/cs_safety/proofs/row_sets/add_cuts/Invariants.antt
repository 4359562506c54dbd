use Rattle.std.proofs.Common.{◌≡◌, ℕ, ◌<◌, Some, slice_get}
use Rattle.cs_schema.specs.declared.cells.Value.{Value}
use Rattle.cs_schema.specs.Values.{values}
use Rattle.cs_safety.specs.RowSets.{IsGrowing, StaysIn, HasValue}
use Rattle.cs_safety.proofs.row_sets.add_cuts.Given as goal

abbrev pub invariant-loop-at : goal.invariant-loop-at
invariant-loop-at l = record {
  growing : IsGrowing l.catalog l.loss l.c l.new;
  stays : StaysIn l.initial.new l.new;
  has : (i : ℕ) (v : Value) → i < l.at → slice_get (values l.cuts) i ≡ Some v → HasValue l.catalog l.loss l.c l.old l.new v;
}
