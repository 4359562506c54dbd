use Rattle.std.proofs.Common.{ℕ, List, ◌++◌, take, drop, ap, ◌∙◌, pos}
use Rattle.std.specs.Prelude.{flat_map}
use Rattle.cs_schema.specs.declared.cells.Value.{Value}
use Rattle.cs_schema.specs.Values.{values}
use Rattle.cs_rebuild.proofs.PlacedCells.{each_there}
use Rattle.cs_rebuild.proofs.columns.cells_at.Goals as goal

pub returns-clause-cells : goal.returns-clause-cells
returns-clause-cells c =
    let placed : List Value = flat_map (λ (place : ℕ). take 1 (drop place (values c.args.column.now))) c.args.numbers.now in
    c.in_ok-push_at.ensures.ok ∙ ap (λ (before : List Value). before ++ placed) c.new-cells.ensures.cells ∙ each_there (values c.args.column.now) c.args.numbers.now (Value.Int (pos 0)) c.requires
