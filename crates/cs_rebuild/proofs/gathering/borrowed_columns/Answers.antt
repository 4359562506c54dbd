use Rattle.std.proofs.Common.{◌+◌, List, [], ◌∷◌, ap, map, ◌∙◌, Option, None, Some, Bor, length, length-append, arith}
use Rattle.std.specs.Prelude.{IfSome}
use Rattle.std.specs.Option.{option_map}
use Rattle.cs_schema.specs.declared.cells.Cells.{Cells}
use Rattle.cs_schema.specs.Rows.{Row}
use Rattle.cs_rows.specs.Survivors.{contents_of}
use Rattle.cs_rows.specs.Walk.{projection_rows, walked_row}
use Rattle.cs_order.proofs.Filling.{lists_more}
use Rattle.cs_rebuild.specs.Walking.{IsColumnOf}
use Rattle.cs_rebuild.proofs.gathering.borrowed_columns.Goals as goal

-- the borrowed column, if any, for one more column
borrowed_there : (P Q : Cells → Type 0) (o : Option (Bor Cells)) → IfSome o (λ b. P b.now) → IfSome o (λ b. Q b.now) → IfSome (option_map (λ b. b.now) o) (λ cells. P cells × Q cells)
borrowed_there P Q None p q = tt
borrowed_there P Q (Some b) p q = (p, q)

pub loop-c-preserved : goal.loop-c-preserved
loop-c-preserved c =
    let C = c.args.walk.now.survivors.now.catalog in
    let S = contents_of c.args.walk.now.survivors.now in
    let P = c.args.walk.now.plan.now in
    let rows : List Row = map (walked_row C S P) (projection_rows C S P.anchor) in
    let one : Option Cells = option_map (λ b. b.now) c.lone_column.result in
    let more = c.in_ok-push.ensures.ok in
    record {
      count = ap length more ∙ length-append c.loop-c.borrowed (one ∷ []) ∙ ap (λ n. n + 1) c.loop-c.invariant.count;
      each = λ k h. lists_more None (λ i o. IfSome o (IsColumnOf C rows i)) c.loop-c.borrowed c.push.new.self one c.loop-c.c more c.loop-c.invariant.count c.loop-c.invariant.each (borrowed_there _ _ c.lone_column.result c.lone_column.ensures.kind c.lone_column.ensures.cells) k h;
    }

pub returns : goal.returns
returns c = record { are = λ k h. c.loop-c.invariant.each k (omega (arith, h, c.loop-c-test.false, c.loop-c.auto.c-end, c.column_count-c-end.ensures.count)) }
