use Rattle.std.proofs.Common.{ap, get_or, map, sym, ◌∙◌, None}
use Rattle.cs_schema.specs.Rows.{cell}
use Rattle.cs_rows.specs.PlanWalks.{walked_rows}
use Rattle.cs_rebuild.specs.Walking.{IsTableColumn}
use Rattle.cs_rebuild.proofs.AppendedColumns.{owned_there}
use Rattle.cs_rebuild.proofs.PickedColumns.{both_ok}
use Rattle.cs_rebuild.proofs.gathering.gather_unless_borrowed.Goals as goal

pub returns : goal.returns
returns c =
    let w = c.args.walk.now in
    both_ok c.gather.result _ _ (IsTableColumn w c.args.borrowed.now c.args.c) c.gather.ensures.kind c.gather.ensures.cells
    (λ cells kind e. record {
      is = owned_there w.survivors.now.catalog (walked_rows w) c.args.borrowed.now c.args.c cells (get_or c.args.borrowed.now c.args.c None) (sym c.has.ensures ∙ c.if-has.false) (kind, e ∙ ap (map (λ row. cell row c.args.c)) c.requires.whole);
    })
