use Rattle.std.proofs.Common.{sym, ap, ◌∙◌, Bor, Option, get_or}
use Rattle.std.specs.Option.{unwrap_or, option_map}
use Rattle.cs_schema.specs.declared.cells.Cells.{Cells}
use Rattle.cs_rows.proofs.TableLemmas.{each}
use Rattle.cs_rows.proofs.table.column_at.Goals as goal

abbrev borrowed : Option (Bor Cells) → Option Cells
borrowed = option_map (λ column. column.now)

pub returns-in-Some : goal.returns-in-Some
returns-in-Some c =
    let x = c.in-Some.column.now in
    sym (each c.args.owned.now c.args.borrowed.now c.args.c x c.requires ∙ ap (λ o. unwrap_or o (get_or c.args.owned.now c.args.c x)) (sym c.column.ensures ∙ ap borrowed c.in-Some.is))

pub returns-in-None : goal.returns-in-None
returns-in-None c =
    let x = c.index-owned-c.result in
    c.index-owned-c.is ∙ sym (each c.args.owned.now c.args.borrowed.now c.args.c x c.requires ∙ ap (λ o. unwrap_or o (get_or c.args.owned.now c.args.c x)) (sym c.column.ensures ∙ ap borrowed c.in-None.is))
