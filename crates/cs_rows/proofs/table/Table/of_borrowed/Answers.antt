use Rattle.std.proofs.Common.{◌+◌, ◌++◌, ◌∷◌, [], List, Option, Some, length, map, take, sym, ap, subst, ◌∙◌, arith, length-append}
use Rattle.std.proofs.lemmas.List.{map-append, take_more}
use Rattle.cs_schema.specs.declared.cells.Cells.{Cells}
use Rattle.cs_rows.specs.WalkedView.{AreColumns, walked_data}
use Rattle.cs_rows.proofs.TableLemmas.{borrowed_whole}
use Rattle.cs_rows.proofs.table.Table.of_borrowed.Goals as goal

pub loop-c-preserved : goal.loop-c-preserved
loop-c-preserved c =
    let columns = c.args.columns.now in
    let x : Cells = c.index-columns-c.result in
    record {
      count = ap length c.in_ok-push.ensures.items ∙ length-append c.loop-c.owned.items _ ∙ ap (λ n. n + 1) c.loop-c.invariant.count;
      borrowed = c.in_ok-push-2.ensures.ok ∙ ap (λ (l : List (Option Cells)). l ++ Some x ∷ []) c.loop-c.invariant.borrowed ∙ sym (map-append Some (take c.loop-c.c columns) (x ∷ [])) ∙ ap (map Some) (ap (λ (y : Cells). take c.loop-c.c columns ++ y ∷ []) c.index-columns-c.is ∙ sym (take_more columns c.loop-c.c x c.loop-c-test.true));
    }

pub invariant_of-result : goal.invariant_of-result
invariant_of-result c =
    let columns = c.args.columns.now in
    subst AreColumns (sym (borrowed_whole c.loop-c.owned.items columns c.loop-c.borrowed c.loop-c.c c.loop-c.invariant.count (omega arith) c.loop-c.invariant.borrowed)) c.requires

pub returns : goal.returns
returns c =
    let columns = c.args.columns.now in
    ap walked_data (borrowed_whole c.loop-c.owned.items columns c.loop-c.borrowed c.loop-c.c c.loop-c.invariant.count (omega arith) c.loop-c.invariant.borrowed)
