use Rattle.std.proofs.Common.{◌≡◌, ◌<◌, ℕ, ap, subst, sym, ◌∙◌, List, [], length, map, get_or, Ok}
use Rattle.std.specs.Prelude.{Result}
use Rattle.std.specs.List.{filter_map}
use Rattle.cs_schema.specs.CatalogData.{CatalogData, ColumnData}
use Rattle.cs_schema.specs.CatalogRules.{IsCatalog}
use Rattle.cs_schema.specs.Rows.{Row}
use Rattle.cs_schema.specs.Values.{values}
use Rattle.cs_schema.specs.declared.cells.Cells.{Cells}
use Rattle.cs_rows.specs.Walk.{Stray}
use Rattle.cs_rows.specs.Range.{IsWalkFault}
use Rattle.cs_rows.specs.RangeByRows.{given_row, surviving_between, given_among}
use Rattle.cs_rows.specs.Survivors.{contents_of}
use Rattle.cs_rows.specs.WalkByRows.{Reached}
use Rattle.cs_rows.specs.WalkedView.{WalkedData}
use Rattle.cs_rows.proofs.FoundRows.{columns_of_rows, kinds_fit, found_rows_are, all_found, stray_fault}
use Rattle.cs_rows.proofs.levels.RowWalk.range.Goals as goal

-- what is true of one catalog is true of an equal one
own_rules : (C D : CatalogData) → C ≡ D → IsCatalog D → IsCatalog C
own_rules C D same = subst IsCatalog (sym same)

no_cells : (columns : List Cells) (C D : CatalogData) → C ≡ D → ((k : ℕ) (d : Cells) → k < length D.columns → values (get_or columns k d) ≡ []) → (k : ℕ) (d : Cells) → k < length C.columns → values (get_or columns k d) ≡ []
no_cells columns C D same = subst (λ (E : CatalogData). (k : ℕ) (d : Cells) → k < length E.columns → values (get_or columns k d) ≡ []) (sym same)

pub from_columns-requires : goal.from_columns-requires
from_columns-requires c =
    let C = c.args.self.now.survivors.now.catalog in
    let S = contents_of c.args.self.now.survivors.now in
    let xs : List Reached = surviving_between C c.args.self.now.loss S c.args.from c.args.to in
    columns_of_rows C c.walk_projections.new.columns.items (filter_map (given_row c.args.self.now.fresh_only C c.args.self.now.loss S) xs) c.in-Ok-walk_projections.ensures.fit (c.in-Ok-walk_projections.ensures.cells [] (no_cells c.in-Ok.columns.items C c.args.catalog.now c.requires.same c.in-Ok.ensures.none)) (own_rules C c.args.catalog.now c.requires.same c.new_scratch.ensures.rules).column_range.0

pub returns-in-Ok-walk_projections-clause-kinds : goal.returns-in-Ok-walk_projections-clause-kinds
returns-in-Ok-walk_projections-clause-kinds c =
    ap (λ (w : WalkedData). w.kinds) c.from_columns.ensures
    ∙ kinds_fit c.args.self.now.survivors.now.catalog c.walk_projections.new.columns.items c.in-Ok-walk_projections.ensures.fit
    ∙ ap (λ (C : CatalogData). map (λ (k : ColumnData). k.kind) C.columns) c.requires.same

pub returns-in-Ok-walk_projections-clause-rows : goal.returns-in-Ok-walk_projections-clause-rows
returns-in-Ok-walk_projections-clause-rows c =
    let C = c.args.self.now.survivors.now.catalog in
    let S = contents_of c.args.self.now.survivors.now in
    let xs : List Reached = surviving_between C c.args.self.now.loss S c.args.from c.args.to in
    let e = ap (λ (w : WalkedData). w.rows) c.from_columns.ensures
    ∙ found_rows_are C c.args.self.now.loss S c.args.self.now.fresh_only xs c.walk_projections.new.columns.items c.in-Ok-walk_projections.ensures.fit (c.in-Ok-walk_projections.ensures.cells [] (no_cells c.in-Ok.columns.items C c.args.catalog.now c.requires.same c.in-Ok.ensures.none)) (own_rules C c.args.catalog.now c.requires.same c.new_scratch.ensures.rules).column_range.0 in
    let ok : List Row → Result (List Row) Stray = λ rows. Ok rows in
    ap ok e ∙ all_found C c.args.self.now.loss S c.args.self.now.fresh_only xs c.in-Ok-walk_projections.ensures.sound
    ∙ ap (λ (D : CatalogData). given_among c.args.self.now.fresh_only D c.args.self.now.loss S (surviving_between D c.args.self.now.loss S c.args.from c.args.to)) c.requires.same

pub returns-in-Err-walk_projections-clause-fault : goal.returns-in-Err-walk_projections-clause-fault
returns-in-Err-walk_projections-clause-fault c =
    let C = c.args.self.now.survivors.now.catalog in
    let S = contents_of c.args.self.now.survivors.now in
    subst (λ (D : CatalogData). IsWalkFault (given_among c.args.self.now.fresh_only D c.args.self.now.loss S (surviving_between D c.args.self.now.loss S c.args.from c.args.to)) c.in-Err-walk_projections.fault) c.requires.same
    (stray_fault C c.args.self.now.loss S c.args.self.now.fresh_only (surviving_between C c.args.self.now.loss S c.args.from c.args.to) c.in-Err-walk_projections.fault c.in-Err-walk_projections.ensures.fault)
