use Rattle.std.proofs.Common.{length, ◌≤◌, ◌*◌, List, refl, sym, ap, subst, ◌∙◌, Ok}
use Rattle.std.specs.List.{filter_map, flat_map}
use Rattle.std.proofs.lemmas.List.Elements.{filter_map-append}
use Rattle.cs_schema.specs.CatalogData.{CatalogData}
use Rattle.cs_schema.specs.Rows.{Row}
use Rattle.cs_rows.specs.Survivors.{contents_of}
use Rattle.cs_rows.specs.Walk.{Stray}
use Rattle.cs_rows.specs.WalkByRows.{Reached, surviving_rows, without_repeats}
use Rattle.cs_rows.specs.RangeByRows.{is_stray_row, fresh_row}
use Rattle.cs_rows.specs.WalkedView.{WalkedData}
use Rattle.cs_rows.proofs.WalkParts.{walk_by_rows_found, walk_by_rows_stray}
use Rattle.cs_recovery.proofs.FoundBefore.{fresh_rows_alike}
use Rattle.cs_rebuild.proofs.Verdicts.{memory_or}
use Rattle.cs_rebuild.proofs.WalkPieces.{all_walked, first_astray}
use Rattle.cs_rebuild.proofs.rowwise.walk_rowwise.Goals as goal

pub returns-in-Ok-join_once-clause-rows : goal.returns-in-Ok-join_once-clause-rows
returns-in-Ok-join_once-clause-rows g c =
    let C = c.args.catalog.now in
    let L = c.args.loss in
    let S = contents_of c.args.survivors.now in
    let e : Reached → Stray = λ x. (x.0, x.1.0, x.1.1) in
    let f : List Reached → List Row = filter_map (fresh_row C L S) in
    let cover = subst (λ n. n ≤ c.count_pieces-pieces.result * c.args.run.now.cut) (c.surviving_row_count-rows.ensures ∙ ap (λ (D : CatalogData). length (surviving_rows D L S)) c.requires.same) c.count_pieces-pieces.ensures.0 in
    let whole = all_walked (is_stray_row C L S) e f (surviving_rows C L S) c.args.run.now.cut refl (filter_map-append (fresh_row C L S)) (λ (w : WalkedData). w.rows) c.count_pieces-pieces.result cover c.in-Ok.ensures.ok.sound c.in-Ok.all.items c.in-Ok.ensures.ok.len (λ i w at. (c.in-Ok.ensures.ok.each i w at).1) in
    walk_by_rows_found C L S (fresh_rows_alike C L S c.projection_count-rules.ensures.rules.key) _ (sym whole) ∙ ap (λ r. Ok r) (sym (ap (λ (w : WalkedData). w.rows) c.of_walk.ensures ∙ c.in-Ok-join_once.ensures.rows ∙ ap (λ (ps : List WalkedData). without_repeats C (flat_map (λ (piece : WalkedData). piece.rows) ps)) c.as_slice.ensures.value))

pub returns-clause-err : goal.returns-clause-err
returns-clause-err g c =
    let C = c.args.catalog.now in
    let L = c.args.loss in
    let S = contents_of c.args.survivors.now in
    let e : Reached → Stray = λ x. (x.0, x.1.0, x.1.1) in
    let f : List Reached → List Row = filter_map (fresh_row C L S) in
    memory_or _ c.in-Err.ensures.err (λ least.
    let h = first_astray (is_stray_row C L S) e f (surviving_rows C L S) c.args.run.now.cut c.count_pieces-pieces.result c.in-Err.fault least in
    (h.0, walk_by_rows_stray C L S h.0 (sym h.1), h.2))
