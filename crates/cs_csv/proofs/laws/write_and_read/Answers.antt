use Rattle.std.proofs.Common.{◌≡◌, false, ◌∙◌, ap, sym, subst}
use Rattle.cs_csv.specs.Closed.{Closed}
use Rattle.cs_csv.specs.Columns.{NamesDiffer}
use Rattle.cs_csv.specs.RoundTrip.{HasNoMark}
use Rattle.cs_csv.proofs.CatalogNames.{names_differ, has_no_mark}
use Rattle.cs_csv.specs.Reading.{text_records}
use Rattle.cs_csv.specs.Writing.{names_record, row_count, rows_records, table_records, table_text}
use Rattle.cs_csv.proofs.OutcomeLemmas.{if-err-then, if-ok-then}
use Rattle.cs_csv.proofs.TripLemmas.{cells-back, no-faults, parts-same, table-back}
use Rattle.cs_csv.proofs.laws.write_and_read.Goals as goal

pub returns-clause-same : goal.returns-clause-same
returns-clause-same c =
    let r = c.requires in
    let text : c.as_slice.result.now ≡ table_text c.args.catalog.now.columns c.args.cells.now = c.as_slice.ensures.value ∙ (rw c.new.ensures.items at c.in-Ok.ensures.bytes) in
    let back : text_records c.as_slice.result.now ≡ (table_records c.args.catalog.now.columns c.args.cells.now, false) = ap text_records text ∙ table-back c.args.catalog.now.columns c.args.cells.now (subst HasNoMark (ap (λ C. C.columns) c.catalog.view_is) (has_no_mark _ c.catalog.invariant)) r.fit in
    if-ok-then c.read_rows.result _ _ (λ read h.
    let parts = parts-same h.0 (names_record c.args.catalog.now.columns) h.1 (rows_records c.args.cells.now (row_count c.args.cells.now)) (sym h.3.0 ∙ ap (λ (t : Closed). t.0) back) in
    cells-back c.args.catalog.now.columns c.args.cells.now (subst NamesDiffer (ap (λ C. C.columns) c.catalog.view_is) (names_differ _ c.catalog.invariant)) r.even r.fit read.items (rw (parts.0, parts.1) at h.2)) c.read_rows.ensures.ok

pub returns-clause-no_fault : goal.returns-clause-no_fault
returns-clause-no_fault c =
    let r = c.requires in
    let text : c.as_slice.result.now ≡ table_text c.args.catalog.now.columns c.args.cells.now = c.as_slice.ensures.value ∙ (rw c.new.ensures.items at c.in-Ok.ensures.bytes) in
    let back : text_records c.as_slice.result.now ≡ (table_records c.args.catalog.now.columns c.args.cells.now, false) = ap text_records text ∙ table-back c.args.catalog.now.columns c.args.cells.now (subst HasNoMark (ap (λ C. C.columns) c.catalog.view_is) (has_no_mark _ c.catalog.invariant)) r.fit in
    if-err-then c.read_rows.result _ _ (λ f h. no-faults c.args.catalog.now.columns c.args.cells.now (subst NamesDiffer (ap (λ C. C.columns) c.catalog.view_is) (names_differ _ c.catalog.invariant)) r.even r.fit f (rw back at h)) c.read_rows.ensures.err
