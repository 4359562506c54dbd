use Rattle.std.proofs.Common.{◌≡◌, true, Some, length, sym, ap, subst, ◌∙◌}
use Rattle.std.specs.Prelude.{IfOk}
use Rattle.cs_schema.specs.declared.file_name.FileName.{FileName}
use Rattle.cs_schema.specs.CatalogData.{has_join}
use Rattle.cs_schema.specs.Order.{rows_of}
use Rattle.cs_delta.specs.DeltaFile.{delta_text, no_changes}
use Rattle.cs_jix.specs.JoinIndex.{join_index_text}
use Rattle.cs_recovery.specs.Tables.{when}
use Rattle.cs_rebuild.specs.FilesToWrite.{is_written}
use Rattle.cs_rebuild.specs.OnStore.{entries_on, segment_file_on, table_on, written_on}
use Rattle.cs_rebuild.proofs.FilesToWrite.{as_written, named}
use Rattle.cs_rebuild.proofs.file_bytes.file_bytes.Goals as goal

pub segment_bytes-requires-clause-segment : goal.segment_bytes-requires-clause-segment
segment_bytes-requires-clause-segment g c κs within =
    let x = c.args.store.now in
    named x.catalog.now x.loss (FileName.Seg c.in-Seg.p c.in-Seg.s) (subst (λ n. is_written x.catalog.now x.loss n ≡ true) c.in-Seg.is c.requires.written)

pub returns-in-Seg : goal.returns-in-Seg
returns-in-Seg g c =
    let x = c.args.store.now in
    let text = segment_file_on x c.in-Seg.p c.in-Seg.s in
    let e = subst (λ n. is_written x.catalog.now x.loss n ≡ true) c.in-Seg.is c.requires.written in
    subst (λ n. IfOk c.segment_bytes.result (λ bytes. written_on x n ≡ Some bytes.items)) (sym c.in-Seg.is)
    (as_written (λ b. b.items) (written_on x (FileName.Seg c.in-Seg.p c.in-Seg.s)) text c.segment_bytes.result (ap (λ b. when b text) e) c.segment_bytes.ensures)

pub delta_bytes-requires : goal.delta_bytes-requires
delta_bytes-requires g c =
    let x = c.args.store.now in
    named x.catalog.now x.loss (FileName.Del c.in-Del.p c.in-Del.s) (subst (λ n. is_written x.catalog.now x.loss n ≡ true) c.in-Del.is c.requires.written)

pub returns-in-Del : goal.returns-in-Del
returns-in-Del g c =
    let x = c.args.store.now in
    let text = delta_text (no_changes c.in-Del.p c.in-Del.s (length (rows_of x.catalog.now (table_on x) c.in-Del.p c.in-Del.s))) in
    let e = subst (λ n. is_written x.catalog.now x.loss n ≡ true) c.in-Del.is c.requires.written in
    subst (λ n. IfOk c.delta_bytes.result (λ bytes. written_on x n ≡ Some bytes.items)) (sym c.in-Del.is)
    (as_written (λ b. b.items) (written_on x (FileName.Del c.in-Del.p c.in-Del.s)) text c.delta_bytes.result (ap (λ b. when b text) e) c.delta_bytes.ensures)

pub join_bytes-requires-clause-segment : goal.join_bytes-requires-clause-segment
join_bytes-requires-clause-segment g c κs within =
    let x = c.args.store.now in
    (named x.catalog.now x.loss (FileName.Jix c.in-Jix.p c.in-Jix.s c.in-Jix.q) (subst (λ n. is_written x.catalog.now x.loss n ≡ true) c.in-Jix.is c.requires.written)).0

pub join_bytes-requires-clause-target : goal.join_bytes-requires-clause-target
join_bytes-requires-clause-target g c κs within =
    let x = c.args.store.now in
    let there = named x.catalog.now x.loss (FileName.Jix c.in-Jix.p c.in-Jix.s c.in-Jix.q) (subst (λ n. is_written x.catalog.now x.loss n ≡ true) c.in-Jix.is c.requires.written) in
    ((c.projection_count-rules.ensures.rules.projections c.in-Jix.p there.0.0).joins c.in-Jix.q there.1).0

pub returns-in-Jix : goal.returns-in-Jix
returns-in-Jix g c =
    let x = c.args.store.now in
    let text = join_index_text c.in-Jix.p c.in-Jix.s c.in-Jix.q (entries_on x c.in-Jix.p c.in-Jix.s c.in-Jix.q) in
    let e = subst (λ n. is_written x.catalog.now x.loss n ≡ true) c.in-Jix.is c.requires.written in
    subst (λ n. IfOk c.join_bytes.result (λ bytes. written_on x n ≡ Some bytes.items)) (sym c.in-Jix.is)
    (as_written (λ b. b.items) (written_on x (FileName.Jix c.in-Jix.p c.in-Jix.s c.in-Jix.q)) text c.join_bytes.result (ap (λ b. when b text) e) c.join_bytes.ensures)
