use Rattle.std.proofs.Common.{◌+◌, ◌-◌, ◌<◌, arith, ◌∙◌}
use Rattle.std.specs.List.{range_with_len}
use Rattle.rayon.proofs.ListFacts.{IfOk-then}
use Rattle.rayon.proofs.ToStd.{nat_range-All}
use Rattle.cs_rows.specs.Survivors.{contents_of}
use Rattle.cs_order.specs.Tables.{table_of}
use Rattle.cs_recovery.specs.Places.{entry_for, image_after}
use Rattle.cs_rebuild.proofs.WrittenFiles.{made_of_each}
use Rattle.cs_rebuild.proofs.file_bytes.entries_of.Goals as goal

pub collect-requires-clause-ready : goal.collect-requires-clause-ready
collect-requires-clause-ready g c κs within =
    let ends = c.into_par_iter.ensures in
    let inside = nat_range-All (λ i. i < 4294967295) 0 c.top.result
    (λ i low high. omega (arith, high, c.top.type_inv)) in
    rw (c.map.ensures.base, c.map.ensures.f, c.with_min_len.ensures.base, ends.0, ends.1) (λ k d lt. (inside k d lt, λ y p. tt))

pub returns : goal.returns
returns g c =
    let e = c.args.entries.now in
    let x = e.store.now in
    let C = x.catalog.now in
    let S = contents_of x.survivors.now in
    let T = table_of C x.walked.rows in
    let ends = c.into_par_iter.ensures in
    IfOk-then c.collect.result _ _ c.collect.ensures (λ entries h.
    let chain = h.1 in
    h.2 ∙ made_of_each _ (λ i. entry_for C x.loss S T e.p e.s e.q (i + 1)) (λ i y told. told.entry_is ∙ (λ j. let f = (c.map.ensures.f j).0 in entry_for f.now.store.now.catalog.now f.now.store.now.loss (contents_of f.now.store.now.survivors.now) (table_of f.now.store.now.catalog.now f.now.store.now.walked.rows) f.now.p f.now.s f.now.q (i + 1))) c.top.result (image_after C x.loss S T e.p e.s).top chain.0 h.0 c.top.ensures (chain.1 ∙ (λ i. let r = (c.map.ensures.base i).base in range_with_len r.start (r.end - r.start)) ∙ (λ i. let r = c.with_min_len.ensures.base i in range_with_len r.start (r.end - r.start)) ∙ (λ i. range_with_len (ends.0 i) (ends.1 i - ends.0 i))) chain.2)
