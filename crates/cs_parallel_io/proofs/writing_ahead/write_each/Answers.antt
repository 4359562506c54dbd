use Rattle.std.proofs.Common.{◌<◌}
use Rattle.std.specs.FinMap.{len}
use Rattle.rayon.proofs.ToStd.{nat_range-All}
use Rattle.cs_parallel_io.proofs.writing_ahead.write_each.Goals as goal

pub collect-requires-clause-ready : goal.collect-requires-clause-ready
collect-requires-clause-ready g c κs within =
    let ends = c.into_par_iter.ensures in
    let inside = nat_range-All (λ i. i < len c.args.files.now) 0 (len c.args.files.now) (λ i low high. high) in
    rw (c.map.ensures.base, c.map.ensures.f, c.with_min_len.ensures.base, ends.0, ends.1, c.len.ensures.count) (λ k d lt. (inside k d lt, λ y p. tt))
