use Rattle.std.proofs.Common.{length, refl, ap, ◌∙◌}
use Rattle.cs_rebuild.proofs.Sealing.{each_told}
use Rattle.cs_rebuild.proofs.hash_batches.are_sealed_at_once.Goals as goal

pub all-requires-clause-items : goal.all-requires-clause-items
all-requires-clause-items g c κs within = λ k d low. ap length c.as_slice-batches.ensures.value ∙ c.in-Ok.ensures.each

pub returns : goal.returns
returns g c = λ yes f is.
    let ends = c.into_par_iter.ensures in
    let told = rw (yes, c.with_min_len.ensures.base, ends.0, ends.1) at c.all.ensures in
    each_told c.args.files.now c.as_slice-batches.result.now c.args.at_once (λ k low. rw c.as_slice-batches.ensures.value (c.in-Ok.ensures.below k low)) (rw (← told.1) (λ k d lt. told.2 k d lt refl)) f is
