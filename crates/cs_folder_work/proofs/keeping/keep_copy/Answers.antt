use Rattle.std.proofs.lemmas.Result.{on_ok_weaker}
use Rattle.cs_folder_work.proofs.keeping.keep_copy.Goals as goal

pub returns-clause-more : goal.returns-clause-more
returns-clause-more g c = on_ok_weaker c.require_same.result (λ more. λ calls made.
    let x = more calls made in
    let y = c.in_ok-copy_unless_kept.ensures x.0 x.1 in
    (y.0, y.1, λ call was. x.2 call (y.2 call was))) c.require_same.ensures.more
