use Rattle.std.proofs.Common.{◌≡◌, ap, arith, length}
use Rattle.std.proofs.lemmas.List.{length-append}
use Rattle.cs_sites.proofs.EntryLemmas.{folders_more}
use Rattle.cs_sites.proofs.placing.folders_of.Goals as goal

pub loop-k-preserved : goal.loop-k-preserved
loop-k-preserved c =
    let count : length c.loop-k.folders.items ≡ c.loop-k.k = omega arith in
    record {
      count = let grown = simp length-append at (ap length c.in_ok-push.ensures.ok) in omega arith;
      each = rw c.in_ok-push.ensures.ok (folders_more (λ s. s.now) c.args.found.now c.loop-k.folders.items c.in-Some-folder_at.folder c.loop-k.k count c.loop-k.invariant.each c.in-Some-folder_at.ensures);
    }
