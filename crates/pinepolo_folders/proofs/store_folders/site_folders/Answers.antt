use Rattle.std.proofs.Common.{◌≡◌, length, ap, arith}
use Rattle.std.proofs.lemmas.List.{length-append}
use Rattle.pinepolo_folders.proofs.FolderLemmas.{folders_more}
use Rattle.pinepolo_folders.proofs.store_folders.site_folders.Goals as goal

pub loop-at-preserved : goal.loop-at-preserved
loop-at-preserved g c =
    let found = c.loop-at.found.items in
    let count : length found ≡ c.loop-at.at = omega arith in
    record {
      count = let grown = simp length-append at (ap length c.in_ok-push.ensures.items) in omega arith;
      each = rw c.in_ok-push.ensures.items (folders_more c.args.sites.now found c.in_ok-site_folder.field-0 c.loop-at.invariant.each (rw count c.in_ok-site_folder.ensures));
    }
