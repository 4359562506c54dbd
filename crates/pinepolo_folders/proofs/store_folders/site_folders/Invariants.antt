use Rattle.std.proofs.Common.{◌≡◌, vec_len}
use Rattle.pinepolo_folders.specs.Folders.{AreSiteFolders}
use Rattle.pinepolo_folders.proofs.store_folders.site_folders.Given as goal

abbrev pub invariant-loop-at : goal.invariant-loop-at
invariant-loop-at g l = record {
  count : vec_len l.found ≡ l.at;
  each : AreSiteFolders l.sites l.found.items;
}
