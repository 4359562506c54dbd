use Rattle.std.proofs.Common.{sym, subst}
use Rattle.std.proofs.lemmas.Result.{on_ok_weaker}
use Rattle.cs_file_system.specs.Calls.{IsSynced}
use Rattle.cs_file_system.proofs.moving.see_kept.Goals as goal

pub returns-clause-synced : goal.returns-clause-synced
returns-clause-synced g c = on_ok_weaker c.sync_folder.result (λ added. λ calls made.
    let x = added calls made in
    let y = c.in_ok-is_kept.ensures.synced x.0 x.1 in
    (y.0, y.1, λ path synced. subst (IsSynced path) (sym x.2) (y.2 path synced))) c.sync_folder.ensures.ok
