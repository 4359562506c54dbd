use Rattle.std.proofs.Common.{List, ℕ, subst}
use Rattle.cs_schema.specs.FileNames.{surviving}
use Rattle.cs_store.specs.Load.{Loads}
use Rattle.cs_parallel_io.specs.Standing.{standing}
use Rattle.pinepolo_drill.proofs.drilling.drill.Goals as goal

pub returns-in-Ok-drill_files-clause-ok : goal.returns-in-Ok-drill_files-clause-ok
returns-in-Ok-drill_files-clause-ok g c = record {
  files = c.in-Ok-load_side_by_side.files;
  store = c.in-Ok.found.1;
  left = c.in-Ok.found.1;
  finds = c.in-Ok.ensures.ok;
  loads = subst (λ (L : List ℕ). Loads (standing g.P.Store.SharedSource.answers) (surviving c.in-Ok.found.0 L) c.in-Ok.found.1 c.in-Ok-load_side_by_side.files c.in-Ok.found.1) c.none-none.ensures c.in-Ok-load_side_by_side.ensures.ok;
  reach = c.reach_of-at_most.ensures.reach;
  trials = c.in-Ok-drill_files.ensures.ok;
}
