use Rattle.std.proofs.Common.{subst}
use Rattle.std.specs.Prelude.{Ok}
use Rattle.cs_tables.specs.Loading.{LoadsTable}
use Rattle.pinepolo_verbs.proofs.loading.read_table.Goals as goal

pub returns-in-Ok-load : goal.returns-in-Ok-load
returns-in-Ok-load g c = record {
  input = c.in-Ok.input;
  opened = c.in-Ok.ensures;
  loads = subst (λ i. LoadsTable c.args.catalog.now (g.P.Input.Read.remaining i) (Ok c.in-Ok-load.loaded)) c.new-lines.ensures c.in-Ok-load.ensures;
}
