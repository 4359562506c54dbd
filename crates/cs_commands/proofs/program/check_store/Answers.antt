use Rattle.std.proofs.Common.{subst}
use Rattle.cs_parallel_io.specs.Standing.{standing}
use Rattle.cs_commands.specs.Commands.{LoadsStore}
use Rattle.cs_commands.proofs.program.check_store.Goals as goal

pub returns-in-Ok-check_owned-clause-ok : goal.returns-in-Ok-check_owned-clause-ok
returns-in-Ok-check_owned-clause-ok g c =
    record {
      catalog = c.in-Ok.loaded.0;
      files = c.in-Ok.loaded.1;
      loads = subst (λ L. LoadsStore g.P.Places.finds (standing g.P.Store.SharedSource.answers) c.args.places.now c.args.path.now L c.in-Ok.loaded.0 c.in-Ok.loaded.1 c.load_store.new.places) c.none.ensures c.in-Ok.ensures.ok;
      answer = c.in-Ok-check_owned.ensures.answer;
    }
