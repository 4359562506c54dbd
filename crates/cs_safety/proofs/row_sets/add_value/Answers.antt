use Rattle.cs_safety.proofs.RowSetLemmas.{grown_sound}
use Rattle.cs_safety.proofs.row_sets.add_value.Goals as goal

pub returns-clause-growing : goal.returns-clause-growing
returns-clause-growing c = grown_sound c.args.catalog.now c.args.loss c.args.c c.args.value.now c.kept_at.result c.args.old.now c.args.new.now _ c.requires.exists c.requires.of_kind c.requires.left c.kept_at.ensures c.add_joined.ensures c.requires.growing
