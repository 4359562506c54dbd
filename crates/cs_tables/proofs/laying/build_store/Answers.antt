use Rattle.cs_tables.proofs.AnswerLemmas.{no-other}
use Rattle.cs_tables.proofs.laying.build_store.Goals as goal

pub unreachable-requires : goal.unreachable-requires
unreachable-requires g c = no-other c.args.catalog.now c.args.rows.now c.in-Err.fault c.requires.keys c.in-Err.ensures c.in_default.not-Memory c.in_default.not-Full
