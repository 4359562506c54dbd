use Rattle.std.proofs.Common.{sym, ◌∙◌, ap}
use Rattle.std.specs.FinMap.{len}
use Rattle.cs_store.proofs.FileSetLemmas.{len-named_bytes}
use Rattle.cs_store.proofs.file_set.FileSet.len.Goals as goal

pub returns-clause-count : goal.returns-clause-count
returns-clause-count c = c.len.ensures.len ∙ sym (len-named_bytes _ c.self.invariant) ∙ ap len c.self.view_is
