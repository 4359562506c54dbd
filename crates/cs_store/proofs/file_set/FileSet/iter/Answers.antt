use Rattle.std.proofs.Common.{sym, ◌∙◌, ap}
use Rattle.std.specs.FinMap.{entries}
use Rattle.cs_store.specs.FileSet.{named_bytes}
use Rattle.cs_store.proofs.FileSetLemmas.{entries-named_bytes}
use Rattle.cs_store.proofs.file_set.FileSet.iter.Goals as goal

pub returns : goal.returns
returns c = ap named_bytes c.iter.ensures.rest ∙ sym (entries-named_bytes _ c.self.invariant) ∙ ap entries c.self.view_is
