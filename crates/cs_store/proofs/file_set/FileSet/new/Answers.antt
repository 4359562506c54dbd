use Rattle.std.proofs.Common.{◌∙◌, ap}
use Rattle.std.specs.FinMap.{from_sorted}
use Rattle.cs_schema.specs.FileNames.{name_cmp}
use Rattle.cs_store.specs.FileSet.{named_bytes}
use Rattle.cs_store.proofs.FileSetLemmas.{from_sorted-none}
use Rattle.cs_store.proofs.file_set.FileSet.new.Goals as goal

pub returns : goal.returns
returns c = ap (λ es. from_sorted {R = name_cmp} (named_bytes es)) c.new.ensures.empty ∙ from_sorted-none
