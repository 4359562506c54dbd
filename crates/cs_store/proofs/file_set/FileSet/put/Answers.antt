use Rattle.std.proofs.Common.{◌∙◌, ap}
use Rattle.std.specs.FinMap.{insert, from_sorted}
use Rattle.cs_schema.specs.FileNames.{name_cmp}
use Rattle.cs_store.specs.FileSet.{named_bytes}
use Rattle.cs_store.proofs.FileSetLemmas.{insert-named_bytes}
use Rattle.cs_store.proofs.file_set.FileSet.put.Goals as goal

pub returns-clause-ok : goal.returns-clause-ok
returns-clause-ok c =
    let ordered_after = rw c.in_ok-insert.ensures.entries at c.in_ok-insert.ensures.ordered in
    ap (λ es. from_sorted {R = name_cmp} (named_bytes es)) c.in_ok-insert.ensures.entries
    ∙ insert-named_bytes c.self.inside.files.entries c.args.name c.args.bytes c.self.invariant ordered_after
    ∙ ap (λ files. insert files c.args.name c.args.bytes.items) c.self.view_is
