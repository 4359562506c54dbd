use Rattle.std.proofs.Common.{◌++◌, ◌∙◌, ap, sym}
use Rattle.std.proofs.lemmas.List.{append-nil}
use Rattle.cs_manifest.specs.Lines.{line_of, catalog_path}
use Rattle.cs_manifest.proofs.writing.write_manifest.Goals as goal

pub loop-name-init : goal.loop-name-init
loop-name-init c =
    let first = line_of catalog_path c.args.catalog.now in
    c.in_ok-push_line.ensures ∙ ap (λ l. l ++ first) c.new-text.ensures.items ∙ sym (append-nil first)
