use Rattle.std.proofs.Common.{sym, subst}
use Rattle.cs_store.specs.FileSet.{contents_of}
use Rattle.cs_tables.specs.Dumping.{IsTableText}
use Rattle.pinepolo_verbs.proofs.dumping.text_of.Goals as goal

pub returns-in-Ok-dump : goal.returns-in-Ok-dump
returns-in-Ok-dump g c =
    let dumped = c.in-Ok-dump.ensures in
    record {
      files = c.in-Ok.files;
      loads = c.in-Ok.ensures;
      is = subst (λ text. IsTableText c.args.store.now.catalog.now (contents_of c.in-Ok.files) c.args.store.now.lost text) (sym (rw c.new.ensures.items at dumped.2)) dumped.1;
    }
