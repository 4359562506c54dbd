use Rattle.std.proofs.lemmas.Result.{on_ok_weaker}
use Rattle.cs_file_system.proofs.replacing.replace_seen.Goals as goal

pub returns : goal.returns
returns g c = on_ok_weaker c.replace.result (λ added. λ calls made.
    let x = added calls made in
    let y = c.in_ok-see_kept.ensures.synced x.0 x.1 in
    record {
      before = x.0;
      last = rw (← c.as_str-beside.ensures.value, ← c.as_str-path.ensures.value) x.2;
      synced = y.2 _ (c.requires y.0 y.1);
      safe = rw (← c.as_str-path.ensures.value, ← c.as_str-kept.ensures.value, ← c.as_str-folder.ensures.value) (c.in_ok-see_kept.ensures.kept x.0 x.1);
    }) c.replace.ensures.ok
