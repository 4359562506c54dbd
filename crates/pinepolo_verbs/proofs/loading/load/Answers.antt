use Rattle.std.proofs.Common.{rules}
use Rattle.cs_csv.proofs.OutcomeLemmas.{if-ok-then}
use Rattle.pinepolo_verbs.proofs.loading.load.Goals as goal

pub returns : goal.returns
returns g c = if-ok-then c.make_store.result _ _ (λ store h. record {
  catalog = c.in-Ok.found.0;
  bytes = c.in-Ok.found.1.items;
  found = c.look_up_text.new.places;
  opened = c.read_table.new.places;
  read = c.in-Ok.ensures.ok.0;
  says = c.in-Ok.ensures.ok.1;
  loaded = c.in-Ok-read_table.loaded;
  table = c.in-Ok-read_table.ensures;
  count = search rules;
  makes = h;
}) c.make_store.ensures
