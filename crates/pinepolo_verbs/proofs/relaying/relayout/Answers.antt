use Rattle.cs_csv.proofs.OutcomeLemmas.{if-ok-then}
use Rattle.pinepolo_verbs.proofs.relaying.relayout.Goals as goal

pub returns : goal.returns
returns g c = if-ok-then c.make_store.result _ _ (λ store h. record {
  catalog = c.in-Ok-lay_out_store.laid_out.found.0;
  bytes = c.in-Ok-lay_out_store.laid_out.found.1.items;
  relaid = c.in-Ok-lay_out_store.laid_out.relaid;
  reached = c.lay_out_store.new.places;
  lays_out = c.in-Ok-lay_out_store.ensures;
  makes = h;
}) c.make_store.ensures
