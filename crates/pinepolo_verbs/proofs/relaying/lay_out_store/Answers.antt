use Rattle.pinepolo_verbs.proofs.relaying.lay_out_store.Goals as goal

pub returns-in-Ok-lay_out : goal.returns-in-Ok-lay_out
returns-in-Ok-lay_out g c = record {
  catalog = c.in-Ok.found.0;
  store = c.in-Ok.found.1;
  left = c.in-Ok.found.1;
  found = c.find_store.new.places;
  finds = c.in-Ok.ensures.ok;
  read = c.in-Ok-look_up_text.ensures.ok.0;
  says = c.in-Ok-look_up_text.ensures.ok.1;
  laid_out = c.in-Ok-lay_out.ensures;
}
