use Rattle.pinepolo_verbs.proofs.dumping.read_text.Goals as goal

pub returns-in-Ok-text_of : goal.returns-in-Ok-text_of
returns-in-Ok-text_of g c = record {
  catalog = c.in-Ok.found.0;
  store = c.in-Ok.found.1;
  left = c.in-Ok.found.1;
  finds = c.in-Ok.ensures.ok;
  text_given = c.in-Ok-text_of.ensures;
  unfinished = c.in-Ok-unfinished.ensures;
}
