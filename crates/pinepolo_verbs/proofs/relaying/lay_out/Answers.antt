use Rattle.pinepolo_verbs.proofs.relaying.lay_out.Goals as goal

pub returns-in-Ok-relayout : goal.returns-in-Ok-relayout
returns-in-Ok-relayout g c = record {
  files = c.in-Ok.files;
  loads = c.in-Ok.ensures;
  is = c.in-Ok-relayout.ensures;
}
