use Rattle.cs_csv.proofs.OutcomeLemmas.{if-ok-then}
use Rattle.pinepolo_verbs.proofs.dumping.dump.Goals as goal

pub returns : goal.returns
returns g c = if-ok-then c.write_text.result _ _ (λ dumped h. record {
  text = c.in-Ok-read_text.text.text.items;
  reached = c.read_text.new.places;
  reads_text = rw h.1 c.in-Ok-read_text.ensures;
  writes = h.0;
}) c.write_text.ensures
