use Rattle.cs_csv.proofs.OutcomeLemmas.{if-ok-then}
use Rattle.pinepolo_verbs.proofs.making.make_store.Goals as goal

pub returns-in-Ok : goal.returns-in-Ok
returns-in-Ok g c = if-ok-then c.finish.result _ _ (λ store h. record { written = rw c.as_slice.ensures.value at c.in-Ok.ensures; is = h }) c.finish.ensures
