use Rattle.cs_rows.specs.Survivors.{contents_of}
use Rattle.cs_diagnosis.proofs.JoinEntries.{AgreeBelow}
use Rattle.cs_diagnosis.proofs.joins.others_of.Given as goal

-- the entries so far agree with the places of their rows if the other sites are lost
abbrev pub invariant-loop-i : goal.invariant-loop-i
invariant-loop-i l = AgreeBelow l.fn.store.catalog.now l.fn.store.loss (contents_of l.fn.store.survivors.now) l.fn.store.walked.rows l.fn.p l.fn.s l.fn.q l.fn.join l.i l.others
