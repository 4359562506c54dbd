use Rattle.std.proofs.Common.{inl, inr}
use Rattle.std.proofs.lemmas.Result.{IfOk-weaker, IfErr-weaker}
use Rattle.cs_store.proofs.MemoryLemmas.{loads_held, loads_unplanned, stops_planned}
use Rattle.cs_store.proofs.memory.load_from_memory.Goals as goal

pub returns-clause-held : goal.returns-clause-held
returns-clause-held c = IfOk-weaker c.load.result _ _ (λ files loads. loads_held _ c.args.source.now files _ loads) c.load.ensures.ok

pub returns-clause-unplanned : goal.returns-clause-unplanned
returns-clause-unplanned c = IfOk-weaker c.load.result _ _ (λ files loads. loads_unplanned _ c.args.source.now files _ loads) c.load.ensures.ok

pub returns-clause-planned : goal.returns-clause-planned
returns-clause-planned c = IfErr-weaker c.load.result _ _ (λ fault why. elim why [ inl memory ↦ inl memory | inr stops ↦ inr (stops_planned _ c.args.source.now fault _ stops) ]) c.load.ensures.err
