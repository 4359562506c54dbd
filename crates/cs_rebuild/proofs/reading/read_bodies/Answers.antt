use Rattle.std.proofs.Common.{◌≤◌, length, subst, sym, ◌∙◌}
use Rattle.rayon.proofs.ListFacts.{IfOk-then}
use Rattle.cs_store.specs.FileSet.{contents_of}
use Rattle.cs_rebuild.specs.Reading.{resealed}
use Rattle.cs_schema.specs.Lists.{IsIn}
use Rattle.cs_recovery.proofs.Exact.{survivors_survive}
use Rattle.cs_rebuild.proofs.Segments.{least_bad}
use Rattle.cs_rebuild.proofs.Verdicts.{memory_or, on_error}
use Rattle.cs_rebuild.proofs.reading.read_bodies.Goals as goal

pub read_segments-requires-clause-few : goal.read_segments-requires-clause-few
read_segments-requires-clause-few g c κs within = subst (λ l. length l ≤ 128) (sym c.as_slice.ensures.value) c.in-Ok.ensures.few

pub read_segments-requires-clause-exist : goal.read_segments-requires-clause-exist
read_segments-requires-clause-exist g c κs within a i = (survivors_survive c.args.catalog.now c.args.loss a (subst (IsIn a) (c.as_slice.ensures.value ∙ c.in-Ok.ensures.all) i)).0

pub returns-in-Ok-clause-ok : goal.returns-in-Ok-clause-ok
returns-in-Ok-clause-ok g c =
    IfOk-then c.read_segments.result _ _ c.read_segments.ensures.ok (λ kept h. h c.args.loss (λ a i. subst (IsIn a) (sym (c.as_slice.ensures.value ∙ c.in-Ok.ensures.all)) i))

pub returns-in-Ok-clause-bad : goal.returns-in-Ok-clause-bad
returns-in-Ok-clause-bad g c =
    on_error c.read_segments.result _ _ c.read_segments.ensures.err (λ fault h.
    memory_or fault h (least_bad c.args.catalog.now (resealed (contents_of c.args.files.now)) c.args.loss c.as_slice.result.now (c.as_slice.ensures.value ∙ c.in-Ok.ensures.all) (length c.as_slice.result.now) fault))
