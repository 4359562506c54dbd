use Rattle.std.proofs.Common.{None, Some, ap, refl, ◌∙◌}
use Rattle.cs_store.specs.LoadReadable.{gave}
use Rattle.cs_manifest.specs.declared.digesting.Digested.TheVariants.{Found}
use Rattle.cs_manifest.specs.Digests.{digest}
use Rattle.cs_manifest.proofs.digesting.digest_file.Goals as goal

pub returns-in-Ok-Some : goal.returns-in-Ok-Some
returns-in-Ok-Some g c = record {
  outcome = gave (Some c.in-Ok-Some.bytes.items);
  attempt = (rw c.in-Ok-Some.field-0-is at c.in-Ok-Some.ensures.ok, refl);
  is = ap Found (c.digest_of.ensures ∙ ap digest c.as_slice.ensures.value);
}

pub returns-in-Ok-None : goal.returns-in-Ok-None
returns-in-Ok-None g c = record { outcome = gave None; attempt = (rw c.in-Ok-None.field-0-is at c.in-Ok-None.ensures.ok, refl); is = refl }
