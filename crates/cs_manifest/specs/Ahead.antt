-- Digests that were made before they are asked for.
use Rattle.std.specs.Prelude.{ℕ, List, All, IfOk, Option}
use Rattle.cs_schema.specs.declared.file_name.FileName.{FileName}
use Rattle.cs_store.specs.declared.fault.StoreFault.{StoreFault}
use Rattle.cs_manifest.specs.Digests.{DigestsFile}
use Rattle.cs_manifest.specs.declared.digesting_ahead.FileDigest.{FileDigest}

module _ {S : Type 0} (gives : S → FileName → Option (List ℕ) → S → Type 0) (refuses : S → FileName → StoreFault → S → Type 0) where
  -- the file was read, and came to this, unless memory ran out
  abbrev pub DigestsName : S → FileDigest → Type 0
  DigestsName s read = IfOk read.found (λ found. DigestsFile gives refuses s read.name found s)

  abbrev pub DigestsEach : S → List FileDigest → Type 0
  DigestsEach s reads = All (DigestsName s) reads
