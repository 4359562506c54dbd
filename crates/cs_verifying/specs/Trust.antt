-- Files that are trusted only where a manifest says no other digest of them.
use Rattle.std.specs.Prelude.{◌≡◌, ◌⊎◌, ℕ, Bool, true, false, not, List, Option, None, Some, MatchOption}
use Rattle.std.specs.Option.{option_map_or}
use Rattle.std.specs.Str.{bytes_eq}
use Rattle.cs_schema.specs.FileNames.{file_path}
use Rattle.cs_schema.specs.declared.file_name.FileName.{FileName}
use Rattle.cs_store.specs.declared.fault.StoreFault.{StoreFault}
use Rattle.cs_store.specs.declared.fault.StoreFault.TheVariants.{Device}
use Rattle.cs_manifest.specs.Digests.{digest}
use Rattle.cs_manifest.specs.Reading.{digest_in}
use Rattle.cs_manifest.specs.declared.manifest.Manifest.{Manifest}
use Rattle.cs_verifying.specs.Promises.{ReadsManifest}

-- the manifest says another digest than that of these bytes
abbrev pub is_changed : Manifest → List ℕ → List ℕ → Bool
is_changed m path bytes = option_map_or (λ wanted. not (bytes_eq wanted (digest bytes))) (digest_in m path) false

module _ {S : Type 0} (m : Manifest) (gives : S → FileName → Option (List ℕ) → S → Type 0) where
  -- a read gave this, and of a file the manifest says no other digest
  abbrev pub gives_trusted : S → FileName → Option (List ℕ) → S → Type 0
  gives_trusted s n file t = gives s n file t × ((bytes : List ℕ) → file ≡ Some bytes → is_changed m (file_path n) bytes ≡ false)

  -- a read was refused, or gave a file of which the manifest says another digest: that counts as a fault of the device
  abbrev pub refuses_trusted : (S → FileName → StoreFault → S → Type 0) → S → FileName → StoreFault → S → Type 0
  refuses_trusted refuses s n fault t = refuses s n fault t ⊎ ((fault ≡ Device) × ((bytes : List ℕ) × gives s n (Some bytes) t × (is_changed m (file_path n) bytes ≡ true)))

-- the manifest at this path was read; where there is no path, nothing was asked for, and the manifest says nothing
abbrev pub MayReadManifest : {P I : Type 0} → (P → List ℕ → I → P → Type 0) → (I → Option (List ℕ)) → P → Option (List ℕ) → Manifest → P → Type 0
MayReadManifest opens_table remaining s path m t = MatchOption path ((t ≡ s) × ((p : List ℕ) → digest_in m p ≡ None)) (λ p. ReadsManifest opens_table remaining s p m t)
