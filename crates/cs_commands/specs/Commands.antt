-- What the commands do, each by what the places, the store and the output say of one call.
use Rattle.std.specs.Prelude.{◌≡◌, ◌≤◌, ◌⊎◌, ℕ, List, [], Option, Ok}
use Rattle.std.specs.FinMap.{entries, len}
use Rattle.cs_schema.specs.CatalogData.{CatalogData}
use Rattle.cs_schema.specs.FileNames.{surviving}
use Rattle.cs_schema.specs.Losses.{Sites}
use Rattle.cs_catalog.specs.Reading.{IsCatalogOf}
use Rattle.cs_schema.specs.declared.file_name.FileName.{FileName}
use Rattle.cs_store.specs.FileSet.{Files, contents_of}
use Rattle.cs_store.specs.Load.{Loads}
use Rattle.cs_store.specs.Save.{Saves}
use Rattle.cs_store.specs.declared.fault.StoreFault.{StoreFault}
use Rattle.cs_recovery.specs.Claims.{IsRebuildAnswer, IsCheckAnswer}
use Rattle.cs_commands.specs.declared.program.Answer.{Answer}
use Rattle.cs_commands.specs.declared.program.Answer.TheVariants.{Sample, Checked, Recovered}

module _ {P S : Type 0} (finds : P → List ℕ → List ℕ → S → P → Type 0) where
  -- the store at this path was looked up, and nothing else was asked for
  abbrev pub LooksUp : (P → List ℕ → StoreFault → P → Type 0) → P → List ℕ → P → Type 0
  LooksUp misses s path t = ((bytes : List ℕ) × (store : S) × finds s path bytes store t) ⊎ ((fault : StoreFault) × misses s path fault t)

  module _ (gives : S → FileName → Option (List ℕ) → S → Type 0) where
    -- the store at this path was found, its catalog is what the bytes say, and the files that survive the loss were loaded
    pub record LoadsStore (s : P) (path : List ℕ) (L : Sites) (C : CatalogData) (files : Files) (t : P) : Type 0 where
      pub bytes : List ℕ
      pub store : S
      pub left : S
      pub found : finds s path bytes store t
      pub read : IsCatalogOf bytes C
      pub loaded : Loads gives (surviving C L) store files left

    -- the store at this path was loaded, and its check answered so many rows
    pub record ChecksStore (s : P) (path : List ℕ) (k rows : ℕ) (t : P) : Type 0 where
      pub catalog : CatalogData
      pub files : Files
      pub loads : LoadsStore s path [] catalog files t
      pub answer : IsCheckAnswer catalog (contents_of files) k (Ok rows)

    -- the store at this path was loaded without the lost sites, and its rebuild answered these files
    pub record RebuildsStore (s : P) (path : List ℕ) (L : Sites) (rebuilt : Files) (t : P) : Type 0 where
      pub catalog : CatalogData
      pub files : Files
      pub loads : LoadsStore s path L catalog files t
      pub answer : IsRebuildAnswer catalog (contents_of files) L (Ok rebuilt)

    module _ {K : Type 0} (makes : P → List ℕ → K → P → Type 0) where
      -- A recovery stopped: nothing was asked for but the store, or it was rebuilt, and then alone the output was asked for.
      abbrev pub StopsRecovery : (misses denies : P → List ℕ → StoreFault → P → Type 0) → P → List ℕ → Sites → List ℕ → P → Type 0
      StopsRecovery misses denies s path L output_path t =
          LooksUp misses s path t ⊎ ((rebuilt : Files) × (reached : P) × RebuildsStore s path L rebuilt reached × (((output : K) × makes reached output_path output t) ⊎ ((fault : StoreFault) × denies reached output_path fault t)))

      -- A run stopped: nothing was asked of the places, or a store was looked up at one path, and an output was asked for at another only once that store was rebuilt.
      abbrev pub Stops : (misses denies : P → List ℕ → StoreFault → P → Type 0) → P → P → Type 0
      Stops misses denies s t = (t ≡ s) ⊎ ((path : List ℕ) × (L : Sites) × (output_path : List ℕ) × StopsRecovery misses denies s path L output_path t)

      module _ (takes : K → FileName → List ℕ → K → Type 0) (marks : K → ℕ → K → Type 0) where
        -- The store was rebuilt; then the output was made, and the rebuilt files, so many, were put there in order and marked.
        pub record RecoversStore (s : P) (path : List ℕ) (L : Sites) (output_path : List ℕ) (count : ℕ) (t : P) : Type 0 where
          pub rebuilt : Files
          pub reached : P
          pub output : K
          pub marked : K
          pub rebuilds : RebuildsStore s path L rebuilt reached
          pub made : makes reached output_path output t
          pub saved : Saves takes marks (entries rebuilt) output marked
          pub counted : count ≡ len rebuilt

        -- what so many words asked for, and was done for this answer: the sample without words alone
        abbrev pub Performs : ℕ → P → P → Answer → Type 0
        Performs words s t (Sample files) = (words ≡ 0) × (t ≡ s)
        Performs words s t (Checked rows k) = (1 ≤ words) × ((path : List ℕ) × ChecksStore s path k rows t)
        Performs words s t (Recovered count) = (1 ≤ words) × ((path : List ℕ) × (L : Sites) × (output_path : List ℕ) × RecoversStore s path L output_path count t)
