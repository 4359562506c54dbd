-- Catalogs and stores that are found, by what the places say of one call.
use Rattle.std.specs.Prelude.{◌⊎◌, ℕ, List}
use Rattle.cs_schema.specs.CatalogData.{CatalogData}
use Rattle.cs_catalog.specs.Reading.{IsCatalogOf}
use Rattle.cs_store.specs.declared.fault.StoreFault.{StoreFault}

module _ {P : Type 0} (reads : P → List ℕ → List ℕ → P → Type 0) where
  -- the catalog at this path was read, and its bytes say this
  pub record FindsCatalog (s : P) (path : List ℕ) (C : CatalogData) (t : P) : Type 0 where
    pub bytes : List ℕ
    pub read : reads s path bytes t
    pub says : IsCatalogOf bytes C

  -- the catalog at this path was looked up, and nothing else was asked for
  abbrev pub LooksUp : (P → List ℕ → StoreFault → P → Type 0) → P → List ℕ → P → Type 0
  LooksUp misses s path t = ((bytes : List ℕ) × reads s path bytes t) ⊎ ((fault : StoreFault) × misses s path fault t)

  -- the catalog at this path was read, and the store there is of this catalog
  pub record FindsStore {S : Type 0} (opens : P → List ℕ → CatalogData → S → Type 0) (s : P) (path : List ℕ) (C : CatalogData) (store : S) (t : P) : Type 0 where
    pub catalog : FindsCatalog s path C t
    pub opened : opens t path C store

  -- the catalog at this path was read, whose bytes these are, and the store there is of this catalog
  pub record FindsStoreText {S : Type 0} (opens : P → List ℕ → CatalogData → S → Type 0) (s : P) (path : List ℕ) (C : CatalogData) (catalog : List ℕ) (store : S) (t : P) : Type 0 where
    pub read : reads s path catalog t
    pub says : IsCatalogOf catalog C
    pub opened : opens t path C store
