-- The status that a program ends with.
use Rattle.std.specs.Prelude.{ℕ}
use Rattle.cs_catalog.specs.declared.fault.CatalogFault.TheVariants as catalog
use Rattle.cs_store.specs.declared.fault.Fault.TheVariants as fault
use Rattle.cs_commands.specs.declared.stop.Stop.{Stop}
use Rattle.cs_commands.specs.declared.stop.Stop.TheVariants as stop

-- 1 where the store was refused, 2 for wrong words, 3 for want of memory, 4 where the device failed
abbrev pub status_of : Stop → ℕ
status_of stop.Usage = 2
status_of stop.Memory = 3
status_of (stop.Store fault.Memory) = 3
status_of (stop.Store (fault.Read name)) = 4
status_of (stop.Store (fault.Write at)) = 4
status_of (stop.Store _) = 1
status_of (stop.Catalog catalog.Memory) = 3
status_of (stop.Catalog _) = 1
status_of stop.ReadCatalog = 4
status_of stop.MakeOutput = 4
