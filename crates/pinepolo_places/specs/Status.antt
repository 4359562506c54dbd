-- The status that a program ends with.
use Rattle.std.specs.Prelude.{ℕ}
use Rattle.cs_store.specs.declared.fault.Fault.{Fault}
use Rattle.cs_store.specs.declared.fault.Fault.TheVariants as fault
use Rattle.pinepolo_places.specs.declared.error.VerbError.{VerbError}
use Rattle.pinepolo_places.specs.declared.error.VerbError.TheVariants as error
use Rattle.pinepolo_places.specs.declared.sites_error.SitesError.{SitesError}
use Rattle.pinepolo_places.specs.declared.sites_error.SitesError.TheVariants as sites

-- the status that tells a fault of a store: 3 if memory ran out, 4 if a file could not be read or written, else 1
abbrev pub fault_status : Fault → ℕ
fault_status fault.Memory = 3
fault_status (fault.Read _) = 4
fault_status (fault.Write _) = 4
fault_status _ = 1

-- 2 if a SITES file is refused, 1 if what stands in the folders that it names is
abbrev pub sites_status : SitesError → ℕ
sites_status (sites.Refused file why) = 2
sites_status (sites.OneFolder file numbers folder) = 2
sites_status (sites.StoreFolder file site folder) = 2
sites_status (sites.NoSite site) = 2
sites_status (sites.NotRewritable file) = 2
sites_status _ = 1

-- 1 if a catalog or a store was refused, 2 for a usage error, 3 if memory ran out, 4 if a device failed
abbrev pub status_of : VerbError → ℕ
status_of error.NotUtf8 = 2
status_of error.OutOfMemory = 3
status_of (error.Catalog fault subject) = 1
status_of (error.Device failure subject) = 4
status_of (error.Refused refusal subject) = 1
status_of (error.Sites e) = sites_status e
status_of (error.Store e) = fault_status e.fault
