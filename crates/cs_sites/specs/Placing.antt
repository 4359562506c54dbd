-- The folders of a catalog's sites.
use Rattle.std.specs.Prelude.{◌≡◌, ◌==◌, ◌<◌, ◌≤◌, ℕ, true, List, Option, None, option_map, ⊤}
use Rattle.std.specs.List.{find, list_any}
use Rattle.cs_sites.specs.Reading.{SiteText}
use Rattle.cs_sites.specs.declared.fault.SitesFault.{SitesFault}
use Rattle.cs_sites.specs.declared.fault.SitesFault.TheVariants.{Memory, Unknown, Missing}

-- the folder of the first entry with this number
abbrev pub folder_at : List SiteText → ℕ → Option (List ℕ)
folder_at entries site = option_map (λ e. e.folder) (find (λ e. e.number == site) entries)

-- why a list is not one of the sites from 1 to this number, memory aside
abbrev pub IsMisplaced : List SiteText → ℕ → SitesFault → Type 0
IsMisplaced entries sites Memory = ⊤
IsMisplaced entries sites (Unknown n) = (sites < n) × (list_any (λ e. e.number == n) entries ≡ true)
IsMisplaced entries sites (Missing n) = (1 ≤ n) × (n ≤ sites) × (folder_at entries n ≡ None)
IsMisplaced entries sites _ = ⊥
