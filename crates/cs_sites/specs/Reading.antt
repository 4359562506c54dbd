-- What bytes say of the folders of sites.
use Rattle.std.specs.Prelude.{◌≡◌, ◌<◌, ◌&&◌, ◌==◌, ℕ, ℤ, pos, negsuc, nat_le, codes, true, List, [], ◌∷◌, take, Option, None, Some, option_map, option_and_then, MatchOption, IsSomeAnd, IsUtf8, length, slice_get, ⊤, if◌then◌else◌}
use Rattle.std.specs.List.{list_any}
use Rattle.toml.specs.Data.{Data, Items, no_items, item, Members, get_member, as_str, as_integer, as_array, as_table}
use Rattle.toml.specs.Parse.{parse_document}
use Rattle.cs_schema.specs.Document.{read_all}
use Rattle.cs_sites.specs.declared.fault.SitesFault.{SitesFault}
use Rattle.cs_sites.specs.declared.fault.SitesFault.TheVariants.{Memory, TooLong, Toml, NoSites, Number, Folder, Twice}

-- a site and the path of its folder
pub record SiteText : Type 0 where
  pub number : ℕ
  pub folder : List ℕ

-- the items of an array as a list
abbrev pub item_list : Items → List Data
item_list no_items = []
item_list (item d ds) = d ∷ item_list ds

-- the value of each type at a key
abbrev pub text_at : List ℕ → Members → Option (List ℕ)
text_at key ms = option_and_then as_str (get_member key ms)

abbrev pub integer_at : List ℕ → Members → Option ℤ
integer_at key ms = option_and_then as_integer (get_member key ms)

abbrev pub array_at : List ℕ → Members → Option (List Data)
array_at key ms = option_map item_list (option_and_then as_array (get_member key ms))

-- the number of a site: 1 to 16
abbrev pub site_number : ℤ → Option ℕ
site_number (pos n) = if nat_le 1 n && nat_le n 16 then Some n else None
site_number (negsuc n) = None

-- the number and the folder of a table, if it has them
abbrev pub number_of : Data → Option ℕ
number_of d = option_and_then (λ ms. option_and_then site_number (integer_at (codes "number") ms)) (as_table d)

abbrev pub folder_of : Data → Option (List ℕ)
folder_of d = option_and_then (text_at (codes "folder")) (as_table d)

abbrev pub entry_of : Data → Option SiteText
entry_of d = option_and_then (λ number. option_map (λ folder. record { number = number; folder = folder }) (folder_of d)) (number_of d)

-- the sites that a tree names, if each of its tables has number and folder
abbrev pub entries_of : Members → Option (List SiteText)
entries_of tree = option_and_then (read_all entry_of) (array_at (codes "site") tree)

-- why a table is refused, memory aside
abbrev pub IsBadTable : ℕ → Data → SitesFault → Type 0
IsBadTable at d Memory = ⊤
IsBadTable at d (Number k) = (k ≡ at) × (number_of d ≡ None)
IsBadTable at d (Folder k) = (k ≡ at) × (folder_of d ≡ None)
IsBadTable at d _ = ⊥

-- the table at this place has the number of one before it
pub record IsTwice (tables : List Data) (n : ℕ) : Type 0 where
  pub at : ℕ
  pub before : List SiteText
  pub read : read_all entry_of (take at tables) ≡ Some before
  pub among : list_any (λ e. e.number == n) before ≡ true
  pub again : IsSomeAnd (slice_get tables at) (λ d. number_of d ≡ Some n)

-- why a list of tables is refused, memory aside
abbrev pub IsBadList : List Data → SitesFault → Type 0
IsBadList tables Memory = ⊤
IsBadList tables (Number at) = IsSomeAnd (slice_get tables at) (λ d. number_of d ≡ None)
IsBadList tables (Folder at) = IsSomeAnd (slice_get tables at) (λ d. folder_of d ≡ None)
IsBadList tables (Twice n) = IsTwice tables n
IsBadList tables _ = ⊥

-- why a tree is refused, memory aside
abbrev pub IsBadTree : Members → SitesFault → Type 0
IsBadTree tree fault = MatchOption (array_at (codes "site") tree) (fault ≡ NoSites) (λ tables. IsBadList tables fault)

-- the bytes are UTF-8, and TOML that says this tree
abbrev pub IsTree : List ℕ → Members → Type 0
IsTree bytes tree = IsUtf8 bytes × (parse_document bytes ≡ Some tree)

-- the bytes are UTF-8 and TOML, and name these sites
pub record IsSitesOf (bytes : List ℕ) (entries : List SiteText) : Type 0 where
  pub tree : Members
  pub says : IsTree bytes tree
  pub are : entries_of tree ≡ Some entries

-- why bytes are refused, memory aside
abbrev pub IsRefusalOf : List ℕ → SitesFault → Type 0
IsRefusalOf bytes Memory = ⊤
IsRefusalOf bytes TooLong = 65536 < length bytes
IsRefusalOf bytes Toml = IsUtf8 bytes → parse_document bytes ≡ None
IsRefusalOf bytes fault = (tree : Members) × IsTree bytes tree × IsBadTree tree fault
