-- What bytes say of a catalog.
use Rattle.std.specs.Prelude.{◌≡◌, ◌||◌, ℕ, Bool, List, Option, Some, None, IsUtf8, ⊤, if◌then◌else◌}
use Rattle.cs_catalog.specs.declared.fault.CatalogFault.{CatalogFault}
use Rattle.cs_catalog.specs.declared.fault.CatalogFault.TheVariants.{Memory, Toml, Rule}
use Rattle.cs_catalog.specs.declared.fault.Refusal.{Refusal}
use Rattle.toml.specs.Data.{Members}
use Rattle.toml.specs.Parse.{parse_document}
use Rattle.cs_schema.specs.Document.{Document}
use Rattle.cs_catalog.specs.Tree.{document_of, is_version}
use Rattle.cs_schema.specs.Rules.{least_broken, document_rules}
use Rattle.cs_schema.specs.CatalogData.{CatalogData}
use Rattle.cs_schema.specs.Named.{catalog_of}

-- rule 1
abbrev pub has_version : Members → Bool
has_version tree = is_version 1 tree || is_version 2 tree

-- rule 2, and the rules after it
abbrev pub least_broken_of : Option Document → Option ℕ
least_broken_of None = Some 2
least_broken_of (Some d) = least_broken 3 document_rules d

-- the least rule that the tree breaks: each is asked only where all before it hold
abbrev pub least_broken_rule : Members → Option ℕ
least_broken_rule tree = if has_version tree then least_broken_of (document_of tree) else Some 1

-- the bytes are UTF-8, and TOML that says this tree
abbrev pub IsTree : List ℕ → Members → Type 0
IsTree bytes tree = IsUtf8 bytes × (parse_document bytes ≡ Some tree)

-- the tree keeps every rule, and the catalog is what it says
pub record IsCatalogOfTree (tree : Members) (c : CatalogData) : Type 0 where
  pub document : Document
  pub reads : document_of tree ≡ Some document
  pub rules : least_broken_rule tree ≡ None
  pub is : c ≡ catalog_of document

-- why a tree is refused, memory aside
abbrev pub IsRefusalOfTree : Members → Refusal → Type 0
IsRefusalOfTree tree Refusal.Memory = ⊤
IsRefusalOfTree tree (Refusal.Rule n problem) = least_broken_rule tree ≡ Some n

-- the bytes are UTF-8 and TOML, every rule holds, and the catalog is what the tree says
pub record IsCatalogOf (bytes : List ℕ) (c : CatalogData) : Type 0 where
  pub tree : Members
  pub says : IsTree bytes tree
  pub is : IsCatalogOfTree tree c

-- the bytes say a tree, and n is the least rule that it breaks
pub record BreaksRule (bytes : List ℕ) (n : ℕ) : Type 0 where
  pub tree : Members
  pub says : IsTree bytes tree
  pub least : least_broken_rule tree ≡ Some n

-- why bytes are refused, memory aside: they are no TOML in UTF-8, or they break a rule
abbrev pub IsRefusalOf : List ℕ → CatalogFault → Type 0
IsRefusalOf bytes Memory = ⊤
IsRefusalOf bytes Toml = IsUtf8 bytes → parse_document bytes ≡ None
IsRefusalOf bytes (Rule n) = BreaksRule bytes n
