-- Two proofs that a catalog keeps its rules are equal, and so are two proofs that rows are a table.
use Rattle.std.specs.Prelude.{List}
use Rattle.std.proofs.Props.{props}
use Rattle.cs_schema.specs.declared.kinds.Kind.{Kind}
use Rattle.cs_schema.specs.declared.cells.Value.{Value}
use Rattle.cs_schema.specs.CatalogData.{CatalogData}
use Rattle.cs_schema.specs.CatalogRules.{IsCatalog}
use Rattle.cs_schema.specs.Rows.{Row, IsTable}
use Rattle.cs_schema.specs.Values.{IsOfKind}

IsOfKind-prop : (k : Kind) (v : Value) → IsProp (IsOfKind k v)
IsOfKind-prop Kind.Int (Value.Int z) = hlevel props
IsOfKind-prop Kind.Int (Value.Text b) = hlevel props
IsOfKind-prop Kind.Text (Value.Int z) = hlevel props
IsOfKind-prop Kind.Text (Value.Text b) = hlevel props

pub IsCatalog-prop : (C : CatalogData) → IsProp (IsCatalog C)
IsCatalog-prop C = hlevel (props, IsOfKind-prop)

pub IsTable-prop : (C : CatalogData) (T : List Row) → IsProp (IsTable C T)
IsTable-prop C T = hlevel (props, IsOfKind-prop)
