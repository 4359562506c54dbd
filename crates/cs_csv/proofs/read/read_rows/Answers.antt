use Rattle.cs_csv.proofs.CatalogNames.{names_differ}
use Rattle.cs_csv.proofs.OutcomeLemmas.{if-ok-then}
use Rattle.cs_csv.proofs.HeldLemmas.{held-even}
use Rattle.cs_csv.proofs.read.read_rows.Goals as goal

pub read_columns-requires-clause-differ : goal.read_columns-requires-clause-differ
read_columns-requires-clause-differ g c = rw c.as_slice.ensures.value (names_differ _ c.catalog.invariant)

pub returns-clause-even : goal.returns-clause-even
returns-clause-even g c = if-ok-then c.read_columns.result _ _ (λ cells h. held-even _ h.0 h.1 cells.items h.2) c.read_columns.ensures.ok
