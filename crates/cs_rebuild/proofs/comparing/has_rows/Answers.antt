use Rattle.std.proofs.Common.{ℕ, ◌<◌, length, refl, subst, sym, ◌∙◌, arith}
use Rattle.cs_schema.specs.CatalogData.{projection}
use Rattle.cs_schema.proofs.Ascending.{false≢true}
use Rattle.cs_rebuild.specs.Comparing.{AreComparable, IsCellThere, IsColumnThere}
use Rattle.cs_rebuild.proofs.Compared.{comparable, rows_there, cells_there}
use Rattle.cs_rebuild.proofs.comparing.has_rows.Goals as goal

pub has_column-requires-clause-comparable : goal.has_column-requires-clause-comparable
has_column-requires-clause-comparable g c =
    subst (λ cs. AreComparable c.args.image.now c.args.walked.now cs c.args.numbers.now) (sym c.columns_of-columns.ensures.columns)
    (comparable c.args.catalog.now c.args.p c.args.image.now c.args.walked.now c.args.numbers.now c.columns_of-columns.ensures.rules c.requires.exists c.requires.kinds c.requires.walked_kinds (sym c.rows.ensures ∙ c.if-rows.false) c.requires.below)

pub returns-then-not-has_column : goal.returns-then-not-has_column
returns-then-not-has_column g c =
    let image = c.args.image.now in
    let walked = c.args.walked.now in
    let ns = c.args.numbers.now in
    let cols = (projection c.args.catalog.now c.args.p).columns in
    let rules = comparable c.args.catalog.now c.args.p image walked ns c.columns_of-columns.ensures.rules c.requires.exists c.requires.kinds c.requires.walked_kinds (sym c.rows.ensures ∙ c.if-rows.false) c.requires.below in (
      λ f. absurd (false≢true f),
      λ e. sym c.if-not-has_column.true ∙ c.has_column.ensures.1 (subst (λ cs. IsColumnThere image walked cs ns c.loop-j.j) (sym c.columns_of-columns.ensures.columns)
          (λ k m. cells_there image walked cols ns rules e c.loop-j.j k (omega (arith, c.loop-j-test.true, c.width-width.ensures.count)) m)),
    )

pub returns : goal.returns
returns g c =
    let image = c.args.image.now in
    let walked = c.args.walked.now in
    let ns = c.args.numbers.now in
    let cols = (projection c.args.catalog.now c.args.p).columns in
    let rules = comparable c.args.catalog.now c.args.p image walked ns c.columns_of-columns.ensures.rules c.requires.exists c.requires.kinds c.requires.walked_kinds (sym c.rows.ensures ∙ c.if-rows.false) c.requires.below in
    let whole = subst (λ cs. (i k : ℕ) → i < c.loop-j.j → k < length ns → IsCellThere image walked cs ns i k) c.columns_of-columns.ensures.columns c.loop-j.invariant in
    (λ t. rows_there image walked cols ns rules c.requires.widths (λ i k l m. whole i k (omega (arith, l, c.loop-j-test.false, c.width-width.ensures.count)) m), λ e. refl)
