use Rattle.std.proofs.Common.{◌≡◌, ◌<◌, length, ap, arith, sym, subst, ◌∙◌}
use Rattle.cs_schema.specs.Values.{values}
use Rattle.cs_csv.specs.Faults.{cells_at}
use Rattle.cs_csv.proofs.RecordLemmas.{cells_at-is}
use Rattle.cs_tables.specs.Repeats.{IsFirstRepeat}
use Rattle.cs_tables.proofs.building.twice.Goals as goal

pub bounds-rows-catalog-inside : goal.bounds-rows-catalog-inside
bounds-rows-catalog-inside c =
    let key = c.projection_count-rules.ensures.rules.key in
    omega (arith, key, ap (λ C. C.key) c.catalog.view_is, c.requires.count)

pub returns-in-Ok-Some : goal.returns-in-Ok-Some
returns-in-Ok-Some c =
    let key = c.projection_count-rules.ensures.rules.key in
    let rows = c.args.rows.now in
    let here : c.args.catalog.now.key < length c.args.rows.now = omega (arith, key, c.requires.count) in
    let same : values c.index-rows-catalog.result ≡ cells_at rows c.args.catalog.now.key =
    ap values c.index-rows-catalog.is ∙ sym (cells_at-is rows c.catalog.inside.key c.index-rows-catalog.result (rw (ap (λ C. C.key) c.catalog.view_is) here)) ∙ ap (cells_at rows) (ap (λ C. C.key) c.catalog.view_is) in
    subst (λ keys. IsFirstRepeat keys c.in-Ok-Some.repeat.first c.in-Ok-Some.repeat.again c.in-Ok-Some.repeat.key) same (rw c.in-Ok-Some.field-0-is at c.in-Ok-Some.ensures.some)
