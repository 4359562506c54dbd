use Rattle.std.proofs.Common.{◌≡◌, subst, arith, Some}
use Rattle.std.specs.List.{slice_get}
use Rattle.cs_schema.proofs.Lists.{in_at}
use Rattle.cs_design.proofs.Items.{item_at}
use Rattle.cs_diagnosis.proofs.TableRows.{as_wide, keys_stand}
use Rattle.cs_diagnosis.proofs.comparing.key_order.Goals as goal

pub bounds-first-key : goal.bounds-first-key
bounds-first-key c =
    let wide = as_wide c.args.catalog.now c.args.first.now c.requires.first c.args.i c.requires.here in
    let low = c.key_column-key.ensures.exists in
    omega (arith, wide, low)

pub bounds-second-key : goal.bounds-second-key
bounds-second-key c =
    let wide = as_wide c.args.catalog.now c.args.second.now c.requires.second c.args.j c.requires.there in
    let low = c.key_column-key.ensures.exists in
    omega (arith, wide, low)

pub compare_cell-requires-clause-here : goal.compare_cell-requires-clause-here
compare_cell-requires-clause-here c =
    let wide = as_wide c.args.catalog.now c.args.first.now c.requires.first c.args.i c.requires.here in
    let low = c.key_column-key.ensures.exists in
    let at = item_at c.args.first.now c.key_column-key.result c.index-first-key.result (omega (arith, wide, low)) c.index-first-key.is in
    let long = c.requires.first.even.lengths c.index-first-key.result (in_at c.args.first.now c.key_column-key.result c.index-first-key.result at) in
    let here = c.requires.here in
    omega (arith, long, here)

pub compare_cell-requires-clause-there : goal.compare_cell-requires-clause-there
compare_cell-requires-clause-there c =
    let wide = as_wide c.args.catalog.now c.args.second.now c.requires.second c.args.j c.requires.there in
    let low = c.key_column-key.ensures.exists in
    let at = item_at c.args.second.now c.key_column-key.result c.index-second-key.result (omega (arith, wide, low)) c.index-second-key.is in
    let long = c.requires.second.even.lengths c.index-second-key.result (in_at c.args.second.now c.key_column-key.result c.index-second-key.result at) in
    let there = c.requires.there in
    omega (arith, long, there)

pub returns : goal.returns
returns c =
    let C = c.args.catalog.now in
    let a = c.args.first.now in
    let b = c.args.second.now in
    let low = c.key_column-key.ensures.exists in
    let first_wide = as_wide C a c.requires.first c.args.i c.requires.here in
    let second_wide = as_wide C b c.requires.second c.args.j c.requires.there in
    let here = item_at a c.key_column-key.result c.index-first-key.result (omega (arith, first_wide, low)) c.index-first-key.is in
    let there = item_at b c.key_column-key.result c.index-second-key.result (omega (arith, second_wide, low)) c.index-second-key.is in
    keys_stand C a b c.requires.first c.requires.second c.args.i c.args.j c.requires.here c.requires.there c.index-first-key.result c.index-second-key.result
    (subst (λ n. slice_get a n ≡ Some c.index-first-key.result) c.key_column-key.ensures.key here)
    (subst (λ n. slice_get b n ≡ Some c.index-second-key.result) c.key_column-key.ensures.key there)
    c.compare_cell.result c.compare_cell.ensures
