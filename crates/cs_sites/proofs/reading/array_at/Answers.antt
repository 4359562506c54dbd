use Rattle.std.proofs.Common.{◌≡◌, Some, None, ap, sym, map}
use Rattle.toml.specs.Data.{as_array}
use Rattle.toml.specs.View.{view, table_view, array_view}
use Rattle.toml.proofs.Views.{table_get}
use Rattle.cs_sites.specs.Reading.{array_at}
use Rattle.cs_sites.proofs.ReadLemmas.{item_list-view}
use Rattle.cs_sites.proofs.reading.array_at.Goals as goal

pub returns-in-Some-as_array : goal.returns-in-Some-as_array
returns-in-Some-as_array c =
    let found = table_get c.get.result c.args.key.now c.args.table.now.entries c.get.ensures.value in
    let here : Some (array_view c.in-Some-as_array.items.now) ≡ as_array (view c.in-Some.value.now) = c.in-Some-as_array.ensures in
    let read : array_at c.args.key.now (table_view c.args.table.now) ≡ Some (map view c.as_slice.result.now) = rw (← rw c.in-Some.is at found, ← here, c.as_slice.ensures.value) (ap Some (item_list-view _)) in
    sym read

pub returns-in-None-as_array : goal.returns-in-None-as_array
returns-in-None-as_array c =
    let found = table_get c.get.result c.args.key.now c.args.table.now.entries c.get.ensures.value in
    let here : None ≡ as_array (view c.in-Some.value.now) = c.in-None-as_array.ensures in
    rw (← rw c.in-Some.is at found, ← here)

pub returns-in-None : goal.returns-in-None
returns-in-None c =
    let found = table_get c.get.result c.args.key.now c.args.table.now.entries c.get.ensures.value in
    rw (← rw c.in-None.is at found)
