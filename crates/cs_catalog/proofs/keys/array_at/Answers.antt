use Rattle.std.proofs.Common.{◌≡◌, Some, None, ap, rules}
use Rattle.toml.specs.Data.{as_array}
use Rattle.toml.specs.View.{view, array_view}
use Rattle.toml.proofs.Views.{table_get}
use Rattle.cs_catalog.proofs.Reading.{item_list-view}
use Rattle.cs_catalog.proofs.keys.array_at.Goals as goal

pub returns-in-Some-as_array-clause-read : goal.returns-in-Some-as_array-clause-read
returns-in-Some-as_array-clause-read c =
    let found = table_get c.get.result c.args.key.now c.args.table.now.entries c.get.ensures.value in
    let here : Some (array_view c.in-Some-as_array.items.now) ≡ as_array (view c.in-Some.value.now) = c.in-Some-as_array.ensures in
    rw (← rw c.in-Some.is at found, ← here, c.as_slice.ensures.value) (ap Some (item_list-view _))

pub returns-in-None-as_array-clause-unread : goal.returns-in-None-as_array-clause-unread
returns-in-None-as_array-clause-unread c =
    let found = table_get c.get.result c.args.key.now c.args.table.now.entries c.get.ensures.value in
    let here : None ≡ as_array (view c.in-Some.value.now) = c.in-None-as_array.ensures in
    (search rules, rw (← rw c.in-Some.is at found, ← here))

pub returns-in-None-clause-unread : goal.returns-in-None-clause-unread
returns-in-None-clause-unread c =
    let found = table_get c.get.result c.args.key.now c.args.table.now.entries c.get.ensures.value in
    (search rules, rw (← rw c.in-None.is at found))
