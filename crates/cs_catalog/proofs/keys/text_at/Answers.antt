use Rattle.std.proofs.Common.{◌≡◌, Some, sym, arith, to_z-of_z, rules}
use Rattle.toml.specs.Data.{as_str}
use Rattle.toml.specs.View.{view}
use Rattle.toml.proofs.Views.{table_get}
use Rattle.cs_catalog.proofs.keys.text_at.Goals as goal

pub returns-in-Some-as_str-clause-read : goal.returns-in-Some-as_str-clause-read
returns-in-Some-as_str-clause-read c =
    let found = table_get c.get.result c.args.key.now c.args.table.now.entries c.get.ensures.value in
    let here : Some c.in-Some-as_str.text.now ≡ as_str (view c.in-Some.value.now) = c.in-Some-as_str.ensures in
    rw (← rw c.in-Some.is at found) (grind (arith, to_z-of_z))

pub returns-in-None-as_str-clause-unread : goal.returns-in-None-as_str-clause-unread
returns-in-None-as_str-clause-unread c =
    let found = table_get c.get.result c.args.key.now c.args.table.now.entries c.get.ensures.value in
    (search rules, rw (← rw c.in-Some.is at found) (sym c.in-None-as_str.ensures))

pub returns-in-None-clause-unread : goal.returns-in-None-clause-unread
returns-in-None-clause-unread c =
    let found = table_get c.get.result c.args.key.now c.args.table.now.entries c.get.ensures.value in
    (search rules, rw (← rw c.in-None.is at found))
