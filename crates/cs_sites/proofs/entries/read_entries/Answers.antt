use Rattle.std.proofs.Common.{◌≡◌, ◌<◌, Some, map, length, ap, sym, refl, arith, ◌∙◌}
use Rattle.std.proofs.lemmas.List.{take-map}
use Rattle.toml.specs.View.{view}
use Rattle.cs_sites.specs.Reading.{entry_of}
use Rattle.cs_sites.proofs.EntryLemmas.{bad_list, table_at, distinct_none, distinct_more, entry-number}
use Rattle.cs_sites.proofs.ReadLemmas.{read_more}
use Rattle.cs_sites.proofs.entries.read_entries.Goals as goal

pub loop-at-init : goal.loop-at-init
loop-at-init c = rw c.new-found.ensures.items (record { read = refl; distinct = distinct_none })

pub returns-in-Err-clause-refused : goal.returns-in-Err-clause-refused
returns-in-Err-clause-refused c =
    let within : c.loop-at.at < length c.args.tables.now = omega arith in
    let stands = table_at c.args.tables.now c.loop-at.at c.index-tables-at.result within c.index-tables-at.is in
    bad_list (map view c.args.tables.now) c.loop-at.at (view c.index-tables-at.result) stands c.in-Err.fault c.in-Err.ensures.refused

pub returns-in-Some-clause-refused : goal.returns-in-Some-clause-refused
returns-in-Some-clause-refused c =
    let within : c.loop-at.at < length c.args.tables.now = omega arith in
    let stands = table_at c.args.tables.now c.loop-at.at c.index-tables-at.result within c.index-tables-at.is in
    let same : c.in-Some.number ≡ c.in-Ok.entry.number = c.in-Some.ensures.some.0 in
    record {
      at = c.loop-at.at;
      before = c.loop-at.found.items;
      read = rw take-map c.loop-at.invariant.read;
      among = rw c.deref.ensures.value at c.in-Some.ensures.some.1;
      again = rw stands (entry-number (view c.index-tables-at.result) c.in-Ok.entry c.in-Ok.ensures.read ∙ ap Some (sym same));
    }

pub loop-at-preserved : goal.loop-at-preserved
loop-at-preserved c =
    let within : c.loop-at.at < length c.args.tables.now = omega arith in
    rw c.in_ok-push.ensures.ok (record {
      read = read_more view entry_of c.args.tables.now c.loop-at.at c.index-tables-at.result c.loop-at.found.items c.in-Ok.entry within c.index-tables-at.is c.in-Ok.ensures.read c.loop-at.invariant.read;
      distinct = distinct_more c.loop-at.found.items c.in-Ok.entry c.loop-at.invariant.distinct (rw c.deref.ensures.value at c.in_default.ensures.none);
    })
