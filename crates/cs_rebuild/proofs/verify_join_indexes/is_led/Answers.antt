use Rattle.std.proofs.Common.{[], sym, ap, subst}
use Rattle.std.specs.Option.{unwrap_or}
use Rattle.cs_schema.specs.Lists.{IsIn}
use Rattle.cs_rebuild.proofs.verify_join_indexes.is_led.Goals as goal

pub join-requires-clause-projection : goal.join-requires-clause-projection
join-requires-clause-projection g c =
    let target = ((c.projection_count-rules.ensures.rules.projections c.args.p c.requires.0.0.0).joins c.args.q c.requires.0.1).0 in
    (c.args.store.now.join_room c.args.p c.args.s c.args.q c.requires.0.0 target).0

pub join-requires-clause-segment : goal.join-requires-clause-segment
join-requires-clause-segment g c =
    let target = ((c.projection_count-rules.ensures.rules.projections c.args.p c.requires.0.0.0).joins c.args.q c.requires.0.1).0 in
    (c.args.store.now.join_room c.args.p c.args.s c.args.q c.requires.0.0 target).1

pub matches_expected-requires-clause-raw : goal.matches_expected-requires-clause-raw
matches_expected-requires-clause-raw g c e i none =
    let held = ap (λ o. unwrap_or o []) c.in-Some.ensures in
    c.args.store.now.entries c.args.p c.args.s c.args.q e c.requires (subst (IsIn e) (sym held) i) none
