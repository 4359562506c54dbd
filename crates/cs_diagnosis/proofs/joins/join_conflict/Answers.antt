use Rattle.cs_diagnosis.proofs.joins.join_conflict.Goals as goal

pub join-requires-clause-projection : goal.join-requires-clause-projection
join-requires-clause-projection c =
    let target = ((c.projection_count-rules.ensures.rules.projections c.args.p c.requires.0.0.0).joins c.args.q c.requires.0.1).0 in
    (c.args.store.now.join_room c.args.p c.args.s c.args.q c.requires.0.0 target).0

pub join-requires-clause-segment : goal.join-requires-clause-segment
join-requires-clause-segment c =
    let target = ((c.projection_count-rules.ensures.rules.projections c.args.p c.requires.0.0.0).joins c.args.q c.requires.0.1).0 in
    (c.args.store.now.join_room c.args.p c.args.s c.args.q c.requires.0.0 target).1
