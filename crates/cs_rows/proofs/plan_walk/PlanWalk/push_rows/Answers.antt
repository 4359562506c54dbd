use Rattle.std.proofs.Common.{◌++◌, ◌∷◌, [], List, ap, append_assoc, get_or, map, sym, take, ◌∙◌}
use Rattle.std.specs.Prelude.{slice_index}
use Rattle.std.proofs.lemmas.List.{take_more}
use Rattle.cs_schema.specs.declared.cells.Value.{Value}
use Rattle.cs_schema.specs.Values.{values}
use Rattle.cs_rows.specs.Survivors.{contents_of}
use Rattle.cs_rows.specs.Walk.{At, image_cell}
use Rattle.cs_rows.proofs.FollowLemmas.{index_is}
use Rattle.cs_rows.proofs.RangeLemmas.{map_append}
use Rattle.cs_rows.proofs.RowLemmas.{read_there, cell_there}
use Rattle.cs_rows.proofs.plan_walk.PlanWalk.push_rows.Goals as goal

pub push_cell-requires-clause-there : goal.push_cell-requires-clause-there
push_cell-requires-clause-there c =
    let w = c.args.self.now in
    (read_there w.survivors.now.catalog w.plan.now w.fits c.args.c c.requires.column c.source-q.result c.index-j.result.now c.in-Some.image.now.kinds c.source-q.ensures (index_is w c.args.c c.requires.column c.index-j.result.now c.index-j.ensures) c.in-Some.ensures.kinds).0

pub push_cell-requires-clause-kind : goal.push_cell-requires-clause-kind
push_cell-requires-clause-kind c =
    let w = c.args.self.now in
    let there = read_there w.survivors.now.catalog w.plan.now w.fits c.args.c c.requires.column c.source-q.result c.index-j.result.now c.in-Some.image.now.kinds c.source-q.ensures (index_is w c.args.c c.requires.column c.index-j.result.now c.index-j.ensures) c.in-Some.ensures.kinds in
    c.loop-id.invariant.kind ∙ c.requires.kind ∙ sym there.1

pub loop-id-preserved : goal.loop-id-preserved
loop-id-preserved c =
    let w = c.args.self.now in
    let C = w.survivors.now.catalog in
    let S = contents_of w.survivors.now in
    let f : At → Value = image_cell C S (slice_index w.plan.now.source c.args.c) c.args.c in
    let k = c.loop-id.id-index in
    let ids : List At = c.args.ids.now in
    let id : At = get_or ids k (0, 0) in
    let old : List Value = values c.args.cells.now in
    let read = cell_there C w.plan.now w.fits c.args.c c.requires.column w.survivors.now c.source-q.result c.index-j.result.now id c.in-Some.image.now c.source-q.ensures (index_is w c.args.c c.requires.column c.index-j.result.now c.index-j.ensures) c.in-Some.ensures.image (c.requires.rows k (0, 0) c.loop-id-test.true) in
    record {
      kind = c.in_ok-push_cell-in-Some.ensures.kind ∙ c.loop-id.invariant.kind;
      cells = c.in_ok-push_cell-in-Some.ensures.ok
          ∙ (λ i. c.loop-id.invariant.cells i ++ read.1 i ∷ [])
          ∙ append_assoc old (map f (take k ids)) (f id ∷ [])
          ∙ ap (λ (l : List Value). old ++ l) (sym (ap (map f) (take_more ids k (0, 0) c.loop-id-test.true) ∙ map_append f (take k ids) (id ∷ [])));
    }
