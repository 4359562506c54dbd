use Rattle.std.proofs.Common.{◌≡◌, ◌≤◌, ◌*◌, ℕ, List, drop, get_or, length, map, refl, sym, ap, subst, take, ◌∙◌, Ok}
use Rattle.std.proofs.lemmas.List.{map-append}
use Rattle.std.proofs.lemmas.Option.{slice_get-get_or}
use Rattle.cs_board.specs.Pieces.{IsAnswered}
use Rattle.cs_schema.specs.Rows.{Row}
use Rattle.cs_rows.specs.PlanWalks.{anchor_rows, anchor_rows_between, followed_rows, walk_result, walked_rows}
use Rattle.cs_rows.specs.Survivors.{contents_of}
use Rattle.cs_rows.specs.Walk.{At, Stray, is_astray, projection_rows, walked_row}
use Rattle.cs_rows.specs.declared.follow.FollowedRows.{FollowedRows}
use Rattle.cs_rows.specs.declared.plan_walk.PlanWalk.{PlanWalk}
use Rattle.cs_rebuild.specs.Walking.{IsFollowedAt, WalkFaultAt}
use Rattle.cs_rebuild.proofs.Verdicts.{memory_or}
use Rattle.cs_rebuild.proofs.WalkPieces.{all_walked, first_astray, none_astray, piece_is}
use Rattle.cs_rebuild.proofs.planned.walk_planned.Goals as goal

module _ (w : PlanWalk) (cut count : ℕ) (parts : List FollowedRows) (cover : length (anchor_rows w) ≤ count * cut)
    (done : IsAnswered (WalkFaultAt w.survivors.now.catalog (contents_of w.survivors.now) w.plan.now cut) (IsFollowedAt w cut) count parts) where
  -- the rows of all parts are those of the whole walk
  all : walk_result w ≡ Ok (followed_rows w parts)
  all =
      let C = w.survivors.now.catalog in
      let S = contents_of w.survivors.now in
      let P = w.plan.now in
      let xs : List At = projection_rows C S P.anchor in
      let e : At → Stray = λ at. (P.anchor, at.0, at.1) in
      let f : List At → List Row = map (walked_row C S P) in
      all_walked (is_astray C S P) e f xs cut refl (map-append (walked_row C S P)) (λ (part : FollowedRows). f (anchor_rows_between w part.from part.to)) count cover done.sound parts done.len
      (λ i part at.
      let h = done.each i part at in
      (λ k. f (drop (h.from k) (take (h.to k) xs))) ∙ ap f (piece_is (is_astray C S P) e f xs cut i))

  whole : followed_rows w parts ≡ walked_rows w
  whole =
      let C = w.survivors.now.catalog in
      let S = contents_of w.survivors.now in
      let P = w.plan.now in
      (none_astray (is_astray C S P) (λ at. (P.anchor, at.0, at.1)) (map (walked_row C S P)) (projection_rows C S P.anchor) (followed_rows w parts) (sym all)).1

pub gather_table-requires-clause-parts : goal.gather_table-requires-clause-parts
gather_table-requires-clause-parts g c κs within =
    rw c.as_slice.ensures.value (λ k d l. (c.in-Ok.ensures.ok.each k (get_or c.in-Ok.parts.items k d) (slice_get-get_or c.in-Ok.parts.items k d l)).is)

pub gather_table-requires-clause-whole : goal.gather_table-requires-clause-whole
gather_table-requires-clause-whole g c κs within =
    let cover = subst (λ n. n ≤ c.count_pieces.result * c.args.run.now.cut) c.anchor_rows.ensures c.count_pieces.ensures.0 in
    ap (followed_rows c.args.walk.now) c.as_slice.ensures.value ∙ whole c.args.walk.now c.args.run.now.cut c.count_pieces.result c.in-Ok.parts.items cover c.in-Ok.ensures.ok

pub returns-in-Ok-gather_table-clause-rows : goal.returns-in-Ok-gather_table-clause-rows
returns-in-Ok-gather_table-clause-rows g c =
    let cover = subst (λ n. n ≤ c.count_pieces.result * c.args.run.now.cut) c.anchor_rows.ensures c.count_pieces.ensures.0 in
    let w = c.args.walk.now in
    let parts = c.in-Ok.parts.items in
    all w c.args.run.now.cut c.count_pieces.result parts cover c.in-Ok.ensures.ok
    ∙ ap (λ r. Ok r) (whole w c.args.run.now.cut c.count_pieces.result parts cover c.in-Ok.ensures.ok ∙ sym c.in-Ok-gather_table.ensures.rows)

pub returns-in-Err-clause-err : goal.returns-in-Err-clause-err
returns-in-Err-clause-err g c =
    let C = c.args.walk.now.survivors.now.catalog in
    let S = contents_of c.args.walk.now.survivors.now in
    let P = c.args.walk.now.plan.now in
    let e : At → Stray = λ at. (P.anchor, at.0, at.1) in
    let f : List At → List Row = map (walked_row C S P) in
    memory_or _ c.in-Err.ensures.err (first_astray (is_astray C S P) e f (projection_rows C S P.anchor) c.args.run.now.cut c.count_pieces.result c.in-Err.fault)
