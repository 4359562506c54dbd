use Rattle.std.proofs.Common.{◌≡◌, rules, pos, get_or, false, ◌∙◌, arith, w64}
use Rattle.std.specs.Prelude.{FitsSigned}
use Rattle.std.proofs.lemmas.Int.{to_z-of_z}
use Rattle.std.proofs.lemmas.List.{get_or_default}
use Rattle.cs_rows.proofs.NearInts.{place_inside, noted_more}
use Rattle.cs_rows.proofs.near_ints.mark_near_ints.Goals as goal

pub loop-row-preserved : goal.loop-row-preserved
loop-row-preserved c =
    let ints = c.args.ints.now in
    let least = c.args.least in
    let row = c.loop-row.row in
    let seen = c.loop-row.seen.items in
    let x = get_or ints row (pos 0) in
    let fits : FitsSigned w64 x = search rules in
    let least-fits : FitsSigned w64 least = search rules in
    let least-is = to_z-of_z w64 least least-fits in
    let place = c.abs_diff-place.result in
    let at = rw (to_z-of_z w64 x fits, least-is) at c.abs_diff-place.ensures in
    let so = rw least-is at c.loop-row.invariant in
    let near = c.requires.near row (pos 0) c.loop-row-test.true in
    let inside = place_inside ints least c.args.count seen c.loop-row.marks row place c.loop-row-test.true near at so in
    let mark : c.index.result.now ≡ get_or seen place false = c.index.ensures ∙ get_or_default seen place c.index.result.now false (omega (arith, inside, so.seen_count)) in
    rw (least-is, mark) (noted_more ints least c.args.count seen c.loop-row.marks row place c.loop-row-test.true near at so)
