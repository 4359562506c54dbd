use Rattle.std.proofs.Common.{arith, ℕ, List, sym}
use Rattle.std.proofs.lemmas.Option.{get_or_from_slice_get}
use Rattle.cs_rebuild.specs.Building.{IsShortText}
use Rattle.cs_rebuild.proofs.AllMeet.{one_more_meets}
use Rattle.cs_rebuild.proofs.columns_of_rows.assert_text_bounds.Goals as goal

pub loop-at-preserved : goal.loop-at-preserved
loop-at-preserved c =
    let text : List ℕ = c.get-fits.result.now in
    let fits : IsShortText text = record { utf8 = c.get-fits.ensures.utf8; short = c.get-fits.ensures.fits } in
    one_more_meets IsShortText c.args.texts.now c.loop-at.at text (omega arith) (sym (get_or_from_slice_get c.args.texts.now c.loop-at.at text text c.get-fits.ensures.value)) fits c.loop-at.invariant
