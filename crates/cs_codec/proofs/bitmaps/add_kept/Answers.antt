use Rattle.std.proofs.lemmas.Result.{on_ok_weaker}
use Rattle.cs_codec.proofs.bitmaps.add_kept.Goals as goal

pub returns-in-Bitmaps : goal.returns-in-Bitmaps
returns-in-Bitmaps g c = on_ok_weaker c.add_bitmaps.result (λ f. λ cells h. f cells (rw c.in-Bitmaps.is at h)) c.add_bitmaps.ensures
