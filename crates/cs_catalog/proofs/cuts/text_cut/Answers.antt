use Rattle.std.proofs.Common.{refl}
use Rattle.toml.specs.View.{view}
use Rattle.cs_catalog.proofs.CutLemmas.{read_text}
use Rattle.cs_catalog.proofs.cuts.text_cut.Goals as goal

pub returns-in-Ok : goal.returns-in-Ok
returns-in-Ok c = rw c.in-Ok.ensures.kept (read_text (view c.args.value.now) c.in-Some.text.now c.in-Some.ensures (c.in-Ok.ensures.fits.0 refl) c.new.ensures.utf8)
