use Rattle.std.proofs.Common.{◌∙◌}
use Rattle.std.proofs.lemmas.List.{take_min}
use Rattle.cs_csv.proofs.excerpt.Excerpt.new.Goals as goal

pub returns : goal.returns
returns c = c.in-Ok.ensures.ok ∙ rw (c.new-bytes.ensures, c.min-count.ensures) (take_min 40 c.args.text.now)
