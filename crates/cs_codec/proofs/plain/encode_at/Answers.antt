use Rattle.std.proofs.Common.{ℕ, List, sym, ap, ◌∙◌}
use Rattle.std.proofs.lemmas.List.{take_all}
use Rattle.cs_codec.specs.Columns.{cells_at}
use Rattle.cs_codec.specs.Texts.{plain_text}
use Rattle.cs_codec.proofs.PlainLemmas.{plain-placed, length-cells_at}
use Rattle.cs_codec.proofs.plain.encode_at.Goals as goal

pub loop-place-preserved : goal.loop-place-preserved
loop-place-preserved g c =
    plain-placed g.C.Cell.bytes (g.L.Column.cells c.args.column.now) c.args.places.now c.loop-place.place-index c.loop-place.bytes.items c.write.new.out.items c.loop-place-test.true (c.requires.within c.loop-place.place-index c.loop-place-test.true) c.loop-place.invariant c.in_ok-write.ensures

pub returns : goal.returns
returns g c = record {
  bytes_are = c.loop-place.invariant ∙ ap (λ (ps : List ℕ). plain_text g.C.Cell.bytes (cells_at (g.L.Column.cells c.args.column.now) ps)) (take_all c.loop-place.place-index c.args.places.now c.loop-place-test.false);
  count_is = sym (length-cells_at (g.L.Column.cells c.args.column.now) c.args.places.now c.requires.within);
}
