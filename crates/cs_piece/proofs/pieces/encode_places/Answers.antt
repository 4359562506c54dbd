use Rattle.std.proofs.Common.{◌∙◌, sym, ap, arith}
use Rattle.cs_codec.specs.Columns.{cells_at}
use Rattle.cs_codec.proofs.PlainLemmas.{length-cells_at}
use Rattle.cs_schema.specs.declared.cells.Value.{Value}
use Rattle.cs_schema.specs.Values.{values, kind_of}
use Rattle.cs_schema.proofs.Blocks.{texts_at_mapped}
use Rattle.cs_piece.proofs.pieces.encode_places.Goals as goal

pub encode_at-requires-clause-few : goal.encode_at-requires-clause-few
encode_at-requires-clause-few c = omega (arith, c.requires.fits.count, length-cells_at (values c.args.column.now) c.args.places.now c.requires.within)

pub encode_at-requires-in-Plain-Texts-clause-few : goal.encode_at-requires-in-Plain-Texts-clause-few
encode_at-requires-in-Plain-Texts-clause-few c = omega (arith, c.requires.fits.count, length-cells_at (values c.args.column.now) c.args.places.now c.requires.within)

pub returns-in_ok-encode_at-in-Plain-Ints : goal.returns-in_ok-encode_at-in-Plain-Ints
returns-in_ok-encode_at-in-Plain-Ints c = record {
  code_is = sym c.in-Plain-Ints.is-0;
  kind_is = sym (ap kind_of c.in-Plain-Ints.is-1);
  holds = record { cells = cells_at c.in-Plain-Ints.ints.items c.args.places.now; values_are = ap (λ (cells : _). cells_at (values cells) c.args.places.now) c.in-Plain-Ints.is-1 ∙ sym (texts_at_mapped Value.Int c.in-Plain-Ints.ints.items c.args.places.now); part_is = c.in_ok-encode_at-in-Plain-Ints.ensures };
}

pub returns-in_ok-encode_at-in-Plain-Texts : goal.returns-in_ok-encode_at-in-Plain-Texts
returns-in_ok-encode_at-in-Plain-Texts c = record {
  code_is = sym c.in-Plain-Texts.is-0;
  kind_is = sym (ap kind_of c.in-Plain-Texts.is-1);
  holds = record { cells = cells_at c.in-Plain-Texts.texts c.args.places.now; values_are = ap (λ (cells : _). cells_at (values cells) c.args.places.now) c.in-Plain-Texts.is-1 ∙ sym (texts_at_mapped Value.Text c.in-Plain-Texts.texts c.args.places.now); part_is = c.in_ok-encode_at-in-Plain-Texts.ensures };
}
