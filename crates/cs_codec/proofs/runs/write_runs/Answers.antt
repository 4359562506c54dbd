use Rattle.std.proofs.Common.{◌+◌, ap, sym, ◌∙◌, arith}
use Rattle.std.proofs.lemmas.List.{take_all}
use Rattle.cs_codec.specs.Runs.{written_from, zip_runs}
use Rattle.cs_codec.specs.RunLaws.{text-expand}
use Rattle.cs_codec.proofs.RunLemmas.{expand-taken_within}
use Rattle.cs_codec.proofs.RunColumns.{length-zip, taken_longer, written_next}
use Rattle.cs_codec.proofs.runs.write_runs.Goals as goal

pub overflow_add-position : goal.overflow_add-position
overflow_add-position g c =
    let vs = g.L.Column.cells c.args.values.now in
    omega (arith, taken_longer g.C.PartialEq.eq vs c.args.counts.now c.loop-at.at c.requires.runs c.loop-at-test.true, expand-taken_within (zip_runs vs c.args.counts.now) (c.loop-at.at + 1), c.requires.short, c.loop-at.invariant.position_is)

pub loop-at-preserved : goal.loop-at-preserved
loop-at-preserved g c =
    let vs = g.L.Column.cells c.args.values.now in
    record {
      written = written_next g.C.Cell.bytes g.C.PartialEq.eq vs c.args.counts.now c.loop-at.at c.loop-at.position c.loop-at.out.items c.write.new.out.items c.write_number.new.out.items c.write_number-in-loop-at.new.out.items c.requires.runs c.loop-at-test.true c.loop-at.invariant.position_is c.loop-at.invariant.written c.in_ok-write.ensures c.in_ok-write_number.ensures.ok c.in_ok-write_number-2.ensures.ok;
      position_is = omega (arith, taken_longer g.C.PartialEq.eq vs c.args.counts.now c.loop-at.at c.requires.runs c.loop-at-test.true, c.loop-at.invariant.position_is);
    }

pub returns : goal.returns
returns g c =
    let rs = zip_runs (g.L.Column.cells c.args.values.now) c.args.counts.now in
    c.loop-at.invariant.written
    ∙ ap (λ z. written_from g.C.Cell.bytes 1 z) (take_all c.loop-at.at rs (omega (arith, c.loop-at-test.false, length-zip (g.L.Column.cells c.args.values.now) c.args.counts.now c.requires.runs.aligned)))
    ∙ sym (text-expand g.C.Cell.bytes g.C.PartialEq.eq (record { itself = g.met.C.Eq.laws.refl; exact = g.met.C.Cell.exact }) rs c.requires.runs.proper)
