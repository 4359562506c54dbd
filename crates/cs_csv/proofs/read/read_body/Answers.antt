use Rattle.std.proofs.Common.{[], ◌∷◌, ◌++◌, ◌∙◌, arith}
use Rattle.csv.specs.Records.{fields_of}
use Rattle.cs_csv.proofs.read.read_body.Goals as goal

pub loop-n-preserved : goal.loop-n-preserved
loop-n-preserved g c =
    let inv = c.loop-n.invariant in
    let found = rw c.in-Ok-true.field-0-test at c.in-Ok-true.is in
    record {
      few = omega (arith, c.read_row.ensures.few found);
      count = c.read_row.ensures.count ∙ inv.count;
      so_far = λ known columns head h.
          let old = inv.so_far known columns head h in
          (old.0 ++ fields_of c.read_row.new.row ∷ [], c.read_row.ensures.more found known columns head old.0 old.1);
    }
