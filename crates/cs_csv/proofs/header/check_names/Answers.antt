use Rattle.std.proofs.Common.{◌≢◌, ◌<◌, ℕ, below_more, ◌∙◌}
use Rattle.csv.specs.Records.{fields_of}
use Rattle.cs_csv.specs.Fields.{field}
use Rattle.cs_csv.proofs.header.check_names.Goals as goal

pub loop-place-preserved : goal.loop-place-preserved
loop-place-preserved c =
    let inv = c.loop-place.invariant in
    let found = c.in-Some.ensures.found in
    let r = fields_of c.args.header.now in
    record {
      named = below_more _ _ inv.named (c.in-Some.column, found.0, found.1 ∙ c.field_at-name.ensures);
      once = λ i j l k. below_more (λ m. (n : ℕ) → n < m → field r n ≢ field r m) c.loop-place.place (λ m b n h. inv.once m n b h) (c.stands_before.ensures.no c.if-stands_before.false) i l j k;
    }
