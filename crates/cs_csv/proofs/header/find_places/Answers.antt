use Rattle.std.proofs.Common.{arith}
use Rattle.std.specs.Prelude.{slice_index}
use Rattle.cs_csv.proofs.header.find_places.Goals as goal

pub returns-in_default-clause-err : goal.returns-in_default-clause-err
returns-in_default-clause-err c =
    let inv = c.loop-c.invariant in
    record {
      known = omega arith;
      names = c.requires;
      earlier = λ d l. (slice_index c.loop-c.places.items d, inv.within d l, inv.named d l);
      none = rw c.name_of.ensures at c.in_default.ensures.none;
    }
