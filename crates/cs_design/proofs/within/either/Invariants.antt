use Rattle.std.proofs.Common.{◌<◌}
use Rattle.cs_schema.specs.Losses.{IsSites}
use Rattle.cs_design.proofs.Unions.{IsUnionBelow}
use Rattle.cs_design.proofs.within.either.Given as goal

abbrev pub invariant-loop-site : goal.invariant-loop-site
invariant-loop-site l = record {
  first : 1 < l.site → IsSites l.first;
  second : 1 < l.site → IsSites l.second;
  union : IsUnionBelow l.first l.second l.both l.site;
}
