use Rattle.std.proofs.Common.{◌≡◌, ◌<◌, length, map}
use Rattle.cs_digests.proofs.digests.advance_all.Given as goal

abbrev pub invariant-loop : goal.invariant-loop
invariant-loop l = record {
  texts : map (λ c. c.text.now) l.chains ≡ map (λ c. c.text.now) l.fn.chains;
  first : l.four.0 < length l.chains;
  second : l.four.1 < length l.chains;
  third : l.four.2 < length l.chains;
  fourth : l.four.3 < length l.chains;
}
