use Rattle.std.proofs.Common.{◌≡◌, ◌++◌, map, length}
use Rattle.cs_segment.specs.Bodies.{bodies_text, AreShort}
use Rattle.cs_segment.proofs.bodies.find_bodies.Given as goal

abbrev pub invariant-loop-j : goal.invariant-loop-j
invariant-loop-j l = record {
  text : l.bytes ≡ bodies_text l.catalog l.p 0 (map (λ body. body.now) l.bodies.items) ++ l.rest;
  count : length l.bodies.items ≡ l.j;
  short : AreShort (map (λ body. body.now) l.bodies.items);
}
