use Rattle.std.proofs.Common.{◌≡◌, take, map}
use Rattle.cs_schema.specs.Named.{code_of}
use Rattle.cs_catalog.proofs.build.codes_of.Given as goal

abbrev pub invariant-loop-number : goal.invariant-loop-number
invariant-loop-number l = l.codes.items ≡ map code_of (take l.number-index l.numbers)
