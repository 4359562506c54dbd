use Rattle.std.proofs.Common.{◌≡◌, take, map}
use Rattle.cs_schema.specs.Named.{byte_of}
use Rattle.cs_catalog.proofs.build.bytes_of.Given as goal

abbrev pub invariant-loop-number : goal.invariant-loop-number
invariant-loop-number l = l.bytes.items ≡ map byte_of (take l.number-index l.numbers)
