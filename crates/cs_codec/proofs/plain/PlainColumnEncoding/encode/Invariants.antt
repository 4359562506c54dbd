use Rattle.std.proofs.Common.{◌≡◌, ◌-◌, take, drop}
use Rattle.cs_codec.specs.Texts.{plain_text}
use Rattle.cs_codec.proofs.plain.PlainColumnEncoding.encode.Given as goal

abbrev pub invariant-loop-at : goal.invariant-loop-at
invariant-loop-at g l = l.bytes.items ≡ plain_text g.C.Cell.bytes (take (l.at - l.from) (drop l.from (g.L.Column.cells l.column)))
