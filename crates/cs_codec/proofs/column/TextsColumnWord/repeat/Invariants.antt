use Rattle.std.proofs.Common.{◌≡◌, ◌++◌, replicate}
use Rattle.cs_codec.proofs.column.TextsColumnWord.repeat.Given as goal

abbrev pub invariant-loop : goal.invariant-loop
invariant-loop l = l.self ≡ l.initial.self ++ replicate l.counter l.cell
