use Rattle.cs_recovery.proofs.WalkedTable.{walk_finds}
use Rattle.cs_recovery.proofs.Read.{layers}
use Rattle.cs_recovery.proofs.laws.walk_finds_the_table.Goals as goal

pub returns : goal.returns
returns c = λ C cat F L T safe h S w r k. walk_finds C cat (layers C cat) F L T safe h S w r k
