use Rattle.cs_rows.proofs.PutLemmas as law
use Rattle.cs_rows.proofs.laws.room_is_empty.Goals as goal

pub returns : goal.returns
returns c = law.room_is_empty
