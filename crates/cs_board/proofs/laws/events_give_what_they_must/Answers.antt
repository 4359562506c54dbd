use Rattle.cs_board.proofs.EventAnswers.{events_give_what_they_must}
use Rattle.cs_board.proofs.laws.events_give_what_they_must.Goals as goal

pub returns : goal.returns
returns c = events_give_what_they_must
