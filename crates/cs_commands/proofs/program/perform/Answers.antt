use Rattle.std.proofs.Common.{[], inl, inr}
use Rattle.cs_commands.proofs.program.perform.Goals as goal

-- a check asks for the store alone, so no loss and no output matter
pub returns-in-Err-clause-err : goal.returns-in-Err-clause-err
returns-in-Err-clause-err g c = inr (c.in-Ok-Check.store.now, [], [], inl c.in-Err.ensures.err)
