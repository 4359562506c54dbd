use Rattle.cs_rebuild.specs.Verifying.{AreLed}
use Rattle.cs_rebuild.proofs.verify_join_indexes.matches_between.Given as goal

-- the entries so far are the expected ones
abbrev pub invariant-loop-i : goal.invariant-loop-i
invariant-loop-i l = AreLed l.entries l.index l.from l.i
