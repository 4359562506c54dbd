use Rattle.cs_restore.proofs.UndoLoop.{SoFar}
use Rattle.cs_restore.proofs.undoing.put_back_all.Given as goal

abbrev pub invariant-loop-name : goal.invariant-loop-name
invariant-loop-name g l = SoFar g.S.Shelf.holds g.S.Shelf.may_leave g.S.Shelf.kept g.S.Shelf.moment g.S.Shelf.left_since g.S.Source.fault_count l.back l.names l.initial.shelf l.name-index l.shelf
