use Rattle.std.proofs.Common.{◌≡◌, ℕ, suc, ◌<◌, get_or}
use Rattle.std.specs.declared.cmp.Ordering.TheVariants.{Less}
use Rattle.cs_codec.proofs.numbered.ascend.Given as goal

abbrev pub invariant-loop-at : goal.invariant-loop-at
invariant-loop-at g l = (k : ℕ) (d : g.row.C.Denot) → suc k < l.at → g.C.Ord.cmp (get_or (g.L.Column.cells l.values) k d) (get_or (g.L.Column.cells l.values) (suc k) d) ≡ Less
