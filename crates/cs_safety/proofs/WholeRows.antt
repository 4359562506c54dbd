-- Where some alive projection reaches every column, each row is safe.
use Rattle.std.proofs.Common.{◌≡◌, ℕ, ◌<◌, Bool, true, not, ap, length}
use Rattle.cs_schema.specs.CatalogData.{CatalogData}
use Rattle.cs_schema.specs.Losses.{alive}
use Rattle.cs_schema.specs.Rows.{segment_of_row}
use Rattle.cs_safety.specs.Paths.{Path, IsSuitable}
use Rattle.cs_safety.specs.Safety.{with_row}
use Rattle.cs_safety.specs.SafetyLaws.{WholeIsSafeByRows}
use Rattle.cs_safety.proofs.AliveLemmas.{alive_kept, segment_below}

module _ (C : CatalogData) (o w : ℕ → Bool) (wide : (q : ℕ) → q < length C.projections → o q ≡ true → w q ≡ true) where
  -- what may be entered may be entered where more may be
  pub path_wider : (a q n : ℕ) → Path C o a q n → Path C w a q n
  path_wider a q n Path.start = Path.start
  path_wider a q n (Path.join {p = p} {n = m} h s) = Path.join (path_wider a p m h) (record { exists = s.exists; declared = s.declared; may_enter = wide q s.exists s.may_enter })

  pub suitable_wider : (a : ℕ) → IsSuitable C o a → IsSuitable C w a
  suitable_wider a s = record {
    exists = s.exists;
    may_start = wide a s.exists s.may_start;
    columns = λ c h. let f = s.columns c h in (f.0, ((f.1.0.0, path_wider a f.0 f.1.0.0 f.1.0.1), f.1.1));
  }

pub whole_by_rows : WholeIsSafeByRows
whole_by_rows C cat L whole r row =
    (whole.0, suitable_wider C (alive C L) (with_row C L r) (λ q h e. ap not (alive_kept C cat L q h e (segment_of_row C q r) (segment_below C q r))) whole.0 whole.1)
