-- Accepted losses grow, and changed sites are detected and corrected.
use Rattle.std.proofs.Common.{◌≡◌, ℕ, ◌+◌, ◌*◌, ◌≤◌, List, [], length, refl, sym, arith}
use Rattle.std.specs.Prelude.{slice_index}
use Rattle.cs_schema.specs.CatalogData.{CatalogData, projection}
use Rattle.cs_schema.specs.CatalogRules.{IsCatalog}
use Rattle.cs_schema.specs.FileNames.{FileContents, projection_of, segment_of}
use Rattle.cs_schema.specs.Losses.{Sites, IsLoss}
use Rattle.cs_schema.specs.Rows.{Row}
use Rattle.cs_safety.specs.Safety.{IsSafe, IsKSafe}
use Rattle.cs_safety.specs.Within.{IsWithin}
use Rattle.cs_recovery.specs.Holding.{Holds}
use Rattle.cs_recovery.specs.Claims.{SameSurvivors, IsOnlyTable}
use Rattle.cs_recovery.specs.AcceptedLosses.{IsAcceptedLoss, AreChangedOn}
use Rattle.cs_recovery.specs.LossLaws.{AreCorrected}
use Rattle.cs_schema.proofs.Ascending.{false≢true}
use Rattle.cs_safety.proofs.WithinSafe.{kept_within}
use Rattle.cs_recovery.proofs.Exact.{Layers}
use Rattle.cs_recovery.proofs.FewerSurvive.{fewer_hold}
use Rattle.cs_recovery.proofs.LossSizes.{both, first_in_both, second_in_both, loss_of_both, few_both}
use Rattle.cs_recovery.proofs.OneTable.{one_held, one_table_held}

none_within : (N : Sites) → IsWithin [] N
none_within N x m = false≢true m

module _ (C : CatalogData) (cat : IsCatalog C) (layers : Layers C) where
  pub acceptance_grows : (F : FileContents) (L M : Sites) (T : List Row) → IsAcceptedLoss C F L T → IsWithin L M → IsLoss C M → IsSafe C M → IsOnlyTable (IsAcceptedLoss C F M) T
  acceptance_grows F L M T a within loss safe =
      let grown : IsAcceptedLoss C F M T = record { loss = loss; safe = safe; holds = fewer_hold C cat layers F L M within T a.holds F (λ n v. refl) } in
      (grown, λ U u. one_held C cat layers C.safety F M U T safe u.holds grown.holds)

  module _ (F G : FileContents) (B : Sites) (T : List Row) (change : AreChangedOn C F G B T) where
    -- outside a loss that contains the changed sites nothing is changed
    unchanged_beside : (N : Sites) → IsWithin B N → SameSurvivors C N F G
    unchanged_beside N w n v = change.others n (v.0, kept_within B N w (slice_index (projection C (projection_of n)).sites (segment_of n)) v.1)

    pub changed_detected : (k : ℕ) → IsKSafe C k → length B ≤ k → (U : List Row) → Holds C G U → U ≡ T
    changed_detected k safe few U u =
        sym (one_table_held C cat layers C.safety F G [] [] B T U (none_within B) (none_within B) (safe B change.sites few) change.others change.held u)

    -- the loss of the changed sites is accepted with the table if it is safe
    changed_accepted : IsSafe C B → IsAcceptedLoss C G B T
    changed_accepted safe = record { loss = change.sites; safe = safe; holds = fewer_hold C cat layers F [] B (none_within B) T change.held G change.others }

    only_within : (M N : Sites) (U : List Row) → IsAcceptedLoss C G M U → IsWithin B N → IsWithin M N → IsSafe C N → U ≡ T
    only_within M N U a b m safe = sym (one_table_held C cat layers C.safety F G [] M N T U (none_within N) m safe (unchanged_beside N b) change.held a.holds)

    module _ (known : Sites) (k m : ℕ) (safe : IsKSafe C k) (loss : IsLoss C known) (w : IsWithin known B) (few : length B ≤ length known + m) (fits : length known + 2 * m ≤ k) where
      counted : IsAcceptedLoss C G B T × ((M : Sites) (U : List Row) → IsAcceptedLoss C G M U → IsWithin known M → length M ≤ length known + m → U ≡ T)
      counted = (changed_accepted (safe B change.sites (omega (arith, few, fits))), only)
        where
          only : (M : Sites) (U : List Row) → IsAcceptedLoss C G M U → IsWithin known M → length M ≤ length known + m → U ≡ T
          only M U a v size =
              let sites = few_both known B M loss.0 a.loss.0 v in
              let fine : IsSafe C (both known B M) = safe (both known B M) (loss_of_both known B M C change.sites a.loss) (omega (arith, sites, size, few, fits)) in
              only_within M (both known B M) U a (first_in_both known B M) (second_in_both known B M w) fine

    pub changed_corrected : AreCorrected C G B T
    changed_corrected = record { changed = changed_accepted; within = only_within; counted = counted }
