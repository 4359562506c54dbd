-- There is at most one first unsafe loss.
use Rattle.std.proofs.Common.{◌≡◌, ℕ, List, [], ◌∷◌, length, ap, ◌∙◌, refl}
use Rattle.std.specs.Ordering.{ordering_reverse}
use Rattle.std.specs.FinMap.{slice_cmp-IsAntisymmetric, nat_cmp-IsAntisymmetric}
use Rattle.std.proofs.lemmas.Cmp.{nat_list_cmp_total}
use Rattle.std.specs.declared.cmp.Ordering.TheVariants.{Less, Equal, Greater}
use Rattle.cs_schema.specs.Losses.{loss_cmp}
use Rattle.cs_safety.specs.SafetyLaws.{FirstUnsafeIsOne}

abbrev rest : List ℕ → List ℕ
rest [] = []
rest (x ∷ xs) = xs

pub one_first_unsafe : FirstUnsafeIsOne
one_first_unsafe C k L M f g =
    elim (loss_cmp L M) as (λ o. loss_cmp L M ≡ o → L ≡ M) [
      | Less ↦ λ e. absurd (f.is_unsafe (g.before L f.loss e))
      | Equal ↦ λ e. ap rest (slice_cmp-IsAntisymmetric nat_cmp-IsAntisymmetric (length L ∷ L) (length M ∷ M) e)
      | Greater ↦ λ e. absurd (g.is_unsafe (f.before M g.loss (nat_list_cmp_total.antisymm (length M ∷ M) (length L ∷ L) ∙ ap ordering_reverse e)))
    ] refl
