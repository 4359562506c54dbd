-- What a search by name finds in a list in the order of names.
use Rattle.std.proofs.Common.{◌≡◌, ◌∙◌, inl, inr, ℕ, ◌+◌, ◌<◌, List, length, get_or, map, false, sym, ap, subst, arith}
use Rattle.std.specs.List.{HoldsAt}
use Rattle.std.specs.List.Sorted.{IsStrictlySortedBy, IsNonDecreasingBy, IsPartitionPoint}
use Rattle.std.specs.Ordering.{is_lt, ordering_index, ordering_reverse}
use Rattle.std.specs.declared.cmp.Ordering.TheVariants.{Less, Equal, Greater}
use Rattle.std.proofs.lemmas.Bool.{cases_lt}
use Rattle.std.proofs.lemmas.Cmp.{tied_itself}
use Rattle.std.proofs.lemmas.List.{get_or-map, length-map}
use Rattle.std.proofs.lemmas.List.Sorted.{searchable_from_sorted}
use Rattle.std.proofs.lemmas.Map.Keys.{Less-from_sorted}
use Rattle.std.proofs.lemmas.Option.{slice_get-get_or, slice_get_within, get_or_from_slice_get}
use Rattle.cs_schema.proofs.Lists.{in_at, at_in}
use Rattle.cs_schema.specs.FileNames.{name_cmp}
use Rattle.cs_schema.specs.Lists.{IsIn}
use Rattle.cs_schema.specs.NameOrder.{name_cmp_total, name_cmp-IsAntisymmetric}
use Rattle.cs_schema.specs.declared.file_name.FileName.{FileName}

less_ties : Less ≡ Equal → ⊥
less_ties e = cc

greater_ties : Greater ≡ Equal → ⊥
greater_ties e = cc

module _ {X : Type 0} (xs : List (FileName × X)) (sorted : IsStrictlySortedBy name_cmp (map (λ x. x.0) xs)) (n : FileName) where
  -- a name is not below the one before it
  rises : (k : ℕ) (d : FileName × X) → k + 1 < length xs → is_lt (name_cmp (get_or xs (k + 1) d).0 (get_or xs k d).0) ≡ false
  rises k d below =
      let first : FileName × X → FileName = λ x. x.0 in
      let count : length (map first xs) ≡ length xs = length-map xs first in
      let less : name_cmp (get_or (map first xs) k d.0) (get_or (map first xs) (k + 1) d.0) ≡ Less = Less-from_sorted name_cmp (map first xs) k (k + 1) d.0 sorted (omega arith) (omega (arith, count)) in
      let here : get_or (map first xs) k d.0 ≡ (get_or xs k d).0 = get_or-map first xs k d d.0 (omega arith) in
      let next : get_or (map first xs) (k + 1) d.0 ≡ (get_or xs (k + 1) d).0 = get_or-map first xs (k + 1) d d.0 below in
      let less' : name_cmp (get_or xs k d).0 (get_or xs (k + 1) d).0 ≡ Less = subst (λ m. name_cmp m (get_or xs (k + 1) d).0 ≡ Less) here (subst (λ m. name_cmp (get_or (map first xs) k d.0) m ≡ Less) next less) in
      ap is_lt (name_cmp_total.antisymm (get_or xs (k + 1) d).0 (get_or xs k d).0) ∙ ap (λ o. is_lt (ordering_reverse o)) less'

  -- the comparisons with a name rise along the list
  comparisons_rise : IsNonDecreasingBy (λ x. ordering_index (name_cmp x.0 n)) xs
  comparisons_rise = searchable_from_sorted name_cmp_total (λ x. x.0) xs n (λ k d low below. rises k d below)

  -- what is found has the name
  pub found : (at : ℕ) → at < length xs → HoldsAt (λ x. name_cmp x.0 n ≡ Equal) xs at → (d : FileName × X) → IsIn (n, (get_or xs at d).1) xs
  found at within equal d =
      let x : FileName × X = get_or xs at d in
      subst (λ (m : FileName). IsIn (m, x.1) xs) (name_cmp-IsAntisymmetric x.0 n (equal d)) (in_at xs at x (slice_get-get_or xs at d within))

  -- if the place to insert at is found, nothing has the name
  pub absent : (at : ℕ) → (IsNonDecreasingBy (λ x. ordering_index (name_cmp x.0 n)) xs → IsPartitionPoint (λ x. name_cmp x.0 n ≡ Less) (λ x. name_cmp x.0 n ≡ Greater) xs at) → (x : X) → IsIn (n, x) xs → ⊥
  absent at parts x is =
      let place = at_in xs (n, x) is in
      let k : ℕ = place.0 in
      let within : k < length xs = slice_get_within xs k (n, x) place.1 in
      let tied : name_cmp (get_or xs k (n, x)).0 n ≡ Equal = ap (λ (y : FileName × X). name_cmp y.0 n) (get_or_from_slice_get xs k (n, x) (n, x) place.1) ∙ tied_itself name_cmp_total n in
      let split = parts comparisons_rise in
      elim (cases_lt k at) [
        | inl below ↦ less_ties (sym (split.0 k (n, x) (omega arith) below) ∙ tied)
        | inr above ↦ greater_ties (sym (split.1 k (n, x) above within) ∙ tied)
      ]
