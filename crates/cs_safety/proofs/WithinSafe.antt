-- What survives a loss survives each loss within it, and so that one is safe too.
use Rattle.std.proofs.Common.{◌≡◌, ℕ, ◌||◌, Bool, true, false, not, List, [], ◌∷◌, slice_index, refl, sym, ap, ◌∙◌}
use Rattle.std.specs.List.{list_any}
use Rattle.cs_schema.specs.declared.kinds.Safety.{Safety}
use Rattle.cs_schema.specs.Lists.{member}
use Rattle.cs_schema.specs.CatalogData.{CatalogData, projection}
use Rattle.cs_schema.specs.Losses.{Sites, alive}
use Rattle.cs_schema.specs.Rows.{segment_of_row}
use Rattle.cs_safety.specs.Safety.{IsSafeBy, with_row}
use Rattle.cs_safety.specs.Within.{IsWithin}
use Rattle.cs_schema.proofs.Ascending.{false≢true}
use Rattle.cs_safety.proofs.WholeRows.{suitable_wider}

module _ (L M : Sites) (within : IsWithin L M) where
  -- what is not lost is not lost by less
  pub kept_within : (x : ℕ) → member M x ≡ false → member L x ≡ false
  kept_within x e = go (member L x) refl
    where
      go : (b : Bool) → member L x ≡ b → member L x ≡ false
      go true f = false≢true (sym e ∙ within x f)
      go false f = f

  kept_too : (x : ℕ) → not (member M x) ≡ true → not (member L x) ≡ true
  kept_too x e = go (member M x) refl e
    where
      go : (b : Bool) → member M x ≡ b → not b ≡ true → not (member L x) ≡ true
      go true f n = false≢true n
      go false f n = ap not (kept_within x f)

  all_kept : (xs : List ℕ) → not (list_any (member M) xs) ≡ true → not (list_any (member L) xs) ≡ true
  all_kept [] e = refl
  all_kept (x ∷ xs) e = go (member M x) refl e (λ f. all_kept xs f)
    where
      go : (b : Bool) → member M x ≡ b → not (b || list_any (member M) xs) ≡ true → (not (list_any (member M) xs) ≡ true → not (list_any (member L) xs) ≡ true) → not (member L x || list_any (member L) xs) ≡ true
      go true f n k = false≢true n
      go false f n k = ap (λ b. not (b || list_any (member L) xs)) (kept_within x f) ∙ k n

  module _ (C : CatalogData) where
    pub safe_within : (rule : Safety) → IsSafeBy rule C M → IsSafeBy rule C L
    safe_within Safety.Whole s = (s.0, suitable_wider C (alive C M) (alive C L) (λ q h e. all_kept (projection C q).sites e) s.0 s.1)
    safe_within Safety.Rows s = λ r row.
        let x = s r row in
        (x.0, suitable_wider C (with_row C M r) (with_row C L r) (λ q h e. kept_too (slice_index (projection C q).sites (segment_of_row C q r)) e) x.0 x.1)
