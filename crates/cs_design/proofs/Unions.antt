-- The sites of either of two losses.
use Rattle.std.proofs.Common.{◌≡◌, ℕ, ◌+◌, ◌∷◌, ◌++◌, ◌<◌, ◌≤◌, [], false, sym, ◌∙◌, subst, arith, inl, inr, ◌⊎◌}
use Rattle.std.specs.Prelude.{IsTrue}
use Rattle.std.specs.Ordering.{nat_cmp}
use Rattle.std.specs.Cmp.{nat_cmp_total}
use Rattle.std.specs.FinMap.{nat_cmp-IsAntisymmetric}
use Rattle.std.specs.List.Sorted.{IsStrictlySortedBy}
use Rattle.cs_schema.specs.Lists.{member, IsIn}
use Rattle.cs_schema.specs.Losses.{Sites}
use Rattle.cs_schema.specs.Order.{placed}
use Rattle.std.proofs.lemmas.Bool.{cases_lt}
use Rattle.cs_schema.proofs.Ascending.{false≢true, same_ascending, ascending_sorted, in_ascending, ascending_in, placed_sorted, placed_in, in_placed}
use Rattle.cs_schema.proofs.Lists.{member_in, in_member, append_left, append_right, in_append}
use Rattle.cs_safety.specs.Within.{IsWithin}
use Rattle.cs_design.specs.Fatal.{either}

module _ (L M : Sites) where
  pub in_either : (x : ℕ) → IsIn x (L ++ M) → IsIn x (either L M)
  in_either x i = ascending_in nat_cmp nat_cmp_total (L ++ M) (λ y z j k e. nat_cmp-IsAntisymmetric y z e) x i

  pub either_in : (x : ℕ) → IsIn x (either L M) → IsIn x (L ++ M)
  either_in x i = in_ascending nat_cmp nat_cmp_total (L ++ M) x i

  -- an ascending list with just these sites is that list
  pub either_is : (both : Sites) → IsStrictlySortedBy nat_cmp both → ((x : ℕ) → IsIn x both → IsIn x (L ++ M)) → ((x : ℕ) → IsIn x (L ++ M) → IsIn x both) → both ≡ either L M
  either_is both s f g =
      same_ascending nat_cmp nat_cmp_total both (either L M) s (ascending_sorted nat_cmp nat_cmp_total (L ++ M)) (λ x i. in_either x (f x i)) (λ x i. g x (either_in x i))

-- a loss within another, both together with a third
pub either_within : (K L M : Sites) → ((x : ℕ) → IsTrue (member L x) → IsTrue (member K x) ⊎ IsTrue (member M x)) → IsWithin (either K L) (either K M)
either_within K L M w x m = in_member (either K M) x (in_either K M x (go (in_append K L x (either_in K L x (member_in (either K L) x m)))))
  where
    other : IsTrue (member K x) ⊎ IsTrue (member M x) → IsIn x (K ++ M)
    other (inl k) = append_left K M x (member_in K x k)
    other (inr k) = append_right K M x (member_in M x k)

    go : IsIn x K ⊎ IsIn x L → IsIn x (K ++ M)
    go (inl i) = append_left K M x i
    go (inr i) = other (w x (in_member L x i))

-- a loss together with none
pub either_none : (K : Sites) → IsWithin (either K []) K
either_none K x m = in_member K x (go (in_append K [] x (either_in K [] x (member_in (either K []) x m))))
  where
    go : IsIn x K ⊎ IsIn x [] → IsIn x K
    go (inl i) = i
    go (inr i) = absurd i

pub second_within : (K L : Sites) → IsWithin L (either K L)
second_within K L x m = in_member (either K L) x (in_either K L x (append_right K L x (member_in L x m)))

-- ---- a union that is put together site by site

-- the sites of either loss that are below one
pub record IsUnionBelow (L M both : Sites) (site : ℕ) : Type 0 where
  pub in_order : IsStrictlySortedBy nat_cmp both
  pub from : (x : ℕ) → IsIn x both → IsIn x (L ++ M)
  pub below : (x : ℕ) → 1 ≤ x → x < site → IsIn x (L ++ M) → IsIn x both

pub no_union : (L M both : Sites) → both ≡ [] → IsUnionBelow L M both 1
unfolding IsStrictlySortedBy
no_union L M both e = subst (λ B. IsUnionBelow L M B 1) (sym e) (record { in_order = tt; from = λ x i. absurd i; below = λ x l h i. absurd (omega arith) })

module _ (L M both : Sites) (site : ℕ) (u : IsUnionBelow L M both site) where
  pub add_site : (new : Sites) → new ≡ placed nat_cmp site both → IsIn site (L ++ M) → IsUnionBelow L M new (site + 1)
  add_site new e i = subst (λ B. IsUnionBelow L M B (site + 1)) (sym e) (record {
    in_order = placed_sorted nat_cmp nat_cmp_total site both u.in_order;
    from = λ x h. from x (in_placed nat_cmp nat_cmp_total site x both h);
    below = λ x l h k. placed_in nat_cmp nat_cmp_total site x both (λ y j e. nat_cmp-IsAntisymmetric site y e) (elim (cases_lt x site) [ inl b ↦ inr (u.below x l b k) | inr b ↦ inl (omega arith) ]);
  })
    where
      from : (x : ℕ) → IsIn x (site ∷ both) → IsIn x (L ++ M)
      from x (inl e) = subst (λ y. IsIn y (L ++ M)) (sym e) i
      from x (inr h) = u.from x h

  pub skip_site : member L site ≡ false → member M site ≡ false → IsUnionBelow L M both (site + 1)
  skip_site a b = record {
    in_order = u.in_order;
    from = u.from;
    below = λ x l h k. elim (cases_lt x site) [
      | inl c ↦ u.below x l c k
      | inr c ↦ (let e : x ≡ site = omega arith in absurd (neither (in_append L M site (subst (λ y. IsIn y (L ++ M)) e k))))
    ];
  }
    where
      neither : IsIn site L ⊎ IsIn site M → ⊥
      neither (inl i) = false≢true (sym a ∙ in_member L site i)
      neither (inr i) = false≢true (sym b ∙ in_member M site i)
