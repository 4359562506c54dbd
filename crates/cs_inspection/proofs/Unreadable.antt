-- Whether a name is in a list, as the program tests it.
use Rattle.std.proofs.Common.{◌≡◌, inl, inr, Bool, true, false, ◌||◌, List, [], ◌∷◌, Ordering, refl, sym, ap, ◌∙◌}
use Rattle.std.specs.List.{list_any}
use Rattle.std.specs.Ordering.{is_eq, eq_by_cmp, ordering_reverse}
use Rattle.std.specs.declared.cmp.Ordering.TheVariants.{Less, Equal, Greater}
use Rattle.cs_schema.specs.declared.file_name.FileName.{FileName}
use Rattle.cs_schema.specs.FileNames.{name_cmp}
use Rattle.cs_schema.specs.Lists.{IsIn}
use Rattle.cs_schema.specs.NameOrder.{name_cmp_total, name_cmp-IsAntisymmetric}
use Rattle.cs_schema.proofs.Ascending.{false≢true}

equal : (o : Ordering) → is_eq o ≡ true → o ≡ Equal
equal Less e = false≢true e
equal Equal e = refl
equal Greater e = false≢true e

self_equal : (o : Ordering) → o ≡ ordering_reverse o → is_eq o ≡ true
self_equal Less e = absurd cc
self_equal Equal e = refl
self_equal Greater e = absurd cc

same : (m n : FileName) → eq_by_cmp name_cmp m n ≡ true → m ≡ n
same m n e = name_cmp-IsAntisymmetric m n (equal (name_cmp m n) e)

pub listed : (names : List FileName) (n : FileName) → list_any (λ y. eq_by_cmp name_cmp y n) names ≡ true → IsIn n names
listed [] n e = false≢true e
listed (m ∷ names) n e = go (eq_by_cmp name_cmp m n) refl e (λ h. listed names n h)
  where
    go : (b : Bool) → eq_by_cmp name_cmp m n ≡ b → (b || list_any (λ y. eq_by_cmp name_cmp y n) names) ≡ true → (list_any (λ y. eq_by_cmp name_cmp y n) names ≡ true → IsIn n names) → IsIn n (m ∷ names)
    go true k h f = inl (sym (same m n k))
    go false k h f = inr (f h)

either_false : (a b : Bool) → (a || b) ≡ false → (a ≡ false) × (b ≡ false)
either_false true b e = false≢true (sym e)
either_false false b e = (refl, e)

pub unlisted : (names : List FileName) (n : FileName) → list_any (λ y. eq_by_cmp name_cmp y n) names ≡ false → IsIn n names → ⊥
unlisted [] n e i = i
unlisted (m ∷ names) n e (inl k) =
    let first = (either_false (eq_by_cmp name_cmp m n) (list_any (λ y. eq_by_cmp name_cmp y n) names) e).0 in
    let self = self_equal (name_cmp n n) (name_cmp_total.antisymm n n) in
    false≢true (sym first ∙ ap (λ x. eq_by_cmp name_cmp x n) (sym k) ∙ self)
unlisted (m ∷ names) n e (inr i) = unlisted names n (either_false (eq_by_cmp name_cmp m n) (list_any (λ y. eq_by_cmp name_cmp y n) names) e).1 i
