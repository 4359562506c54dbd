-- A task has at most one fault.
use Rattle.std.specs.Prelude.{◌≡◌, ℕ, List, Option, Some, None}
use Rattle.std.specs.Ordering.{ordering_reverse}
use Rattle.std.specs.declared.cmp.Ordering.{Ordering}
use Rattle.std.specs.declared.cmp.Ordering.TheVariants.{Less, Equal, Greater}
use Rattle.std.proofs.Common.{ap, sym, refl, subst, inl, inr, ◌∙◌}
use Rattle.std.proofs.lemmas.Option.{none-some, same_Some}
use Rattle.cs_store.specs.declared.fault.Fault.{Fault}
use Rattle.cs_schema.specs.declared.file_name.FileName.{FileName}
use Rattle.cs_schema.specs.CatalogData.{CatalogData}
use Rattle.cs_schema.specs.FileNames.{FileContents, name_cmp}
use Rattle.cs_schema.specs.NameOrder.{name_cmp_total, name_cmp-IsAntisymmetric}
use Rattle.cs_recovery.specs.Verdicts.{FileFault}
use Rattle.cs_rebuild.specs.Reading.{IsFilesFault, IsFirstBadOf, FilesFaultAt}

-- two faults that equal the same value are equal
pub one_value : {X : Type 0} (o f g : X) → f ≡ o → g ≡ o → f ≡ g
one_value o f g a b = a ∙ sym b

-- ---- files

one_file_fault : (F : FileContents) (n : FileName) (f g : Fault) → FileFault F n f → FileFault F n g → f ≡ g
one_file_fault F n f g (inl h) (inl k) = h.1 ∙ sym k.1
one_file_fault F n f g (inl h) (inr k) = absurd (none-some k.0.0 (sym h.0 ∙ k.0.1))
one_file_fault F n f g (inr h) (inl k) = absurd (none-some h.0.0 (sym k.0 ∙ h.0.1))
one_file_fault F n f g (inr h) (inr k) = h.1 ∙ sym k.1

greater_less : (m n : FileName) → name_cmp m n ≡ Greater → name_cmp n m ≡ Less
greater_less m n e = name_cmp_total.antisymm n m ∙ ap ordering_reverse e

one_bad : (C : CatalogData) (F : FileContents) (a : ℕ × ℕ) (f g : Fault) → IsFirstBadOf C F a f → IsFirstBadOf C F a g → f ≡ g
one_bad C F a f g h k = go (name_cmp h.name k.name) refl
  where
    go : (o : Ordering) → name_cmp h.name k.name ≡ o → f ≡ g
    go Less e = absurd (h.refused.0 (k.before h.name h.has h.of e))
    go Equal e = one_file_fault F k.name f g (subst (λ n. FileFault F n f) (name_cmp-IsAntisymmetric h.name k.name e) h.refused.1) k.refused.1
    go Greater e = absurd (k.refused.0 (h.before k.name k.has k.of (greater_less h.name k.name e)))

one_of : (C : CatalogData) (F : FileContents) (a : ℕ × ℕ) (f g : Option Fault) → IsFilesFault C F a f → IsFilesFault C F a g → f ≡ g
one_of C F a None None h k = refl
one_of C F a None (Some g) h k = absurd (k.refused.0 (h k.name k.has k.of))
one_of C F a (Some f) None h k = absurd (h.refused.0 (k h.name h.has h.of))
one_of C F a (Some f) (Some g) h k = ap Some (one_bad C F a f g h k)

pub one_files_fault : (C : CatalogData) (F : FileContents) (segments : List (ℕ × ℕ)) (i : ℕ) (f g : Option Fault) → FilesFaultAt C F segments i f → FilesFaultAt C F segments i g → f ≡ g
one_files_fault C F segments i f g h k = one_of C F k.0 f g (subst (λ a. IsFilesFault C F a f) (same_Some h.0 k.0 (sym h.1 ∙ k.1)) h.2) k.2
