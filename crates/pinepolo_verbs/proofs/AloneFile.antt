-- What is bad of a file that stands alone.
use Rattle.std.proofs.Common.{◌≡◌, ◌∙◌, inl, inr, ℕ, Bool, true, false, cond, List, [], Option, None, Some, MatchOption, is_some, refl, sym, ap, subst}
use Rattle.std.specs.FinMap.{empty, insert, get-empty, get-insert}
use Rattle.std.specs.Ordering.{is_eq}
use Rattle.std.proofs.lemmas.Cmp.{tied_itself}
use Rattle.std.proofs.lemmas.Option.{same_Some}
use Rattle.cs_schema.specs.CatalogData.{CatalogData}
use Rattle.cs_schema.specs.FileNames.{HasName, name_cmp}
use Rattle.cs_schema.specs.Lists.{IsIn}
use Rattle.cs_schema.specs.NameOrder.{name_cmp_total}
use Rattle.cs_schema.specs.declared.file_name.FileName.{FileName}
use Rattle.cs_store.specs.FileSet.{Files, contents_of}
use Rattle.cs_shelf.proofs.Names.{same_name}
use Rattle.cs_inspection.specs.BadFiles.{IsFileOf, IsBad, IsDamaged, IsListed, AreBadFiles}
use Rattle.cs_inspection.specs.declared.badness.Badness.{Badness}
use Rattle.pinepolo_verbs.specs.Changed.{TellsDamage}

none_there : (bytes : List ℕ) → None ≡ Some bytes → ⊥
none_there bytes e = cc

seg_del : (p s : ℕ) → FileName.Seg p s ≡ FileName.Del p s → ⊥
seg_del p s e = cc

module _ (C : CatalogData) (n : FileName) (bytes : List ℕ) (files : Files) (is : files ≡ insert empty n bytes) where
  at : (m : FileName) → contents_of files m ≡ cond (is_eq (name_cmp m n)) (Some bytes) None
  at m = ap (λ f. contents_of f m) is ∙ get-insert name_cmp_total empty n bytes m ∙ ap (cond (is_eq (name_cmp m n)) (Some bytes)) (get-empty name_cmp m)

  there : contents_of files n ≡ Some bytes
  there = at n ∙ ap (λ b. cond b (Some bytes) None) (ap is_eq (tied_itself name_cmp_total n))

  alone : (m : FileName) → (m ≡ n → ⊥) → contents_of files m ≡ None
  alone m apart = go (is_eq (name_cmp m n)) refl
    where
      go : (b : Bool) → is_eq (name_cmp m n) ≡ b → contents_of files m ≡ None
      go true e = absurd (apart (same_name m n e))
      go false e = at m ∙ ap (λ b. cond b (Some bytes) None) e

  damaged : (held : List ℕ) → contents_of files n ≡ Some held → IsDamaged C (contents_of files) n held → IsFileOf C n bytes → ⊥
  damaged held has (IsDamaged.no_file none) file = none (subst (IsFileOf C n) (same_Some bytes held (sym there ∙ has)) file)
  damaged held has (IsDamaged.unmerged p s base changes e pair apart) file =
      none_there pair.segment_bytes (sym (alone (FileName.Seg p s) (λ same. seg_del p s (same ∙ e))) ∙ pair.has_segment)

  bad_file : (why : Badness) → IsBad C (contents_of files) [] n why → IsFileOf C n bytes → ⊥
  bad_file why (IsBad.unreadable i e) file = absurd i
  bad_file why (IsBad.missing readable none e) file = none_there bytes (sym none ∙ there)
  bad_file why (IsBad.damaged readable held has is_damaged e) file = damaged held has is_damaged file

  module _ (bad : List (FileName × Badness)) (are : AreBadFiles C (contents_of files) [] bad) where
    good_file : (IsListed n bad → ⊥) → HasName C n → IsFileOf C n bytes
    good_file unlisted named = elim (are.others n named) [
      | inl listed ↦ absurd (unlisted listed)
      | inr good ↦ subst (IsFileOf C n) (same_Some good.bytes bytes (sym good.there ∙ there)) good.undamaged.file
    ]

    -- it is damaged exactly if it is listed
    pub told : (found : Option Badness) → MatchOption found (¬ IsListed n bad) (λ why. IsIn (n, why) bad) → TellsDamage C n bytes (is_some found)
    told None unlisted named = good_file unlisted named
    told (Some why) listed named = bad_file why (are.each n why listed).1
