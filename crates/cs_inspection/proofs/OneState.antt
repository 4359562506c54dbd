-- A file is good, or bad for one reason.
use Rattle.std.proofs.Common.{◌≡◌, ℕ, List, Some, None, sym, subst, ◌∙◌}
use Rattle.std.proofs.lemmas.Option.{same_Some}
use Rattle.cs_schema.specs.declared.file_name.FileName.{FileName}
use Rattle.cs_schema.specs.CatalogData.{CatalogData}
use Rattle.cs_schema.specs.FileNames.{FileContents}
use Rattle.cs_inspection.specs.declared.badness.Badness.{Badness}
use Rattle.cs_inspection.specs.BadFiles.{IsBad, IsGood, IsDamaged, IsUndamaged}
use Rattle.cs_inspection.specs.Laws.{FilesHaveOneState}

pub none_there : {x : List ℕ} → None ≡ Some x → ⊥
none_there e = cc

pub damaged_or_not : (C : CatalogData) (F : FileContents) (n : FileName) (bytes : List ℕ) → IsDamaged C F n bytes → IsUndamaged C F n bytes → ⊥
damaged_or_not C F n bytes (IsDamaged.no_file none) u = none u.file
damaged_or_not C F n bytes (IsDamaged.unmerged p s base changes e pair apart) u = apart (u.merges p s base changes e pair)

good_or_bad : (C : CatalogData) (F : FileContents) (unreadable : List FileName) (n : FileName) (why : Badness) → IsBad C F unreadable n why → IsGood C F unreadable n → ⊥
good_or_bad C F unreadable n why (IsBad.unreadable i e) g = g.readable i
good_or_bad C F unreadable n why (IsBad.missing r none e) g = none_there (sym none ∙ g.there)
good_or_bad C F unreadable n why (IsBad.damaged r bytes there d e) g =
    damaged_or_not C F n bytes d (subst (IsUndamaged C F n) (same_Some g.bytes bytes (sym g.there ∙ there)) g.undamaged)

one_reason : (C : CatalogData) (F : FileContents) (unreadable : List FileName) (n : FileName) (why other : Badness) → IsBad C F unreadable n why → IsBad C F unreadable n other → other ≡ why
one_reason C F unreadable n why other (IsBad.unreadable i e) (IsBad.unreadable j k) = k ∙ sym e
one_reason C F unreadable n why other (IsBad.unreadable i e) (IsBad.missing r none k) = absurd (r i)
one_reason C F unreadable n why other (IsBad.unreadable i e) (IsBad.damaged r bytes there d k) = absurd (r i)
one_reason C F unreadable n why other (IsBad.missing r none e) (IsBad.unreadable j k) = absurd (r j)
one_reason C F unreadable n why other (IsBad.missing r none e) (IsBad.missing q none' k) = k ∙ sym e
one_reason C F unreadable n why other (IsBad.missing r none e) (IsBad.damaged q bytes there d k) = absurd (none_there (sym none ∙ there))
one_reason C F unreadable n why other (IsBad.damaged r bytes there d e) (IsBad.unreadable j k) = absurd (r j)
one_reason C F unreadable n why other (IsBad.damaged r bytes there d e) (IsBad.missing q none k) = absurd (none_there (sym none ∙ there))
one_reason C F unreadable n why other (IsBad.damaged r bytes there d e) (IsBad.damaged q bytes' there' d' k) = k ∙ sym e

pub one_state : FilesHaveOneState
one_state C cat F unreadable n why h b = (good_or_bad C F unreadable n why b, λ other o. one_reason C F unreadable n why other b o)
