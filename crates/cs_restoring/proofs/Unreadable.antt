-- Names that could not be read.
use Rattle.std.proofs.Common.{◌≡◌, List, [], ◌∷◌, None, inl, inr, sym, subst}
use Rattle.std.specs.List.{AllByRecursion}
use Rattle.cs_schema.specs.declared.file_name.FileName.{FileName}
use Rattle.cs_schema.specs.FileNames.{FileContents}
use Rattle.cs_inspection.specs.Laws.{AreAbsent}

-- no file stands under any of them
pub absent : (F : FileContents) (names : List FileName) → AllByRecursion (λ n. F n ≡ None) names → AreAbsent F names
absent F [] all n i = absurd i
absent F (m ∷ names) all n (inl e) = subst (λ k. F k ≡ None) (sym e) all.0
absent F (m ∷ names) all n (inr i) = absent F names all.1 n i
