-- One step of the pass over two tables, by which of them has the next key.
use Rattle.std.proofs.Common.{◌≡◌, ◌≢◌, ℕ, ◌+◌, ◌<◌, List, ◌∷◌, ◌++◌, [], sym, ◌∙◌, arith, Some}
use Rattle.std.proofs.lemmas.Option.{slice_get_within, same_Some}
use Rattle.std.specs.List.{slice_get}
use Rattle.std.specs.declared.cmp.Ordering.TheVariants.{Less, Equal, Greater}
use Rattle.cs_schema.specs.declared.cells.Cells.{Cells}
use Rattle.cs_schema.specs.CatalogData.{CatalogData}
use Rattle.cs_schema.specs.Rows.{Row, cell}
use Rattle.cs_schema.proofs.Ascending.{less≢equal, less≢greater}
use Rattle.cs_diagnosis.specs.declared.merging.Dispute.{Dispute}
use Rattle.cs_rows.specs.WalkedView.{row_of, count_of}
use Rattle.cs_diagnosis.specs.Columns.{IsTableIn, rows_in}
use Rattle.cs_diagnosis.specs.Disputes.{AreDisputes}
use Rattle.cs_diagnosis.specs.Next.{IsNext}
use Rattle.cs_diagnosis.proofs.Merged.{before_all, finished, step_different, step_first, step_same, step_second}
use Rattle.cs_diagnosis.proofs.MergedSoFar.{IsMerged, alone_first, alone_second, of_both}
use Rattle.cs_diagnosis.proofs.TableRows.{rising, total, row_there}

greater≢equal : {A : Type 0} → Greater ≡ Equal → A
greater≢equal e = absurd (cc e)

module _ (C : CatalogData) (a b : List Cells) (first : IsTableIn C a) (second : IsTableIn C b) (i j : ℕ) where
  within_first : (r : Row) → slice_get (rows_in a) i ≡ Some r → i < count_of a
  within_first r at = let low = slice_get_within (rows_in a) i r at in let n = total C a first in omega (arith, low, n)

  within_second : (q : Row) → slice_get (rows_in b) j ≡ Some q → j < count_of b
  within_second q at = let low = slice_get_within (rows_in b) j q at in let n = total C b second in omega (arith, low, n)

  pub low_first : IsNext C.key (rows_in a) (rows_in b) i j Less → i < count_of a
  low_first (IsNext.first r at f e) = within_first r at
  low_first (IsNext.second q at f e) = less≢greater e
  low_first (IsNext.both r q at by s e) = less≢equal e

  pub low_second : IsNext C.key (rows_in a) (rows_in b) i j Greater → j < count_of b
  low_second (IsNext.first r at f e) = less≢greater (sym e)
  low_second (IsNext.second q at f e) = within_second q at
  low_second (IsNext.both r q at by s e) = greater≢equal e

  pub low_both : IsNext C.key (rows_in a) (rows_in b) i j Equal → (i < count_of a) × (j < count_of b)
  low_both (IsNext.first r at f e) = less≢equal (sym e)
  low_both (IsNext.second q at f e) = greater≢equal (sym e)
  low_both (IsNext.both r q at by s e) = (within_first r at, within_second q by)

  module _ (all : List Dispute) (m : IsMerged C.key (rows_in a) (rows_in b) i j all) where
    pub on_first : IsNext C.key (rows_in a) (rows_in b) i j Less → IsMerged C.key (rows_in a) (rows_in b) (i + 1) j (all ++ alone_first i ∷ [])
    on_first (IsNext.first r at f e) =
        step_first C.key (rows_in a) (rows_in b) (rising C a first) (rising C b second) i j all m r at
        (before_all C.key (rows_in a) (rows_in b) (rising C a first) (rising C b second) (rows_in b) (rising C b second) j (cell r C.key) f)
    on_first (IsNext.second q at f e) = less≢greater e
    on_first (IsNext.both r q at by s e) = less≢equal e

    pub on_second : IsNext C.key (rows_in a) (rows_in b) i j Greater → IsMerged C.key (rows_in a) (rows_in b) i (j + 1) (all ++ alone_second j ∷ [])
    on_second (IsNext.first r at f e) = less≢greater (sym e)
    on_second (IsNext.second q at f e) =
        step_second C.key (rows_in a) (rows_in b) (rising C a first) (rising C b second) i j all m q at
        (before_all C.key (rows_in a) (rows_in b) (rising C a first) (rising C b second) (rows_in a) (rising C a first) i (cell q C.key) f)
    on_second (IsNext.both r q at by s e) = greater≢equal e

    pub on_same : IsNext C.key (rows_in a) (rows_in b) i j Equal → row_of a i ≡ row_of b j → IsMerged C.key (rows_in a) (rows_in b) (i + 1) (j + 1) all
    on_same (IsNext.first r at f e) same = less≢equal (sym e)
    on_same (IsNext.second q at f e) same = greater≢equal (sym e)
    on_same (IsNext.both r q at by s e) same =
        let here = same_Some r (row_of a i) (sym at ∙ row_there C a first i (within_first r at)) in
        let there = same_Some q (row_of b j) (sym by ∙ row_there C b second j (within_second q by)) in
        step_same C.key (rows_in a) (rows_in b) (rising C a first) (rising C b second) i j all m r q at by s (here ∙ same ∙ sym there)

    pub on_different : IsNext C.key (rows_in a) (rows_in b) i j Equal → row_of a i ≢ row_of b j → IsMerged C.key (rows_in a) (rows_in b) (i + 1) (j + 1) (all ++ of_both i j ∷ [])
    on_different (IsNext.first r at f e) differ = less≢equal (sym e)
    on_different (IsNext.second q at f e) differ = greater≢equal (sym e)
    on_different (IsNext.both r q at by s e) differ =
        let here = same_Some r (row_of a i) (sym at ∙ row_there C a first i (within_first r at)) in
        let there = same_Some q (row_of b j) (sym by ∙ row_there C b second j (within_second q by)) in
        step_different C.key (rows_in a) (rows_in b) (rising C a first) (rising C b second) i j all m r q at by s (λ k. differ (sym here ∙ k ∙ there))

    pub at_end : ¬ (i < count_of a) → ¬ (j < count_of b) → AreDisputes C.key (rows_in a) (rows_in b) all
    at_end f g =
        let n = total C a first in
        let k = total C b second in
        finished C.key (rows_in a) (rows_in b) (rising C a first) (rising C b second) i j all m (omega (arith, n, f)) (omega (arith, k, g))
