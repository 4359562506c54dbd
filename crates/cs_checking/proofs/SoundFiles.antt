-- A store that a check accepts has no bad file.
use Rattle.std.proofs.Common.{◌≡◌, inr, ℕ, List, [], ◌∷◌, length, Ok, Err, refl, arith}
use Rattle.std.specs.List.Sorted.{IsStrictlySortedBy}
use Rattle.cs_schema.specs.declared.file_name.FileName.{FileName}
use Rattle.cs_schema.specs.CatalogData.{CatalogData}
use Rattle.cs_schema.specs.CatalogRules.{IsCatalog}
use Rattle.cs_schema.specs.FileNames.{FileContents, HasName}
use Rattle.cs_schema.specs.Rows.{Row}
use Rattle.cs_store.specs.declared.fault.Fault.{Fault}
use Rattle.cs_recovery.specs.Claims.{IsCheckAnswer}
use Rattle.cs_recovery.specs.Verdicts.{IsSound, IsVerdict, IsCheckVerdict}
use Rattle.cs_inspection.specs.BadFiles.{AreBadFiles}
use Rattle.cs_inspection.proofs.Sound.{sound_good, survivor_sound}

no_fault : {T : List Row} {f : Fault} → Ok T ≡ Err f → ⊥
no_fault e = cc

sound_by : (C : CatalogData) (F : FileContents) (T : List Row) (n : FileName) → HasName C n → IsVerdict C F [] (Ok T) → IsSound C F n
sound_by C F T n h (IsVerdict.bad_file m f b e) = absurd (no_fault e)
sound_by C F T n h (IsVerdict.contents S w reads walked e) = survivor_sound C F [] n (h, refl) (S, reads)

sound : (C : CatalogData) (F : FileContents) (T : List Row) (n : FileName) → HasName C n → IsCheckVerdict C F 0 (Ok T) → IsSound C F n
sound C F T n h (IsCheckVerdict.bad_k above e) = absurd (no_fault e)
sound C F T n h (IsCheckVerdict.unsafe few L first e) = absurd (no_fault e)
sound C F T n h (IsCheckVerdict.safe few safe verdict) = sound_by C F T n h verdict

pub none_bad : (C : CatalogData) → IsCatalog C → (F : FileContents) (rows : ℕ) → IsCheckAnswer C F 0 (Ok rows) → AreBadFiles C F [] []
unfolding IsStrictlySortedBy
none_bad C cat F rows (T, verdict, count) = record {
  each = λ n why i. absurd i;
  others = λ n h. inr (sound_good C cat F [] (λ m i. absurd i) n h (sound C F T n h verdict));
  in_order = tt;
}

pub no_element : {X : Type 0} (xs : List X) → length xs ≡ 0 → xs ≡ []
no_element [] e = refl
no_element (x ∷ xs) e = absurd (omega (arith, e))
