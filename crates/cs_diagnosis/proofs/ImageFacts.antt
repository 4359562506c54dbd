-- The conflict of an image that was compared with the table's rows.
use Rattle.std.proofs.Common.{◌≡◌, ℕ, List, [], map, sym, subst, ◌∙◌, Bool, true, false, not, ◌==◌}
use Rattle.cs_schema.specs.declared.file_name.FileName.{FileName}
use Rattle.cs_schema.specs.CatalogData.{CatalogData}
use Rattle.cs_schema.specs.Lists.{member}
use Rattle.cs_schema.specs.Losses.{Sites}
use Rattle.cs_schema.specs.Order.{rows_of}
use Rattle.cs_schema.specs.Rows.{Row, project}
use Rattle.cs_schema.proofs.Ascending.{false≢true}
use Rattle.cs_delta.specs.Image.{image_rows}
use Rattle.cs_rows.specs.Walk.{Contents}
use Rattle.cs_recovery.specs.Conflicts.{site_of}
use Rattle.cs_recovery.proofs.Exact.{rows_decide}
use Rattle.cs_rebuild.specs.Verifying.{is_misplaced}
use Rattle.cs_diagnosis.specs.Conflicts.{IsImageConflict}
use Rattle.cs_diagnosis.proofs.JoinEntries.{within_alone}

not_not : (b : Bool) → not (not b) ≡ true → b ≡ true
not_not true e = e
not_not false e = e

still_not : (b : Bool) → not (not b) ≡ false → b ≡ false
still_not true e = e
still_not false e = e

module _ (C : CatalogData) (S : Contents) (T : List Row) (a : ℕ × ℕ) (site : ℕ) (others : Sites) (is : site ≡ site_of C (FileName.Seg a.0 a.1)) where
  abbrev Found : List (List Rattle.cs_schema.specs.declared.cells.Value.Value)
  Found = image_rows (S.image a.0 a.1)

  abbrev Wanted : List (List Rattle.cs_schema.specs.declared.cells.Value.Value)
  Wanted = map (project C a.0) (rows_of C T a.0 a.1)

  pub placed : others ≡ [] → not (is_misplaced C S T a) ≡ true → IsImageConflict C S T a (site, others)
  placed none e = record {
    site = is;
    told = λ L gone. (λ w. (rows_decide Found Wanted).0 (not_not _ e), λ rows x m. false≢true (subst (λ l. member l x ≡ true) none m));
  }

  pub not_placed : ((x : ℕ) → member others x ≡ (x == site)) → not (is_misplaced C S T a) ≡ false → IsImageConflict C S T a (site, others)
  not_placed members e = record {
    site = is;
    told = λ L gone. (
      λ w. false≢true (sym gone ∙ (within_alone L others site members).0 w),
      λ rows. false≢true (sym (still_not _ e) ∙ (rows_decide Found Wanted).1 rows),
    );
  }
