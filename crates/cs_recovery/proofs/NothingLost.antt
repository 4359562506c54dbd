-- If nothing is lost, nothing is written.
use Rattle.std.proofs.Common.{◌≡◌, ℕ, List, [], ◌∷◌, map, length, refl, ap, ◌∙◌, Bool, true, false, not, ◌&&◌, None}
use Rattle.std.specs.List.{list_any}
use Rattle.cs_schema.specs.declared.file_name.FileName.{FileName}
use Rattle.cs_schema.specs.CatalogData.{CatalogData, projection, has_join}
use Rattle.cs_schema.specs.Rows.{Row, project}
use Rattle.cs_schema.specs.Order.{rows_of}
use Rattle.cs_segment.specs.SegmentFile.{segment_text, base_of}
use Rattle.cs_delta.specs.DeltaFile.{delta_text, no_changes}
use Rattle.cs_jix.specs.JoinIndex.{join_index_text}
use Rattle.cs_rows.specs.Walk.{Contents}
use Rattle.cs_recovery.specs.Expected.{written, is_segment}
use Rattle.cs_recovery.specs.Tables.{when}
use Rattle.cs_recovery.specs.Places.{entries_for}

none_lost : (xs : List ℕ) → list_any (λ x. false) xs ≡ false
none_lost [] = refl
none_lost (x ∷ xs) = none_lost xs

both_false : (b : Bool) → (b && false) ≡ false
both_false true = refl
both_false false = refl

pub nothing_written : (C : CatalogData) (S : Contents) (T : List Row) (n : FileName) → written C [] S T n ≡ None
nothing_written C S T (FileName.Seg p s) = ap (λ b. when b (segment_text C p s (base_of C p (map (project C p) (rows_of C T p s))))) (both_false (is_segment C p s))
nothing_written C S T (FileName.Del p s) = ap (λ b. when b (delta_text (no_changes p s (length (rows_of C T p s))))) (both_false (is_segment C p s))
nothing_written C S T (FileName.Jix p s q) =
    ap (λ b. when (is_segment C p s && has_join C p q && not (not b)) (join_index_text p s q (entries_for C [] S T p s q))) (none_lost (projection C q).sites)
    ∙ ap (λ b. when b (join_index_text p s q (entries_for C [] S T p s q))) (both_false (is_segment C p s && has_join C p q))
