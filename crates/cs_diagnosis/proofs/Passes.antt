-- One pass over all files finds the conflicts of a table.
use Rattle.std.proofs.Common.{◌≡◌, ℕ, List, [], length, refl, sym, ap, subst, ◌∙◌, Bool, true, false, inl, inr, Some, arith, ◌<◌, ◌≤◌}
use Rattle.std.specs.Prelude.{◌↔◌}
use Rattle.std.specs.List.{slice_get}
use Rattle.std.proofs.lemmas.Option.{same_Some, slice_get_within, slice_get-get_or}
use Rattle.cs_schema.specs.declared.file_name.FileName.{FileName}
use Rattle.cs_schema.specs.CatalogData.{CatalogData, HasSegment}
use Rattle.cs_schema.specs.CatalogRules.{IsCatalog}
use Rattle.cs_schema.specs.FileNames.{FileContents, HasName, Survives}
use Rattle.cs_schema.specs.Lists.{member, IsIn}
use Rattle.cs_schema.specs.Losses.{Sites}
use Rattle.cs_schema.specs.Order.{Fits}
use Rattle.cs_schema.specs.Rows.{Row, IsTable}
use Rattle.cs_schema.proofs.Ascending.{false≢true}
use Rattle.cs_schema.proofs.Lists.{in_at, at_in}
use Rattle.cs_board.specs.Pieces.{AnswersInOrder}
use Rattle.cs_rows.specs.Walk.{Contents}
use Rattle.cs_rows.specs.Survivors.{SurvivorsData, contents_of}
use Rattle.cs_safety.specs.Within.{IsWithin}
use Rattle.cs_recovery.specs.Conflicts.{site_of}
use Rattle.cs_recovery.specs.Holding.{AreContentsOf}
use Rattle.cs_recovery.specs.Verdicts.{surviving_segments, surviving_joins}
use Rattle.cs_recovery.proofs.Accepted.{same_contents}
use Rattle.cs_recovery.proofs.Exact.{survivors_survive, joins_survive}
use Rattle.cs_recovery.proofs.Judged.{in_survivors, in_joins}
use Rattle.cs_recovery.proofs.Read.{layers}
use Rattle.cs_rebuild.specs.Steps.{AreRead}
use Rattle.cs_diagnosis.specs.Candidates.{AreConflictsOf}
use Rattle.cs_diagnosis.specs.Pairs.{AreHit, IsHit, AreOfSites}
use Rattle.cs_diagnosis.specs.Conflicts.{AreAllHit, IsImageOfRows, AreImagesOfRows, IsJoinOfRows, ImageConflictAt, JoinConflictAt}
use Rattle.cs_diagnosis.specs.declared.conflicts.Conflicts.{Conflicts}
use Rattle.cs_diagnosis.proofs.Keys.{not_lost}
use Rattle.cs_diagnosis.proofs.SiteRanges.{site_range}

-- if one site of a conflict is not lost, the others are
others_lost : (L : Sites) (c : ℕ × Sites) → IsHit L c → member L c.0 ≡ false → IsWithin c.1 L
others_lost L c (inl here) gone = false≢true (sym gone ∙ here)
others_lost L c (inr others) gone = others

hit_by : (L : Sites) (c : ℕ × Sites) → (member L c.0 ≡ false → IsWithin c.1 L) → IsHit L c
hit_by L c f = go (member L c.0) refl
  where
    go : (b : Bool) → member L c.0 ≡ b → IsHit L c
    go true e = inl e
    go false e = inr (f e)

-- if what survives a loss was read, what survives a larger one was read too
pub read_beside : (C : CatalogData) (F : FileContents) (first L : Sites) (v : SurvivorsData) → IsWithin first L → AreRead C F first v → AreRead C F L v
read_beside C F first L v around read = record {
  reads = record {
    images = λ p s h. read.reads.images p s (h.0, not_lost first L around (site_of C (FileName.Seg p s)) h.1);
    joins = λ p s q h. read.reads.joins p s q (h.0, not_lost first L around (site_of C (FileName.Seg p s)) h.1);
  };
  catalog = read.catalog;
  images_there = λ p s h. read.images_there p s (h.0, not_lost first L around (site_of C (FileName.Seg p s)) h.1);
  joins_there = λ p s q h. read.joins_there p s q (h.0, not_lost first L around (site_of C (FileName.Seg p s)) h.1);
}

module _ (C : CatalogData) (cat : IsCatalog C) (first : Sites) (v : SurvivorsData) (T : List Row) (of_images of_joins : List (ℕ × Sites)) where
  abbrev S : Contents
  S = contents_of v

  module _ (segments : List (ℕ × ℕ)) (are : segments ≡ surviving_segments C first) (count : length of_images ≡ length segments) (each : AnswersInOrder (ImageConflictAt C S T segments) of_images) where
    images_if : (L : Sites) → IsWithin first L → AreHit of_images L → AreImagesOfRows C L S T
    images_if L around hit p s h =
        let at = at_in segments (p, s) (subst (IsIn (p, s)) (sym are) (in_survivors C first p s (h.0, not_lost first L around (site_of C (FileName.Seg p s)) h.1))) in
        let c = there at.0 at.1 in
        let a = each at.0 c.0 c.1 in
        let same : a.segment ≡ (p, s) = same_Some a.segment (p, s) (sym a.at ∙ at.1) in
        let site : c.0.0 ≡ site_of C (FileName.Seg p s) = a.conflict.site ∙ ap (λ (x : ℕ × ℕ). site_of C (FileName.Seg x.0 x.1)) same in
        let gone : member L c.0.0 ≡ false = ap (member L) site ∙ h.1 in
        subst (λ (x : ℕ × ℕ). IsImageOfRows C S T x.0 x.1) same ((a.conflict.told L gone).0 (others_lost L c.0 (hit c.0 (in_at of_images at.0 c.0 c.1)) gone))
      where
        there : (i : ℕ) → slice_get segments i ≡ Some (p, s) → (c : ℕ × Sites) × (slice_get of_images i ≡ Some c)
        there i at = (Rattle.std.proofs.Common.get_or of_images i (0, []), slice_get-get_or of_images i (0, []) (let l = slice_get_within segments i (p, s) at in omega (arith, l, count)))

    images_hit : (L : Sites) → IsWithin first L → AreImagesOfRows C L S T → AreHit of_images L
    images_hit L around images c i =
        let at = at_in of_images c i in
        let a = each at.0 c at.1 in
        hit_by L c (λ gone. (a.conflict.told L gone).1 (images a.segment.0 a.segment.1 (lives a.segment (in_at segments at.0 a.segment a.at), sym (ap (member L) a.conflict.site) ∙ gone)))
      where
        lives : (x : ℕ × ℕ) → IsIn x segments → HasSegment C x.0 x.1
        lives x h = (survivors_survive C first x (subst (IsIn x) are h)).0

    -- each image is on a site
    pub images_of_sites : AreOfSites of_images
    images_of_sites c i =
        let at = at_in of_images c i in
        let a = each at.0 c at.1 in
        let here = (survivors_survive C first a.segment (subst (IsIn a.segment) are (in_at segments at.0 a.segment a.at))).0 in
        subst (λ n. (1 ≤ n) × (n ≤ 16)) (sym a.conflict.site) (site_range C cat a.segment.0 a.segment.1 here)

    module _ (joins : List (ℕ × ℕ × ℕ)) (are_joins : joins ≡ surviving_joins C first) (count_joins : length of_joins ≡ length joins) (each_join : AnswersInOrder (JoinConflictAt C first S T joins) of_joins) where
      joins_if : (L : Sites) → IsWithin first L → AreImagesOfRows C L S T → AreHit of_joins L → (p s q : ℕ) → Survives C L (FileName.Jix p s q) → IsJoinOfRows C L S T p s q
      joins_if L around images hit p s q h =
          let at = at_in joins (p, s, q) (subst (IsIn (p, s, q)) (sym are_joins) (in_joins C cat first p s q (h.0, not_lost first L around (site_of C (FileName.Seg p s)) h.1))) in
          let c = there at.0 at.1 in
          let a = each_join at.0 c.0 c.1 in
          let same : a.join ≡ (p, s, q) = same_Some a.join (p, s, q) (sym a.at ∙ at.1) in
          let site : c.0.0 ≡ site_of C (FileName.Seg p s) = a.conflict.site ∙ ap (λ (x : ℕ × ℕ × ℕ). site_of C (FileName.Seg x.0 x.1)) same in
          let gone : member L c.0.0 ≡ false = ap (member L) site ∙ h.1 in
          subst (λ (x : ℕ × ℕ × ℕ). IsJoinOfRows C L S T x.0 x.1 x.2) same ((a.conflict.told L around gone images).0 (others_lost L c.0 (hit c.0 (in_at of_joins at.0 c.0 c.1)) gone))
        where
          there : (i : ℕ) → slice_get joins i ≡ Some (p, s, q) → (c : ℕ × Sites) × (slice_get of_joins i ≡ Some c)
          there i at = (Rattle.std.proofs.Common.get_or of_joins i (0, []), slice_get-get_or of_joins i (0, []) (let l = slice_get_within joins i (p, s, q) at in omega (arith, l, count_joins)))

      joins_hit : (L : Sites) → IsWithin first L → AreContentsOf C L S T → AreHit of_joins L
      joins_hit L around same c i =
          let at = at_in of_joins c i in
          let a = each_join at.0 c at.1 in
          hit_by L c (λ gone. (a.conflict.told L around gone same.images).1 (same.joins a.join.0 a.join.1 a.join.2 (named a.join (in_at joins at.0 a.join a.at), sym (ap (member L) a.conflict.site) ∙ gone)))
        where
          named : (x : ℕ × ℕ × ℕ) → IsIn x joins → HasName C (FileName.Jix x.0 x.1 x.2)
          named x h = (joins_survive C first x (subst (IsIn x) are_joins h)).0

      -- and so is each join index
      pub joins_of_sites : AreOfSites of_joins
      joins_of_sites c i =
          let at = at_in of_joins c i in
          let a = each_join at.0 c at.1 in
          let here = (joins_survive C first a.join (subst (IsIn a.join) are_joins (in_at joins at.0 a.join a.at))).0.0 in
          subst (λ n. (1 ≤ n) × (n ≤ 16)) (sym a.conflict.site) (site_range C cat a.join.0 a.join.1 here)

      -- the losses that contain a site of each conflict are those that leave the table
      pub are_conflicts : (F : FileContents) → AreRead C F first v → IsTable C T → Fits C T → (k : Conflicts) → ((L : Sites) → AreAllHit k L ↔ (AreHit of_images L × AreHit of_joins L)) → AreConflictsOf C F first T k
      are_conflicts F read table fits k gathered L around = (
        λ all.
            let hit = (gathered L).0 all in
            let images = images_if L around hit.0 in record {
              table = table;
              fits = fits;
              contents = S;
              reads = (read_beside C F first L v around read).reads;
              same = record { images = images; joins = joins_if L around images hit.1 };
            },
        λ held.
            let same = same_contents C cat (layers C cat) F L held.contents S held.reads (read_beside C F first L v around read).reads T held.same in
            (gathered L).1 (images_hit L around same.images, joins_hit L around same),
      )
