-- The walk of held files finds the table's rows, and what is under lost names is never looked at.
use Rattle.std.proofs.Common.{◌≡◌, ℕ, List, sym, ◌∙◌, false, ◌↔◌, inl, inr, Result, Ok, Err}
use Rattle.std.specs.List.{flat_map}
use Rattle.cs_schema.specs.declared.file_name.FileName.{FileName}
use Rattle.cs_store.specs.declared.fault.Fault.{Fault}
use Rattle.cs_schema.specs.CatalogData.{CatalogData, segments}
use Rattle.cs_schema.specs.declared.kinds.Safety.{Safety}
use Rattle.cs_schema.specs.CatalogRules.{IsCatalog}
use Rattle.cs_schema.specs.Rows.{Row}
use Rattle.cs_schema.specs.Lists.{IsIn}
use Rattle.cs_schema.specs.FileNames.{Survives, FileContents}
use Rattle.cs_schema.specs.Losses.{Sites}
use Rattle.cs_schema.specs.Order.{rows_of}
use Rattle.cs_schema.specs.Lists.{numbers_below}
use Rattle.cs_safety.specs.Safety.{IsSafe, IsSafeBy}
use Rattle.cs_rows.specs.Walk.{Contents, Stray}
use Rattle.cs_rows.specs.WalkByRows.{without_repeats}
use Rattle.cs_recovery.specs.Contents.{Reads}
use Rattle.cs_recovery.specs.Holding.{AreContentsOf, HoldsSurvivors}
use Rattle.cs_recovery.specs.Verdicts.{IsSound, FileFault, IsFirstBadFile, IsVerdict, IsRebuildVerdict, IsWalkedBy, Verdict}
use Rattle.cs_order.specs.Tables.{is_twice}
use Rattle.cs_recovery.specs.Claims.{SameSurvivors, IsRebuildAnswer}
use Rattle.cs_store.specs.FileSet.{Files}
use Rattle.cs_recovery.proofs.Walks.{IsKeyed}
use Rattle.cs_recovery.proofs.WalkedRows.{walk_ends, in_segments, segments_in}
use Rattle.cs_recovery.proofs.Exact.{Layers, once_segments, not_twice}
use Rattle.cs_recovery.proofs.Accepted.{same_contents}
use Rattle.cs_recovery.proofs.FewerSurvive.{image_under, join_under, reads_under}
use Rattle.cs_recovery.proofs.RowLists.{once_only}
use Rattle.cs_recovery.proofs.RowHome.{full_rows, rows_walk_ends, walked_in, in_walked}

abbrev Finds : CatalogData → List Row → Result (List Row) Stray → Type 0
Finds C T w = (rows : List Row) × (w ≡ Ok rows) × ((r : Row) → IsIn r rows ↔ IsIn r T) × (is_twice C rows ≡ false)

pub walk_finds : (C : CatalogData) → IsCatalog C → Layers C → (F : FileContents) (L : Sites) (T : List Row) → IsSafe C L → HoldsSurvivors C F L T → (S : Contents) (w : Result (List Row) Stray) → Reads C F L S → IsWalkedBy C.safety C L S w → Finds C T w
walk_finds C cat layers F L T safe h S w r by = go C.safety safe by
  where
    same : AreContentsOf C L S T
    same = same_contents C cat layers F L h.contents S h.reads r T h.same

    keyed : (p s : ℕ) → Survives C L (FileName.Seg p s) → IsKeyed (S.image p s)
    keyed p s v = layers.keyed F p s (S.image p s) (r.images p s v)

    go : (rule : Safety) → IsSafeBy rule C L → IsWalkedBy rule C L S w → Finds C T w
    go Safety.Whole s x =
        let rows : List Row = flat_map (rows_of C T x.0.anchor) (numbers_below (segments C x.0.anchor)) in (
          rows,
          x.2 ∙ walk_ends C cat L S T h.table same keyed x.0 x.1,
          λ z. (λ i. in_segments C cat L S T h.table same keyed x.0 x.1 z i, λ i. segments_in C cat L S T h.table same keyed x.0 x.1 z i),
          not_twice C T h.table rows (once_segments C T h.table x.0.anchor 0 (segments C x.0.anchor)) (λ z i. in_segments C cat L S T h.table same keyed x.0 x.1 z i),
        )
    go Safety.Rows s x =
        let all : List Row = full_rows C cat L S T h.table same keyed in
        (without_repeats C all, x ∙ rows_walk_ends C cat L S T h.table same keyed, λ z. (λ i. walked_in C cat L S T h.table same keyed z i, λ i. in_walked C cat L S T h.table same keyed s z i), once_only C all)

-- ---- names that do not survive

module _ (C : CatalogData) (F G : FileContents) (L : Sites) (same : SameSurvivors C L F G) where
  back : SameSurvivors C L G F
  back n v = sym (same n v)

  sound_under : (n : FileName) → Survives C L n → IsSound C F n → IsSound C G n
  sound_under (FileName.Seg p s) v x = (x.0, x.1, same (FileName.Seg p s) v ∙ x.2, x.3)
  sound_under (FileName.Del p s) v x = (x.0, image_under C F G p s x.0 (same (FileName.Seg p s) v) (same (FileName.Del p s) v) x.1)
  sound_under (FileName.Jix p s q) v x = (x.0, join_under F G p s q x.0 (same (FileName.Jix p s q) v) x.1)

  fault_under : (n : FileName) (f : Fault) → Survives C L n → FileFault F n f → FileFault G n f
  fault_under n f v (inl a) = inl (same n v ∙ a.0, a.1)
  fault_under n f v (inr a) = inr ((a.0.0, same n v ∙ a.0.1), a.1)

module _ (C : CatalogData) (F G : FileContents) (L : Sites) (same : SameSurvivors C L F G) where
  bad_under : (n : FileName) (f : Fault) → IsFirstBadFile C F L n f → IsFirstBadFile C G L n f
  bad_under n f b = record {
    survives = b.survives;
    bad = λ s. b.bad (sound_under C G F L (λ m v. sym (same m v)) n b.survives s);
    fault = fault_under C F G L same n f b.survives b.fault;
    before = λ m v e. sound_under C F G L same m v (b.before m v e);
  }

  pub verdict_under : (v : Verdict) → IsVerdict C F L v → IsVerdict C G L v
  verdict_under v (IsVerdict.bad_file n f b e) = IsVerdict.bad_file n f (bad_under n f b) e
  verdict_under v (IsVerdict.contents S w r k e) = IsVerdict.contents S w (reads_under C F G L S same r) k e

  rebuild_under : (v : Verdict) → IsRebuildVerdict C F L v → IsRebuildVerdict C G L v
  rebuild_under v (IsRebuildVerdict.site n e) = IsRebuildVerdict.site n e
  rebuild_under v (IsRebuildVerdict.unsafe n u e) = IsRebuildVerdict.unsafe n u e
  rebuild_under v (IsRebuildVerdict.safe n s w) = IsRebuildVerdict.safe n s (verdict_under v w)

  pub survivors_answer : (r : Result Files Fault) → IsRebuildAnswer C F L r → IsRebuildAnswer C G L r
  survivors_answer (Ok out) a = (a.0, rebuild_under (Ok a.0) a.1, record { contents = a.2.contents; reads = reads_under C F G L a.2.contents same a.2.reads; files = a.2.files })
  survivors_answer (Err e) (inl m) = inl m
  survivors_answer (Err e) (inr x) = inr (rebuild_under (Err e) x)
