-- All readings of the surviving files hold the same table, so each verdict is that table.
use Rattle.std.proofs.Common.{◌≡◌, ℕ, ◌+◌, ◌<◌, List, [], map, refl, sym, ap, ◌∙◌, Bool, true, false, cond, length, Ok, Err}
use Rattle.std.specs.Prelude.{slice_index}
use Rattle.std.specs.List.{slice_get}
use Rattle.std.specs.Option.{option_and_then, option_map_or}
use lib.Pointwise.{pointwise}
use Rattle.cs_schema.specs.declared.file_name.FileName.{FileName}
use Rattle.cs_schema.specs.CatalogData.{CatalogData, HasSegment}
use Rattle.cs_schema.specs.declared.kinds.Safety.{Safety}
use Rattle.cs_schema.specs.CatalogRules.{IsCatalog}
use Rattle.cs_schema.specs.Rows.{Row, segment_of_row, project}
use Rattle.cs_schema.specs.FileNames.{Survives, FileContents}
use Rattle.cs_schema.specs.Losses.{Sites, lost}
use Rattle.cs_schema.specs.Order.{rows_of, index_of}
use Rattle.cs_schema.specs.Lists.{numbers_below}
use Rattle.cs_delta.specs.Image.{ImageData, image_keys, position_of_key, fresh_image}
use Rattle.cs_jix.specs.JoinIndex.{Place, no_place}
use Rattle.cs_safety.specs.Safety.{IsSafe, IsSafeBy}
use Rattle.cs_rows.specs.Walk.{Contents}
use Rattle.cs_recovery.specs.Contents.{Reads}
use Rattle.cs_recovery.specs.Holding.{AreContentsOf, HoldsSurvivors, agrees}
use Rattle.cs_recovery.specs.Verdicts.{IsVerdict, IsWalkedBy, Verdict, judged}
use Rattle.cs_recovery.specs.Places.{image_after, place_of, entries_for}
use Rattle.cs_safety.proofs.AliveLemmas.{segment_below}
use Rattle.cs_recovery.proofs.Exact.{Layers, sound, judged_is, judged_by_rows}

-- the table of a verdict, or none
table_in : Verdict → List Row
table_in (Ok T) = T
table_in (Err f) = []

fun_path : {A B : Type 0} {f g : A → B} → ((x : A) → f x ≡ g x) → f ≡ g
fun_path h = λ i x. h x i

module _ (C : CatalogData) (cat : IsCatalog C) (layers : Layers C) (F : FileContents) (L : Sites) (S S' : Contents) (r : Reads C F L S) (r' : Reads C F L S') (T : List Row) where
  same_image : (p s : ℕ) → Survives C L (FileName.Seg p s) → S.image p s ≡ S'.image p s
  same_image p s h = layers.one_image F p s h.0 (S.image p s) (S'.image p s) (r.images p s h) (r'.images p s h)

  same_after : (p s : ℕ) → HasSegment C p s → image_after C L S T p s ≡ image_after C L S' T p s
  same_after p s h = go (lost C L p s) refl
    where
      go : (b : Bool) → lost C L p s ≡ b → image_after C L S T p s ≡ image_after C L S' T p s
      go true e =
          let x : ImageData = fresh_image (map (project C p) (rows_of C T p s)) in
          ap (λ b. cond b x (S.image p s)) e ∙ sym (ap (λ b. cond b x (S'.image p s)) e)
      go false e =
          let x : ImageData = fresh_image (map (project C p) (rows_of C T p s)) in
          ap (λ b. cond b x (S.image p s)) e ∙ same_image p s (h, e) ∙ sym (ap (λ b. cond b x (S'.image p s)) e)

  same_place : (q : ℕ) → q < length C.projections → (x : Row) → place_of C L S T q x ≡ place_of C L S' T q x
  same_place q h x =
      let t : ℕ = segment_of_row C q x in
      ap (λ m. (t, option_map_or (λ i. slice_index (image_keys m) i) (index_of C T q x) 0)) (same_after q t (h, segment_below C q x))

  pub same_entries : (p s q : ℕ) → HasSegment C p s → q < length C.projections → entries_for C L S T p s q ≡ entries_for C L S' T p s q
  same_entries p s q h k =
      let G : ImageData → (Row → Place) → List Place = λ m f. map (λ i. option_map_or f (option_and_then (slice_get (rows_of C T p s)) (position_of_key m (i + 1))) no_place) (numbers_below m.top) in
      let a = same_after p s h in
      let b : (λ x. place_of C L S T q x) ≡ (λ x. place_of C L S' T q x) = fun_path (same_place q k) in
      λ i. G (a i) (b i)

  -- what one reading of the files holds, each other reading holds
  pub same_contents : AreContentsOf C L S T → AreContentsOf C L S' T
  same_contents c = record {
    images = λ p s h. ap Rattle.cs_delta.specs.Image.image_rows (sym (same_image p s h)) ∙ c.images p s h;
    joins = λ p s q h.
        let e : S.join p s q ≡ S'.join p s q = layers.one_join F p s q (S.join p s q) (S'.join p s q) (r.joins p s q h) (r'.joins p s q h) in
        let k : q < length C.projections = ((cat.projections p h.0.0.0).joins q h.0.1).0 in
        let f = same_entries p s q h.0.0 k in
        sym (λ i. pointwise (agrees C L q) (e i) (f i)) ∙ c.joins p s q h;
  }

module _ (C : CatalogData) (cat : IsCatalog C) (layers : Layers C) (F : FileContents) (L : Sites) (safe : IsSafe C L) where
  -- If the surviving files of a safe loss hold a table, every verdict on them is that table.
  pub verdict_is : (T : List Row) → HoldsSurvivors C F L T → (v : Verdict) → IsVerdict C F L v → v ≡ Ok T
  verdict_is T h v (IsVerdict.bad_file n f b e) = absurd (b.bad (sound C cat layers F L h.contents h.reads n b.survives))
  verdict_is T h v (IsVerdict.contents S w r by e) = go C.safety safe by
    where
      go : (rule : Safety) → IsSafeBy rule C L → IsWalkedBy rule C L S w → v ≡ Ok T
      go Safety.Whole s x = e ∙ ap (judged C L S) x.2 ∙ judged_is C cat layers F L S T x.0 r h.table h.fits (same_contents C cat layers F L h.contents S h.reads r T h.same) x.1
      go Safety.Rows s x = e ∙ ap (judged C L S) x ∙ judged_by_rows C cat layers F L S T r h.table h.fits (same_contents C cat layers F L h.contents S h.reads r T h.same) s

  -- So the surviving files hold at most one table if they have a verdict.
  pub one_table : (T U : List Row) → HoldsSurvivors C F L T → HoldsSurvivors C F L U → (v : Verdict) → IsVerdict C F L v → T ≡ U
  unfolding table_in
  one_table T U h k v i = ap table_in (sym (verdict_is T h v i) ∙ verdict_is U k v i)
