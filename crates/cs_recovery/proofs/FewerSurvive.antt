-- A table that the survivors of a loss hold is held by the survivors of a larger loss.
use Rattle.std.proofs.Common.{◌≡◌, ℕ, ◌+◌, ◌<◌, List, map, refl, sym, ap, subst, ◌∙◌, Bool, true, false, Option, Some, None, length}
use Rattle.std.specs.Prelude.{slice_index}
use Rattle.std.specs.List.{slice_get}
use Rattle.std.specs.Option.{option_and_then, option_map_or}
use lib.Pointwise.{pointwise}
use Rattle.cs_schema.specs.declared.file_name.FileName.{FileName}
use Rattle.cs_schema.specs.CatalogData.{CatalogData, projection}
use Rattle.cs_schema.specs.CatalogRules.{IsCatalog}
use Rattle.cs_schema.specs.Rows.{Row, segment_of_row}
use Rattle.cs_schema.specs.Lists.{IsIn, numbers_below}
use Rattle.cs_schema.specs.FileNames.{Survives, FileContents, projection_of, segment_of}
use Rattle.cs_schema.specs.Losses.{Sites, lost}
use Rattle.cs_schema.specs.Order.{rows_of, index_of}
use Rattle.cs_delta.specs.Image.{ImageData, image_keys, position_of_key}
use Rattle.cs_jix.specs.JoinIndex.{Place, no_place}
use Rattle.cs_safety.specs.Within.{IsWithin}
use Rattle.cs_rows.specs.Walk.{Contents}
use Rattle.cs_recovery.specs.Contents.{IsImageOf, IsJoinOf, Reads}
use Rattle.cs_recovery.specs.Holding.{HoldsSurvivors, agrees}
use Rattle.cs_recovery.specs.Places.{image_after, place_of, entries_for}
use Rattle.cs_recovery.specs.Claims.{SameSurvivors}
use Rattle.cs_schema.proofs.RowOrder.{rows_of-are}
use Rattle.cs_schema.proofs.Lists.{in_at}
use Rattle.cs_safety.proofs.WithinSafe.{kept_within}
use Rattle.cs_recovery.proofs.Agreeing.{agrees_if, lost_agrees, dead_agrees, agree_map}
use Rattle.cs_recovery.proofs.Walks.{IsKeyed}
use Rattle.cs_recovery.proofs.RowPlaces.{kept_after, fresh_place, place}
use Rattle.cs_recovery.proofs.Exact.{Layers}

-- ---- files that are the same under surviving names

pub image_under : (C : CatalogData) (F G : FileContents) (p s : ℕ) (m : ImageData) → G (FileName.Seg p s) ≡ F (FileName.Seg p s) → G (FileName.Del p s) ≡ F (FileName.Del p s) → IsImageOf C F p s m → IsImageOf C G p s m
image_under C F G p s m a b i = record {
  segment_bytes = i.segment_bytes;
  delta_bytes = i.delta_bytes;
  base = i.base;
  changes = i.changes;
  has_segment = a ∙ i.has_segment;
  has_delta = b ∙ i.has_delta;
  segment_file = i.segment_file;
  delta_file = i.delta_file;
  can_merge = i.can_merge;
  image = i.image;
}

pub join_under : (F G : FileContents) (p s q : ℕ) (entries : List Place) → G (FileName.Jix p s q) ≡ F (FileName.Jix p s q) → IsJoinOf F p s q entries → IsJoinOf G p s q entries
join_under F G p s q entries a i = record { bytes = i.bytes; has_file = a ∙ i.has_file; file = i.file }

pub reads_under : (C : CatalogData) (F G : FileContents) (L : Sites) (S : Contents) → SameSurvivors C L F G → Reads C F L S → Reads C G L S
reads_under C F G L S same r = record {
  images = λ p s v. image_under C F G p s (S.image p s) (same (FileName.Seg p s) v) (same (FileName.Del p s) v) (r.images p s v);
  joins = λ p s q v. join_under F G p s q (S.join p s q) (same (FileName.Jix p s q) v) (r.joins p s q v);
}

-- ---- a larger loss

module _ (C : CatalogData) (cat : IsCatalog C) (layers : Layers C) (F : FileContents) (L M : Sites) (within : IsWithin L M) (T : List Row) (h : HoldsSurvivors C F L T) where
  abbrev S : Contents
  S = h.contents

  keyed : (p s : ℕ) → Survives C L (FileName.Seg p s) → IsKeyed (S.image p s)
  keyed p s v = layers.keyed F p s (S.image p s) (h.reads.images p s v)

  kept : (p s : ℕ) → lost C M p s ≡ false → lost C L p s ≡ false
  kept p s e = kept_within L M within (slice_index (projection C p).sites s) e

  survives : (n : FileName) → Survives C M n → Survives C L n
  survives n v = (v.0, kept (projection_of n) (segment_of n) v.1)

  module _ (q : ℕ) (r : Row) (hq : q < length C.projections) (i : IsIn r T) where
    abbrev t : ℕ
    t = segment_of_row C q r

    -- the entry of a row agrees under the larger loss too
    row_agrees : (e : Place) → agrees C L q e (place_of C L S T q r) ≡ true → agrees C M q e (place_of C M S T q r) ≡ true
    row_agrees e a = go (lost C M q t) refl
      where
        go : (b : Bool) → lost C M q t ≡ b → agrees C M q e (place_of C M S T q r) ≡ true
        go true x =
            let old = place C S T cat L h.table h.same keyed q r hq i in
            let new = fresh_place C S T cat L h.table h.same keyed q r hq i M x in
            let was : agrees_if (lost C L q t) e (t, old.key) ≡ true = subst (λ (w : Place). agrees_if (lost C L q t) e w ≡ true) old.is a in
            ap (λ b. agrees_if b e (place_of C M S T q r)) x ∙ ap (λ (w : Place). agrees_if true e w) new.is ∙ lost_agrees (lost C L q t) e t old.key new.key old.some new.some was
        go false x =
            let l : lost C L q t ≡ false = kept q t x in
            let same : image_after C M S T q t ≡ image_after C L S T q t = kept_after C S T M q t x ∙ sym (kept_after C S T L q t l) in
            ap (λ b. agrees_if b e (place_of C M S T q r)) (x ∙ sym l)
            ∙ ap (λ (m : ImageData). agrees_if (lost C L q t) e (t, option_map_or (λ i. slice_index (image_keys m) i) (index_of C T q r) 0)) same
            ∙ a

  abbrev entry_from : ℕ → ℕ → (Row → Place) → Option ℕ → Place
  entry_from p s f o = option_map_or f (option_and_then (slice_get (rows_of C T p s)) o) no_place

  position_agrees : (p s q : ℕ) (e : Place) → q < length C.projections → (o : Option ℕ) → agrees C L q e (entry_from p s (place_of C L S T q) o) ≡ true → agrees C M q e (entry_from p s (place_of C M S T q) o) ≡ true
  position_agrees p s q e hq None a = dead_agrees (lost C L q 0) (lost C M q 0) e a
  position_agrees p s q e hq (Some i) a = go (slice_get (rows_of C T p s) i) refl a
    where
      go : (x : Option Row) → slice_get (rows_of C T p s) i ≡ x → agrees C L q e (option_map_or (place_of C L S T q) x no_place) ≡ true → agrees C M q e (option_map_or (place_of C M S T q) (slice_get (rows_of C T p s) i) no_place) ≡ true
      go None x b = subst (λ w. agrees C M q e (option_map_or (place_of C M S T q) w no_place) ≡ true) (sym x) (dead_agrees (lost C L q 0) (lost C M q 0) e b)
      go (Some r) x b =
          let m = ((rows_of-are C T h.table p s).members r).0 (in_at (rows_of C T p s) i r x) in
          subst (λ w. agrees C M q e (option_map_or (place_of C M S T q) w no_place) ≡ true) (sym x) (row_agrees q r hq m.0 e b)

  -- the entries of a join index, given the image of its segment
  abbrev entries_from : Sites → ℕ → ℕ → ℕ → ImageData → List Place
  entries_from N p s q m = map (λ i. entry_from p s (place_of C N S T q) (position_of_key m (i + 1))) (numbers_below m.top)

  -- a join index that survives the larger loss agrees under that loss too
  join_agrees : (p s q : ℕ) → lost C M p s ≡ false → q < length C.projections → pointwise (agrees C L q) (S.join p s q) (entries_for C L S T p s q) ≡ true → pointwise (agrees C M q) (S.join p s q) (entries_for C M S T p s q) ≡ true
  join_agrees p s q e hq a =
      let m : ImageData = S.image p s in
      let here : pointwise (agrees C L q) (S.join p s q) (entries_from L p s q m) ≡ true = subst (λ x. pointwise (agrees C L q) (S.join p s q) (entries_from L p s q x) ≡ true) (kept_after C S T L p s (kept p s e)) a in
      let f : Sites → ℕ → Place = λ N i. entry_from p s (place_of C N S T q) (position_of_key m (i + 1)) in
      let there : pointwise (agrees C M q) (S.join p s q) (entries_from M p s q m) ≡ true =
      agree_map (agrees C L q) (agrees C M q) (f L) (f M) (S.join p s q) (numbers_below m.top) (λ i x c. position_agrees p s q x hq (position_of_key m (i + 1)) c) here in
      subst (λ x. pointwise (agrees C M q) (S.join p s q) (entries_from M p s q x) ≡ true) (sym (kept_after C S T M p s e)) there

  -- the files that survive the larger loss hold the table, whatever is under the other names
  pub fewer_hold : (G : FileContents) → SameSurvivors C M F G → HoldsSurvivors C G M T
  fewer_hold G same = record {
    table = h.table;
    fits = h.fits;
    contents = S;
    reads = reads_under C F G M S same (record { images = λ p s v. h.reads.images p s (survives (FileName.Seg p s) v); joins = λ p s q v. h.reads.joins p s q (survives (FileName.Jix p s q) v) });
    same = record {
      images = λ p s v. h.same.images p s (survives (FileName.Seg p s) v);
      joins = λ p s q v. join_agrees p s q v.1 ((cat.projections p v.0.0.0).joins q v.0.1).0 (h.same.joins p s q (survives (FileName.Jix p s q) v));
    };
  }
