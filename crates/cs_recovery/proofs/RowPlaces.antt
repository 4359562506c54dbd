-- The place of a row of a table: by its number if its segment is lost, else by its key in the image.
use Rattle.std.proofs.Common.{◌≡◌, ℕ, zero, suc, ◌+◌, ◌<◌, ◌≤◌, List, [], ◌∷◌, map, refl, ap, ◌∙◌, Bool, true, false, cond, Option, Some, length, arith}
use Rattle.std.specs.Prelude.{slice_index}
use Rattle.std.specs.List.{slice_get, enumerate_from}
use Rattle.std.specs.Option.{option_map_or}
use Rattle.std.proofs.lemmas.Option.{get_or_from_slice_get, slice_get_within}
use Rattle.cs_schema.specs.declared.cells.Value.{Value}
use Rattle.cs_schema.specs.declared.file_name.FileName.{FileName}
use Rattle.cs_schema.specs.CatalogData.{CatalogData}
use Rattle.cs_schema.specs.CatalogRules.{IsCatalog}
use Rattle.cs_schema.specs.Rows.{Row, IsTable, segment_of_row, project}
use Rattle.cs_schema.specs.Lists.{IsIn}
use Rattle.cs_schema.specs.FileNames.{Survives}
use Rattle.cs_schema.specs.Losses.{Sites, lost}
use Rattle.cs_schema.specs.Order.{rows_of, index_of}
use Rattle.cs_delta.specs.Image.{Pair, ImageData, image_keys, fresh_image}
use Rattle.cs_rows.specs.Walk.{Contents}
use Rattle.cs_recovery.specs.Holding.{AreContentsOf}
use Rattle.cs_recovery.specs.Places.{image_after, place_of}
use Rattle.cs_schema.proofs.Lists.{slice_get_map}
use Rattle.cs_safety.proofs.AliveLemmas.{segment_below}
use Rattle.cs_recovery.proofs.Walks.{IsKeyed, has_index, has_key}

fresh_key : (n : ℕ) (xs : List (List Value)) (j : ℕ) → j < length xs → slice_get (map (λ (x : Pair). x.0) (enumerate_from n xs)) j ≡ Some (n + j)
fresh_key n [] j l = absurd (omega arith)
fresh_key n (x ∷ xs) zero l = ap Some (omega arith)
fresh_key n (x ∷ xs) (suc j) l = fresh_key (n + 1) xs j (omega arith) ∙ ap Some (omega arith)

-- the place of a row of the table, and its key
pub record IsPlaced (C : CatalogData) (N : Sites) (S : Contents) (T : List Row) (q : ℕ) (r : Row) : Type 0 where
  pub key : ℕ
  pub some : 1 ≤ key
  pub is : place_of C N S T q r ≡ (segment_of_row C q r, key)

-- the index and the key of a row of the table in an image that is kept
pub record IsKept (C : CatalogData) (S : Contents) (T : List Row) (q : ℕ) (r : Row) : Type 0 where
  pub index : ℕ
  pub key : ℕ
  pub some : 1 ≤ key
  pub of_row : index_of C T q r ≡ Some index
  pub at : slice_get (image_keys (S.image q (segment_of_row C q r))) index ≡ Some key

module _ (C : CatalogData) (S : Contents) (T : List Row) where
  abbrev fresh : ℕ → ℕ → ImageData
  fresh p s = fresh_image (map (project C p) (rows_of C T p s))

  pub kept_after : (N : Sites) (p s : ℕ) → lost C N p s ≡ false → image_after C N S T p s ≡ S.image p s
  kept_after N p s e = ap (λ b. cond b (fresh p s) (S.image p s)) e

  fresh_after : (N : Sites) (p s : ℕ) → lost C N p s ≡ true → image_after C N S T p s ≡ fresh p s
  fresh_after N p s e = ap (λ b. cond b (fresh p s) (S.image p s)) e

  place_from : (N : Sites) (q : ℕ) (r : Row) (m : ImageData) (j n : ℕ) → index_of C T q r ≡ Some j → image_after C N S T q (segment_of_row C q r) ≡ m → slice_get (image_keys m) j ≡ Some n → place_of C N S T q r ≡ (segment_of_row C q r, n)
  place_from N q r m j n a b c =
      let t : ℕ = segment_of_row C q r in
      let f : List ℕ → Option ℕ → ℕ = λ ks o. option_map_or (λ i. slice_index ks i) o 0 in
      ap (λ v. (t, v)) (ap (f (image_keys (image_after C N S T q t))) a ∙ ap (λ w. f (image_keys w) (Some j)) b ∙ get_or_from_slice_get (image_keys m) j n 0 c)

  -- if a row's image is kept after a loss, the row has its key there
  pub place_kept : (N : Sites) (q : ℕ) (r : Row) (k : IsKept C S T q r) → lost C N q (segment_of_row C q r) ≡ false → place_of C N S T q r ≡ (segment_of_row C q r, k.key)
  place_kept N q r k e = place_from N q r (S.image q (segment_of_row C q r)) k.index k.key k.of_row (kept_after N q (segment_of_row C q r) e) k.at

  module _ (cat : IsCatalog C) (L : Sites) (table : IsTable C T) (same : AreContentsOf C L S T) (keyed : (p s : ℕ) → Survives C L (FileName.Seg p s) → IsKeyed (S.image p s)) (q : ℕ) (r : Row) (hq : q < length C.projections) (i : IsIn r T) where
    abbrev t : ℕ
    t = segment_of_row C q r

    -- if its segment is lost, by its number there
    pub fresh_place : (N : Sites) → lost C N q t ≡ true → IsPlaced C N S T q r
    fresh_place N e =
        let j = has_index C cat L S T table same keyed q r i in
        let below : j.index < length (map (project C q) (rows_of C T q t)) = slice_get_within (map (project C q) (rows_of C T q t)) j.index (project C q r) (slice_get_map (project C q) (rows_of C T q t) j.index r j.at) in
        record { key = 1 + j.index; some = omega arith; is = place_from N q r (fresh q t) j.index (1 + j.index) j.is (fresh_after N q t e) (fresh_key 1 (map (project C q) (rows_of C T q t)) j.index below) }

    -- if it is not, by its key in the image
    pub kept_row : lost C L q t ≡ false → IsKept C S T q r
    kept_row l =
        let v : Survives C L (FileName.Seg q t) = ((hq, segment_below C q r), l) in
        let j = has_index C cat L S T table same keyed q r i in
        let k = has_key C cat L S T table same keyed q t j.index r v j.at in
        record { index = j.index; key = k.key; some = ((keyed q t v).range j.index k.key k.at).0; of_row = j.is; at = k.at }

    pub place : IsPlaced C L S T q r
    place = go (lost C L q t) refl
      where
        go : (b : Bool) → lost C L q t ≡ b → IsPlaced C L S T q r
        go true e = fresh_place L e
        go false e = let k = kept_row e in record { key = k.key; some = k.some; is = place_kept L q r k e }
