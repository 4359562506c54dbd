-- The entry for a key under each loss.
use Rattle.std.proofs.Common.{◌≡◌, ℕ, ◌+◌, ◌<◌, ◌≤◌, List, length, map, refl, sym, ap, subst, ◌∙◌, Bool, true, false, inl, inr, ◌⊎◌, Option, Some, None, arith}
use Rattle.std.specs.Prelude.{slice_index}
use Rattle.std.specs.List.{slice_get}
use Rattle.std.proofs.lemmas.List.{length-map}
use Rattle.std.proofs.lemmas.Option.{slice_get_within}
use Rattle.cs_schema.specs.declared.file_name.FileName.{FileName}
use Rattle.cs_schema.specs.CatalogData.{CatalogData, HasSegment}
use Rattle.cs_schema.specs.FileNames.{Survives}
use Rattle.cs_schema.specs.Lists.{member}
use Rattle.cs_schema.specs.Losses.{Sites, lost}
use Rattle.cs_schema.specs.Order.{rows_of}
use Rattle.cs_schema.specs.Rows.{Row, project}
use Rattle.cs_schema.proofs.Ascending.{false≢true}
use Rattle.cs_delta.specs.Image.{Pair, image_keys, position_of_key}
use Rattle.cs_jix.specs.JoinIndex.{Place, no_place}
use Rattle.cs_order.specs.Tables.{table_of}
use Rattle.cs_rows.specs.Walk.{Contents}
use Rattle.cs_safety.specs.Within.{IsWithin}
use Rattle.cs_recovery.specs.Conflicts.{site_of}
use Rattle.cs_recovery.specs.Holding.{agrees}
use Rattle.cs_recovery.specs.Places.{image_after, place_of, entry_for}
use Rattle.cs_recovery.proofs.Agreeing.{agrees_if, dead_is, placed_is, kept_is, lost_place, kept_place}
use Rattle.cs_rebuild.proofs.Indexes.{is_fresh, is_kept, place_there, entry_there, fresh_key}
use Rattle.cs_diagnosis.specs.Conflicts.{AreImagesOfRows, IsKeyConflict}

-- a site that a larger loss lacks, a smaller one lacks
pub not_lost : (first L : Sites) → IsWithin first L → (x : ℕ) → member L x ≡ false → member first x ≡ false
not_lost first L around x gone = go (member first x) refl
  where
    go : (b : Bool) → member first x ≡ b → b ≡ false
    go false e = refl
    go true e = false≢true (sym gone ∙ around x e)

none_agrees : (b : Bool) → agrees_if b no_place no_place ≡ true
none_agrees true = refl
none_agrees false = refl

-- ---- what is known of a store's table, of which only `walked` and the survivors' contents matter

module _ (C : CatalogData) (first : Sites) (S : Contents) (walked : List Row) where
  abbrev T : List Row
  T = table_of C walked

  -- the keys of images are at least 1
  abbrev pub AreKeysPositive : Type 0
  AreKeysPositive = (q t i : ℕ) → Survives C first (FileName.Seg q t) → i < length (S.image q t).pairs → 1 ≤ slice_index (image_keys (S.image q t)) i

  module _ (p s q key : ℕ) (entry : Place) where
    abbrev own : ℕ
    own = site_of C (FileName.Seg p s)

    module _ (L : Sites) (gone : member L own ≡ false) where
      -- the entry for a dead key is no place
      dead_key : position_of_key (image_after C first S T p s) key ≡ None → member first own ≡ false → entry_for C L S T p s q key ≡ no_place
      dead_key none kept =
          ap (λ m. by_position (position_of_key m key)) (is_kept C walked L S p s gone ∙ sym (is_kept C walked first S p s kept)) ∙ ap by_position none
        where
          by_position : Option ℕ → Place
          by_position o = Rattle.std.specs.Option.option_map_or (λ r. place_of C L S T q r) (Rattle.std.specs.Option.option_and_then (slice_get (rows_of C T p s)) o) no_place

    -- there is no conflict if the entry for a dead key is no place
    pub dead_none : position_of_key (image_after C first S T p s) key ≡ None → entry ≡ no_place → IsKeyConflict C first S T p s q key entry None
    dead_none none same = record {
      told = λ L around gone images.
          let e = dead_key L gone none (not_lost first L around own gone) in
          subst (λ (x : Place). agrees C L q x (entry_for C L S T p s q key) ≡ true) (sym same) (ap (λ (x : Place). agrees C L q no_place x) e ∙ none_agrees (lost C L q 0));
    }

    pub dead_some : position_of_key (image_after C first S T p s) key ≡ None → (entry ≡ no_place → ⊥) → IsKeyConflict C first S T p s q key entry (Some own)
    dead_some none other = record {
      told = λ L around gone images.
          let e = dead_key L gone none (not_lost first L around own gone) in
          (λ here. false≢true (sym gone ∙ here), λ a. absurd (other (dead_is (lost C L q 0) entry (sym (ap (λ (x : Place). agrees C L q entry x) e) ∙ a))));
    }

    -- ---- the row at a live key

    module _ (i : ℕ) (live : position_of_key (image_after C first S T p s) key ≡ Some i) where
      live_at : (L : Sites) → IsWithin first L → member L own ≡ false → position_of_key (image_after C L S T p s) key ≡ Some i
      live_at L around gone = ap (λ m. position_of_key m key) (is_kept C walked L S p s gone ∙ sym (is_kept C walked first S p s (not_lost first L around own gone))) ∙ live

      -- a key past the rows of the table: the image has other rows
      pub past : (there : HasSegment C p s) → (i < length (S.image p s).pairs) → (length (rows_of C T p s) ≤ i) → IsKeyConflict C first S T p s q key entry (Some own)
      past there inside beyond = record {
        told = λ L around gone images.
            let rows = ap length (images p s (there, gone)) in
            let long = length-map (S.image p s).pairs (λ (x : Pair). x.1) in
            let many = length-map (rows_of C T p s) (project C p) in
            absurd (omega (arith, inside, beyond, rows, long, many));
      }

      module _ (r : Row) (row : slice_get (rows_of C T p s) i ≡ Some r) (t j : ℕ) (at : slice_get (rows_of C T q t) j ≡ Some r) (there : HasSegment C q t) (positive : AreKeysPositive) where
        abbrev pub key_in : Sites → ℕ
        key_in N = slice_index (image_keys (image_after C N S T q t)) j

        entry_is : (L : Sites) → IsWithin first L → member L own ≡ false → entry_for C L S T p s q key ≡ (t, key_in L)
        entry_is L around gone = entry_there C walked L S p s q key i (live_at L around gone) r row ∙ place_there C walked L S q t j r at

        below : j < length (rows_of C T q t)
        below = slice_get_within (rows_of C T q t) j r at

        fresh_in : (L : Sites) → lost C L q t ≡ true → 1 ≤ key_in L
        fresh_in L e =
            let cells = map (project C q) (rows_of C T q t) in
            let long = length-map (rows_of C T q t) (project C q) in
            let k : key_in L ≡ j + 1 = ap (λ m. slice_index (image_keys m) j) (is_fresh C walked L S q t e) ∙ fresh_key cells j (omega (arith, below, long)) in
            omega (arith, k)

        kept_in : (L : Sites) → lost C L q t ≡ false → key_in L ≡ slice_index (image_keys (S.image q t)) j
        kept_in L e = ap (λ m. slice_index (image_keys m) j) (is_kept C walked L S q t e)

        some_in : (L : Sites) → IsWithin first L → AreImagesOfRows C L S T → 1 ≤ key_in L
        some_in L around images = go (lost C L q t) refl
          where
            go : (b : Bool) → lost C L q t ≡ b → 1 ≤ key_in L
            go true e = fresh_in L e
            go false e =
                let rows = ap length (images q t (there, e)) in
                let long = length-map (S.image q t).pairs (λ (x : Pair). x.1) in
                let many = length-map (rows_of C T q t) (project C q) in
                let one = positive q t j (there, not_lost first L around (site_of C (FileName.Seg q t)) e) (omega (arith, below, rows, long, many)) in
                subst (λ n. 1 ≤ n) (sym (kept_in L e)) one

        agrees_is : (L : Sites) → IsWithin first L → member L own ≡ false → agrees C L q entry (entry_for C L S T p s q key) ≡ agrees_if (lost C L q t) entry (t, key_in L)
        agrees_is L around gone = ap (λ (x : Place). agrees C L q entry x) (entry_is L around gone)

        -- an entry that names another segment, or no key
        pub wrong : (entry.0 ≡ t → ⊥) ⊎ (entry.1 ≡ 0) → IsKeyConflict C first S T p s q key entry (Some own)
        wrong bad = record {
          told = λ L around gone images. (
            λ here. false≢true (sym gone ∙ here),
            λ a. absurd (no bad (placed_is (lost C L q t) entry t (key_in L) (some_in L around images) (sym (agrees_is L around gone) ∙ a))),
          );
        }
          where
            no : (entry.0 ≡ t → ⊥) ⊎ (entry.1 ≡ 0) → (entry.0 ≡ t) × (1 ≤ entry.1) → ⊥
            no (inl other) x = other x.0
            no (inr none) x = absurd (let y = x.1 in omega (arith, none, y))

        module _ (segment : entry.0 ≡ t) (some : 1 ≤ entry.1) where
          in_lost : (L : Sites) → IsWithin first L → member L own ≡ false → lost C L q t ≡ true → agrees C L q entry (entry_for C L S T p s q key) ≡ true
          in_lost L around gone e =
              agrees_is L around gone ∙ ap (λ b. agrees_if b entry (t, key_in L)) e ∙ lost_place entry t (key_in L) (fresh_in L e) segment some

          -- an entry with the row's key; any key is right if the row's segment is lost
          pub right : entry.1 ≡ key_in first → IsKeyConflict C first S T p s q key entry None
          right same = record { told = λ L around gone images. go L around gone (lost C L q t) refl }
            where
              go : (L : Sites) → IsWithin first L → member L own ≡ false → (b : Bool) → lost C L q t ≡ b → agrees C L q entry (entry_for C L S T p s q key) ≡ true
              go L around gone true e = in_lost L around gone e
              go L around gone false e =
                  let k : key_in first ≡ key_in L = kept_in first (not_lost first L around (site_of C (FileName.Seg q t)) e) ∙ sym (kept_in L e) in
                  agrees_is L around gone ∙ ap (λ b. agrees_if b entry (t, key_in L)) e ∙ kept_place entry t (key_in L) segment (same ∙ k)

          pub lost_first : lost C first q t ≡ true → IsKeyConflict C first S T p s q key entry None
          lost_first e = record { told = λ L around gone images. in_lost L around gone (around (site_of C (FileName.Seg q t)) e) }

          -- an entry with another key than the row's: it is right only if the row's segment is lost
          pub other : (entry.1 ≡ key_in first → ⊥) → IsKeyConflict C first S T p s q key entry (Some (site_of C (FileName.Seg q t)))
          other differs = record { told = λ L around gone images. (λ here. in_lost L around gone here, λ a. go L around gone a (lost C L q t) refl) }
            where
              go : (L : Sites) → IsWithin first L → member L own ≡ false → agrees C L q entry (entry_for C L S T p s q key) ≡ true → (b : Bool) → lost C L q t ≡ b → b ≡ true
              go L around gone a true e = refl
              go L around gone a false e =
                  let k : key_in first ≡ key_in L = kept_in first (not_lost first L around (site_of C (FileName.Seg q t)) e) ∙ sym (kept_in L e) in
                  let same : entry.1 ≡ key_in L = kept_is entry t (key_in L) (sym (ap (λ b. agrees_if b entry (t, key_in L)) e) ∙ sym (agrees_is L around gone) ∙ a) in
                  absurd (differs (same ∙ sym k))
