-- The entries of a join index under each loss.
use Rattle.std.proofs.Common.{◌≡◌, ◌≢◌, ℕ, ◌+◌, ◌<◌, List, [], length, refl, sym, ap, subst, ◌∙◌, Bool, true, false, ◌||◌, ◌==◌, eqb-true, eq-eqb, inl, inr, ◌⊎◌, Some, None, arith, get_or}
use Rattle.std.specs.Prelude.{◌↔◌, IsTrue}
use lib.Pointwise.{pointwise}
use Rattle.cs_schema.specs.declared.file_name.FileName.{FileName}
use Rattle.cs_schema.specs.CatalogData.{CatalogData}
use Rattle.cs_schema.specs.Lists.{member}
use Rattle.cs_schema.specs.Losses.{Sites}
use Rattle.cs_schema.specs.Rows.{Row}
use Rattle.cs_schema.proofs.Ascending.{false≢true}
use Rattle.cs_jix.specs.JoinIndex.{Place, no_place}
use Rattle.cs_order.specs.Tables.{table_of}
use Rattle.cs_rows.specs.Walk.{Contents}
use Rattle.cs_safety.specs.Within.{IsWithin}
use Rattle.cs_recovery.specs.Conflicts.{site_of}
use Rattle.cs_recovery.specs.Holding.{agrees}
use Rattle.cs_recovery.specs.Places.{image_after, entry_for}
use Rattle.cs_rebuild.proofs.Entries.{agree, agreed, other_length}
use Rattle.cs_rebuild.proofs.Indexes.{is_kept}
use Rattle.cs_rebuild.proofs.Numbers.{by_equal}
use Rattle.cs_diagnosis.specs.Conflicts.{AreImagesOfRows, IsKeyConflict, IsJoinConflict}
use Rattle.cs_diagnosis.proofs.Keys.{not_lost}

either_one : (a b : Bool) → (a || b) ≡ true → (a ≡ true) ⊎ (b ≡ true)
either_one true b e = inl refl
either_one false b e = inr e

first_one : (a b : Bool) → a ≡ true → (a || b) ≡ true
first_one true b e = refl
first_one false b e = false≢true e

second_one : (a b : Bool) → b ≡ true → (a || b) ≡ true
second_one true b e = refl
second_one false b e = e

-- a loss contains another with one more site if it contains that site and the others
pub within_more : (L others more : Sites) (y : ℕ) → ((x : ℕ) → member more x ≡ (x == y || member others x)) → IsWithin more L ↔ (IsWithin others L × IsTrue (member L y))
within_more L others more y members = (
  λ within. (
    λ x m. within x (members x ∙ second_one (x == y) (member others x) m),
    within y (members y ∙ first_one (y == y) (member others y) (eq-eqb y y refl)),
  ),
  λ both x m. elim (either_one (x == y) (member others x) (sym (members x) ∙ m)) [
    | inl same ↦ subst (λ z. IsTrue (member L z)) (sym (eqb-true x y same)) both.1
    | inr here ↦ both.0 x here
  ],
)

-- a loss contains the loss of one site if it contains that site
pub within_alone : (L alone : Sites) (y : ℕ) → ((x : ℕ) → member alone x ≡ (x == y)) → IsWithin alone L ↔ IsTrue (member L y)
within_alone L alone y members = (
  λ within. within y (members y ∙ eq-eqb y y refl),
  λ here x m. subst (λ z. IsTrue (member L z)) (sym (eqb-true x y (sym (members x) ∙ m))) here,
)

module _ (C : CatalogData) (first : Sites) (S : Contents) (walked : List Row) (p s q : ℕ) (join : List Place) where
  abbrev T : List Row
  T = table_of C walked

  abbrev own : ℕ
  own = site_of C (FileName.Seg p s)

  abbrev At : Sites → ℕ → Bool
  At L m = agrees C L q (get_or join m no_place) (entry_for C L S T p s q (m + 1))

  -- under each loss, the entries of the first i keys agree with the places of their rows exactly if these sites are
  -- lost
  abbrev pub AgreeBelow : ℕ → Sites → Type 0
  AgreeBelow i others = (L : Sites) → IsWithin first L → member L own ≡ false → AreImagesOfRows C L S T → IsWithin others L ↔ ((m : ℕ) → m < i → At L m ≡ true)

  pub none_below : AgreeBelow 0 []
  none_below L around gone images = (λ w m l. absurd (omega (arith, l)), λ f x m. false≢true m)

  module _ (i : ℕ) (others : Sites) (below : AgreeBelow i others) where
    pub agrees_too : IsKeyConflict C first S T p s q (i + 1) (get_or join i no_place) None → AgreeBelow (i + 1) others
    agrees_too k L around gone images =
        let now = below L around gone images in (
          λ w m l. by_equal m i (λ e. subst (λ n. At L n ≡ true) (sym e) (k.told L around gone images)) (λ n. now.0 w m (omega (arith, l, n))),
          λ f. now.1 (λ m l. f m (omega (arith, l))),
        )

    pub conflicts_too : (y : ℕ) → IsKeyConflict C first S T p s q (i + 1) (get_or join i no_place) (Some y) → (more : Sites) → ((x : ℕ) → member more x ≡ (x == y || member others x)) → AgreeBelow (i + 1) more
    conflicts_too y k more members L around gone images =
        let now = below L around gone images in
        let one = k.told L around gone images in
        let grown = within_more L others more y members in (
          λ w m l. let both = grown.0 w in by_equal m i (λ e. subst (λ n. At L n ≡ true) (sym e) (one.0 both.1)) (λ n. now.0 both.0 m (omega (arith, l, n))),
          λ f. grown.1 (now.1 (λ m l. f m (omega (arith, l))), one.1 (f i (omega arith))),
        )

  -- ---- the whole join index

  abbrev top : ℕ
  top = (image_after C first S T p s).top

  module _ (is : join ≡ S.join p s q) where
    abbrev LeadsBeside : Sites → Type 0
    LeadsBeside L = pointwise (agrees C L q) (S.join p s q) (Rattle.cs_recovery.specs.Places.entries_for C L S T p s q) ≡ true

    same_top : (L : Sites) → IsWithin first L → member L own ≡ false → top ≡ (image_after C L S T p s).top
    same_top L around gone = ap (λ (m : Rattle.cs_delta.specs.Image.ImageData). m.top) (is_kept C walked first S p s (not_lost first L around own gone) ∙ sym (is_kept C walked L S p s gone))

    from_join : (L : Sites) (b : Bool) → pointwise (agrees C L q) join (Rattle.cs_recovery.specs.Places.entries_for C L S T p s q) ≡ b → pointwise (agrees C L q) (S.join p s q) (Rattle.cs_recovery.specs.Places.entries_for C L S T p s q) ≡ b
    from_join L b e = ap (λ xs. pointwise (agrees C L q) xs (Rattle.cs_recovery.specs.Places.entries_for C L S T p s q)) (sym is) ∙ e

    module _ (alone : Sites) (members : (x : ℕ) → member alone x ≡ (x == own)) where
      -- a join index with another number of entries
      pub short : length join ≢ top → IsJoinConflict C first S T (p, s, q) (own, alone)
      short other = record {
        site = refl;
        told = λ L around gone images. (
          λ w. false≢true (sym gone ∙ (within_alone L alone own members).0 w),
          λ leads. false≢true (sym (from_join L false (other_length (agrees C L q) (λ i. entry_for C L S T p s q (i + 1)) join no_place no_place (image_after C L S T p s).top (λ e. other (e ∙ sym (same_top L around gone))))) ∙ leads),
        );
      }

      -- a join index with an entry that no key could correct
      pub contradicts : (i : ℕ) → i < top → IsKeyConflict C first S T p s q (i + 1) (get_or join i no_place) (Some own) → IsJoinConflict C first S T (p, s, q) (own, alone)
      contradicts i l k = record {
        site = refl;
        told = λ L around gone images. (
          λ w. false≢true (sym gone ∙ (within_alone L alone own members).0 w),
          λ leads. go L around gone images leads (At L i) refl,
        );
      }
        where
          go : (L : Sites) → IsWithin first L → member L own ≡ false → AreImagesOfRows C L S T → LeadsBeside L → (b : Bool) → At L i ≡ b → IsWithin alone L
          go L around gone images leads true e = false≢true (sym gone ∙ (k.told L around gone images).1 e)
          go L around gone images leads false e =
              let inside : i < (image_after C L S T p s).top = omega (arith, l, same_top L around gone) in
              false≢true (sym e ∙ agreed (agrees C L q) (λ j. entry_for C L S T p s q (j + 1)) join no_place no_place (image_after C L S T p s).top (ap (λ xs. pointwise (agrees C L q) xs (Rattle.cs_recovery.specs.Places.entries_for C L S T p s q)) is ∙ leads) i inside)

    -- a join index all of whose entries were compared
    pub whole : length join ≡ top → (others : Sites) → AgreeBelow top others → IsJoinConflict C first S T (p, s, q) (own, others)
    whole long others below = record {
      site = refl;
      told = λ L around gone images. (
        λ w. from_join L true (agree (agrees C L q) (λ j. entry_for C L S T p s q (j + 1)) join no_place no_place (image_after C L S T p s).top (long ∙ same_top L around gone) (λ m l. (below L around gone images).0 w m (omega (arith, l, same_top L around gone)))),
        λ leads. (below L around gone images).1 (λ m l.
            let inside : m < (image_after C L S T p s).top = omega (arith, l, same_top L around gone) in
            agreed (agrees C L q) (λ j. entry_for C L S T p s q (j + 1)) join no_place no_place (image_after C L S T p s).top (ap (λ xs. pointwise (agrees C L q) xs (Rattle.cs_recovery.specs.Places.entries_for C L S T p s q)) is ∙ leads) m inside),
      );
    }
