-- If files hold a table, the walk from an anchor row finds one row of the table, with all its cells.
use Rattle.std.proofs.Common.{◌≡◌, ℕ, zero, suc, ◌+◌, ◌<◌, ◌≤◌, List, [], ◌∷◌, map, refl, sym, ap, subst, ◌∙◌, Bool, true, false, not, cond, ◌&&◌, ◌||◌, inl, inr, Option, Some, None, length, arith, ◌==◌, eqb-true}
use Rattle.std.specs.Prelude.{slice_index, IsTrue}
use Rattle.std.specs.List.{slice_get, position_or_len, list_any}
use Rattle.std.specs.Option.{option_map, option_and_then, option_map_or}
use Rattle.std.specs.Cmp.{Equal-is}
use Rattle.std.proofs.lemmas.Option.{get_or_from_slice_get}
use borrow.Author.Tests.{lt-ltb}
use Rattle.cs_schema.specs.declared.file_name.FileName.{FileName}
use Rattle.cs_schema.specs.CatalogData.{CatalogData, segments}
use Rattle.cs_schema.specs.CatalogRules.{IsCatalog}
use Rattle.cs_schema.specs.Rows.{Row, IsTable, segment_of_row, project, key_cmp}
use Rattle.cs_schema.specs.Lists.{IsIn}
use Rattle.cs_schema.specs.FileNames.{Survives}
use Rattle.cs_schema.specs.Losses.{Sites, alive, lost}
use Rattle.cs_schema.specs.Order.{rows_of, index_of, is_row}
use Rattle.cs_delta.specs.Image.{ImageData, Pair, image_keys, image_rows, position_of_key}
use Rattle.cs_jix.specs.JoinIndex.{Place, no_place, entry_at, placed_entry}
use Rattle.cs_safety.proofs.AliveLemmas.{segment_below, alive_kept}
use Rattle.cs_safety.specs.Paths.{Step}
use Rattle.cs_rows.specs.Walk.{Contents, At, landed, entry_of, follow}
use Rattle.cs_recovery.specs.Holding.{AreContentsOf, agrees}
use Rattle.cs_recovery.specs.Places.{image_after, place_of, entry_for, entries_for}
use Rattle.cs_schema.proofs.Ascending.{false≢true}
use Rattle.cs_schema.proofs.RowOrder.{rows_of-are, tied_same, key_total}
use Rattle.cs_schema.proofs.Lists.{in_at, found_first, position_first, agreed_at, slice_get-made, slice_get_map, before_map}
use Rattle.cs_safety.proofs.Distances.{differs}

-- the keys of an image are distinct, and are from 1 to its top
pub record IsKeyed (m : ImageData) : Type 0 where
  pub found : (i k : ℕ) → slice_get (image_keys m) i ≡ Some k → position_of_key m k ≡ Some i
  pub range : (i k : ℕ) → slice_get (image_keys m) i ≡ Some k → (1 ≤ k) × (k ≤ m.top)

not-true : (b : Bool) → not b ≡ true → b ≡ false
not-true true e = false≢true e
not-true false e = refl

none_passes : {X : Type 0} (p : X → Bool) (xs : List X) → list_any p xs ≡ false → (x : X) → IsIn x xs → p x ≡ false
none_passes p [] e x h = absurd h
none_passes p (y ∷ ys) e x h = go (p y) refl e h (λ f k. none_passes p ys f x k)
  where
    go : (b : Bool) → p y ≡ b → (b || list_any p ys) ≡ false → IsIn x (y ∷ ys) → (list_any p ys ≡ false → IsIn x ys → p x ≡ false) → p x ≡ false
    go true k f h r = false≢true (sym f)
    go false k f (inl a) r = ap p a ∙ k
    go false k f (inr m) r = r f m

module _ (C : CatalogData) (cat : IsCatalog C) (L : Sites) (S : Contents) (T : List Row) (table : IsTable C T) (same : AreContentsOf C L S T) (keyed : (p s : ℕ) → Survives C L (FileName.Seg p s) → IsKeyed (S.image p s)) where
  -- the index of a row of the table in its segment
  pub record HasIndex (q : ℕ) (r : Row) : Type 0 where
    pub index : ℕ
    pub is : index_of C T q r ≡ Some index
    pub at : slice_get (rows_of C T q (segment_of_row C q r)) index ≡ Some r

  pub has_index : (q : ℕ) (r : Row) → IsIn r T → HasIndex q r
  has_index q r h =
      let xs : List Row = rows_of C T q (segment_of_row C q r) in
      let are = rows_of-are C T table q (segment_of_row C q r) in
      let i : IsIn r xs = (are.members r).1 (h, refl) in
      let self : is_row C r r ≡ true = (Equal-is (key_cmp C r r)).1 (Rattle.std.specs.Cmp.tied_itself (key_total C) r) in
      let f = found_first (is_row C r) xs r i self in
      let there : IsIn f.item T = ((are.members f.item).0 (in_at xs (position_or_len (is_row C r) xs) f.item f.at)).0 in
      let e : r ≡ f.item = tied_same (key_cmp C) (key_total C) T table.keys r f.item h there ((Equal-is (key_cmp C r f.item)).0 f.passes) in
      record { index = position_or_len (is_row C r) xs; is = position_first (is_row C r) xs f.below; at = f.at ∙ ap Some (sym e) }

  -- the key and the cells of a row in its image
  pub record HasKey (p s i : ℕ) (r : Row) : Type 0 where
    pub key : ℕ
    pub at : slice_get (image_keys (S.image p s)) i ≡ Some key
    pub cells : slice_get (image_rows (S.image p s)) i ≡ Some (project C p r)

  pub has_key : (p s i : ℕ) (r : Row) → Survives C L (FileName.Seg p s) → slice_get (rows_of C T p s) i ≡ Some r → HasKey p s i r
  has_key p s i r h e =
      let g : slice_get (image_rows (S.image p s)) i ≡ Some (project C p r) = ap (λ xs. slice_get xs i) (same.images p s h) ∙ slice_get_map (project C p) (rows_of C T p s) i r e in
      let b = before_map (λ (x : Pair). x.1) (S.image p s).pairs i (project C p r) g in
      record { key = (b.0).0; at = slice_get_map (λ (x : Pair). x.0) (S.image p s).pairs i b.0 b.1; cells = g }

  pub kept_image : (p s : ℕ) → lost C L p s ≡ false → image_after C L S T p s ≡ S.image p s
  kept_image p s e = ap (λ b. cond b (Rattle.cs_delta.specs.Image.fresh_image (map (project C p) (rows_of C T p s))) (S.image p s)) e

  -- the place of a row in a projection in which it is not lost
  pub place_is : (q : ℕ) (r : Row) (i : HasIndex q r) → Survives C L (FileName.Seg q (segment_of_row C q r)) → (k : HasKey q (segment_of_row C q r) i.index r) → place_of C L S T q r ≡ (segment_of_row C q r, k.key)
  place_is q r i h k =
      let s : ℕ = segment_of_row C q r in
      let m : List ℕ → Option ℕ → ℕ = λ ks o. option_map_or (λ j. slice_index ks j) o 0 in
      let e : m (image_keys (image_after C L S T q s)) (index_of C T q r) ≡ k.key =
      ap (λ o. m (image_keys (image_after C L S T q s)) o) i.is ∙ ap (λ w. m (image_keys w) (Some i.index)) (kept_image q s h.1) ∙ get_or_from_slice_get (image_keys (S.image q s)) i.index k.key 0 k.at in
      ap (λ n. (s, n)) e

  pub entry_is : (p s q i : ℕ) (r : Row) → Survives C L (FileName.Seg p s) → slice_get (rows_of C T p s) i ≡ Some r → (k : HasKey p s i r) → entry_for C L S T p s q k.key ≡ place_of C L S T q r
  entry_is p s q i r h e k =
      let f : Option ℕ → Place = λ o. option_map_or (λ x. place_of C L S T q x) (option_and_then (slice_get (rows_of C T p s)) o) no_place in
      let at : position_of_key (image_after C L S T p s) k.key ≡ Some i = ap (λ m. position_of_key m k.key) (kept_image p s h.1) ∙ (keyed p s h).found i k.key k.at in
      ap f at ∙ ap (λ o. option_map_or (λ x. place_of C L S T q x) o no_place) e

  agreeing : (q : ℕ) (e : Place) (t k : ℕ) → lost C L q t ≡ false → agrees C L q e (t, k) ≡ true → e ≡ (t, k)
  agreeing q e t k l a =
      let b : ((e.0 == t) && (e.1 == k)) ≡ true = sym (ap (λ w. (e.0 == t) && cond (w && not (k == 0)) (Rattle.std.specs.Prelude.nat_le 1 e.1) (e.1 == k)) l) ∙ a in
      parts (e.0 == t) (e.1 == k) refl refl b
    where
      parts : (c d : Bool) → (e.0 == t) ≡ c → (e.1 == k) ≡ d → (c && d) ≡ true → e ≡ (t, k)
      parts true true x y z = λ i. (eqb-true e.0 t x i, eqb-true e.1 k y i)
      parts true false x y z = false≢true z
      parts false d x y z = false≢true z

  -- the walk is at a row of the table
  pub record IsHome (q : ℕ) (r : Row) (at : At) : Type 0 where
    pub segment : at.0 ≡ segment_of_row C q r
    pub here : slice_get (rows_of C T q at.0) at.1 ≡ Some r

  pub entry_found : (entries : List Place) (k : ℕ) (e : Place) → slice_get entries k ≡ Some e → 1 ≤ e.1 → entry_at entries (suc k) ≡ Some e
  entry_found entries k e a h =
      let z : (e.1 == 0) ≡ false = differs e.1 0 (λ w. omega arith) (e.1 == 0) refl in
      ap placed_entry a ∙ ap (λ b. cond b None (Some e)) z

  pub at_key : (entries : List Place) (q k : ℕ) (r : Row) (t n : ℕ) → lost C L q t ≡ false → 1 ≤ k → 1 ≤ n → ((i : ℕ) → k ≡ suc i → (e : Place) × (slice_get entries i ≡ Some e) × (agrees C L q e (t, n) ≡ true)) → entry_at entries k ≡ Some (t, n)
  at_key entries q zero r t n l h g f = absurd (omega arith)
  at_key entries q (suc k) r t n l h g f =
      let x = f k refl in
      let e : x.0 ≡ (t, n) = agreeing q x.0 t n l x.2 in
      entry_found entries k (t, n) (x.1 ∙ ap Some e) g

  -- a step of the walk between alive projections leads to the same row
  pub follow_home : (p q : ℕ) (r : Row) (at : At) → p < length C.projections → IsTrue (alive C L p) → Step C (alive C L) p q → IsIn r T → IsHome p r at → (to : At) × (follow C S p q at ≡ Some to) × IsHome q r to
  follow_home p q r at hp ap' step h home =
      let s : ℕ = at.0 in
      let i : ℕ = at.1 in
      let t : ℕ = segment_of_row C q r in
      let hs : s < segments C p = subst (λ w. w < segments C p) (sym home.segment) (segment_below C p r) in
      let ls : lost C L p s ≡ false = alive_kept C cat L p hp ap' s hs in
      let ht : t < segments C q = segment_below C q r in
      let lt : lost C L q t ≡ false = alive_kept C cat L q step.exists step.may_enter t ht in
      let vs : Survives C L (FileName.Seg p s) = ((hp, hs), ls) in
      let vt : Survives C L (FileName.Seg q t) = ((step.exists, ht), lt) in
      let vj : Survives C L (FileName.Jix p s q) = (((hp, hs), step.declared), ls) in
      let k = has_key p s i r vs home.here in
      let j = has_index q r h in
      let n = has_key q t j.index r vt j.at in
      let kr = (keyed p s vs).range i k.key k.at in
      let nr = (keyed q t vt).range j.index n.key n.at in
      let place : place_of C L S T q r ≡ (t, n.key) = place_is q r j vt n in
      let entry : entry_for C L S T p s q k.key ≡ (t, n.key) = entry_is p s q i r vs home.here k ∙ place in
      let made : (m : ℕ) → k.key ≡ suc m → slice_get (entries_for C L S T p s q) m ≡ Some (t, n.key) = λ m e.
      let top : m < (image_after C L S T p s).top = subst (λ w. m < w.top) (sym (kept_image p s ls)) (omega (arith, kr.1)) in
      let same_key : m + 1 ≡ k.key = omega arith in
      slice_get-made (λ x. entry_for C L S T p s q (x + 1)) (image_after C L S T p s).top m top ∙ ap (λ x. Some (entry_for C L S T p s q x)) same_key ∙ ap Some entry in
      let found : entry_at (S.join p s q) k.key ≡ Some (t, n.key) =
      at_key (S.join p s q) q k.key r t n.key lt kr.0 nr.0 (λ m e. agreed_at (agrees C L q) (S.join p s q) (entries_for C L S T p s q) (same.joins p s q vj) m (t, n.key) (made m e)) in
      let from : entry_of S p q at ≡ Some (t, n.key) = ap (λ x. entry_at (S.join p s q) x) (get_or_from_slice_get (image_keys (S.image p s)) i k.key 0 k.at) ∙ found in
      let land : landed C S q (t, n.key) ≡ Some (t, j.index) =
      ap (λ b. cond b (option_map (λ x. (t, x)) (position_of_key (S.image q t) n.key)) None) (lt-ltb t (segments C q) ht) ∙ ap (option_map (λ x. (t, x))) ((keyed q t vt).found j.index n.key n.at) in
      ((t, j.index), ap (option_and_then (landed C S q)) from ∙ land, record { segment = refl; here = j.at })
