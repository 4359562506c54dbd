-- The header of a delta's file, and the file as a whole.
use Rattle.std.proofs.Common.{◌≡◌, ℕ, ◌^◌, ◌<◌, ◌≤◌, ◌==◌, List, [], ◌∷◌, ◌++◌, map, length, get_or, eq-eqb, refl, sym, ap, subst, ◌∙◌, arith, inl, inr}
use Rattle.std.proofs.lemmas.Bool.{false≢true}
use Rattle.std.specs.Prelude.{codes}
use Rattle.std.specs.List.{concat, filter_map, flat_map, IsDistinct}
use Rattle.std.proofs.lemmas.List.{append_cancel_left, append-nil}
use Rattle.cs_schema.specs.Order.{row_limit}
use Rattle.cs_schema.specs.CatalogData.{CatalogData}
use Rattle.cs_segment.specs.Bytes.{be16, be32}
use Rattle.cs_segment.specs.SegmentFile.{sealed}
use Rattle.cs_segment.proofs.Numbers.{be32_begins}
use Rattle.cs_segment.proofs.Sealing.{sealed_once}
use Rattle.cs_delta.specs.Image.{Change}
use Rattle.cs_delta.specs.DeltaFile.{DeltaData, key_limit, IsChange, IsLayer, AreLayersFrom, HasVersion, IsDeltaFile, rows_after, inserted_key, layer_text, delta_body}
use Rattle.cs_delta.specs.Reading.{counted, AreLayersOf, BeginsWithCounts, NoCounts, BeginsWithHead, version_text, number_text}
use Rattle.cs_delta.specs.Laws.{OneDelta}
use Rattle.cs_delta.proofs.Sequences.{same_sequence}
use Rattle.cs_delta.proofs.ItemTexts.{one_layer, layers_along}

-- what follows the magic bytes and the numbers of projection and segment
abbrev pub counts_text : ℕ → ℕ → List ℕ → List ℕ
counts_text rows top rest = be32 rows ++ be32 top ++ rest

pub one_counts : (rows top rows2 top2 : ℕ) (x y : List ℕ) → rows ≤ row_limit → top ≤ key_limit → rows2 ≤ row_limit → top2 ≤ key_limit → counts_text rows top x ≡ counts_text rows2 top2 y → (rows ≡ rows2) × (top ≡ top2) × (x ≡ y)
one_counts rows top rows2 top2 x y lr lt lr2 lt2 e =
    let first = be32_begins rows rows2 (be32 top ++ x) (be32 top2 ++ y) (omega arith) (omega arith) e in
    let second = be32_begins top top2 x y (omega arith) (omega arith) first.1 in
    (first.0, second.0, second.1)

-- what follows the number of the projection
pub placed_is : (p s : ℕ) (bytes front placed : List ℕ) (rows top : ℕ) (rest : List ℕ) → front ≡ be16 p → bytes ≡ front ++ placed → BeginsWithCounts p s bytes rows top rest → placed ≡ be16 s ++ counts_text rows top rest
placed_is p s bytes front placed rows top rest f e h = append_cancel_left (be16 p) placed (be16 s ++ counts_text rows top rest) (ap (λ (a : List ℕ). a ++ placed) (sym f) ∙ sym e ∙ h.text)

pub counted_is : (p s : ℕ) (bytes front placed second behind : List ℕ) (rows top : ℕ) (rest : List ℕ) → front ≡ be16 p → bytes ≡ front ++ placed → second ≡ be16 s → placed ≡ second ++ behind → BeginsWithCounts p s bytes rows top rest → behind ≡ counts_text rows top rest
counted_is p s bytes front placed second behind rows top rest f e g k h = append_cancel_left (be16 s) behind (counts_text rows top rest) (ap (λ (a : List ℕ). a ++ behind) (sym g) ∙ sym k ∙ placed_is p s bytes front placed rows top rest f e h)

pub counts_are : (p s : ℕ) (bytes front placed second behind topped tail : List ℕ) (n m rows top : ℕ) (rest : List ℕ) → front ≡ be16 p → bytes ≡ front ++ placed → second ≡ be16 s → placed ≡ second ++ behind → behind ≡ be32 n ++ topped → n < 2 ^ 32 → topped ≡ be32 m ++ tail → m < 2 ^ 32 → BeginsWithCounts p s bytes rows top rest → (n ≡ rows) × (m ≡ top)
counts_are p s bytes front placed second behind topped tail n m rows top rest f e g k a la b lb h =
    let hc = h.count in
    let ht = h.top_limit in
    let first = be32_begins n rows topped (be32 top ++ rest) la (omega arith) (sym a ∙ counted_is p s bytes front placed second behind rows top rest f e g k h) in
    let second = be32_begins m top tail rest lb (omega arith) (sym b ∙ first.1) in
    (first.0, second.0)

-- ---- versions

pub record SameHead (version layers rows top : ℕ) (x : List ℕ) (version2 layers2 rows2 top2 : ℕ) (y : List ℕ) : Type 0 where
  pub same_version : version ≡ version2
  pub same_layers : layers ≡ layers2
  pub same_rows : rows ≡ rows2
  pub same_top : top ≡ top2
  pub same_rest : x ≡ y

abbrev Text : ℕ → ℕ → ℕ → ℕ → ℕ → ℕ → List ℕ → List ℕ
Text p s version layers rows top rest = version_text version ++ be16 p ++ be16 s ++ be32 rows ++ be32 top ++ number_text version layers ++ rest

same_first : (p s rows top rows2 top2 : ℕ) (x y : List ℕ) → rows ≤ row_limit → top ≤ key_limit → rows2 ≤ row_limit → top2 ≤ key_limit → Text p s 1 1 rows top x ≡ Text p s 1 1 rows2 top2 y → SameHead 1 1 rows top x 1 1 rows2 top2 y
same_first p s rows top rows2 top2 x y lr lt lr2 lt2 e =
    let front : List ℕ = codes "CSDEL001" ++ be16 p ++ be16 s in
    let same = one_counts rows top rows2 top2 x y lr lt lr2 lt2 (append_cancel_left front (counts_text rows top x) (counts_text rows2 top2 y) e) in
    record { same_version = refl; same_layers = refl; same_rows = same.0; same_top = same.1; same_rest = same.2 }

same_second : (p s layers layers2 rows top rows2 top2 : ℕ) (x y : List ℕ) → rows ≤ row_limit → top ≤ key_limit → rows2 ≤ row_limit → top2 ≤ key_limit → Text p s 2 layers rows top x ≡ Text p s 2 layers2 rows2 top2 y → SameHead 2 layers rows top x 2 layers2 rows2 top2 y
same_second p s layers layers2 rows top rows2 top2 x y lr lt lr2 lt2 e =
    let front : List ℕ = codes "CSDEL002" ++ be16 p ++ be16 s in
    let same = one_counts rows top rows2 top2 (layers ∷ x) (layers2 ∷ y) lr lt lr2 lt2 (append_cancel_left front (counts_text rows top (layers ∷ x)) (counts_text rows2 top2 (layers2 ∷ y)) e) in
    let tails = same.2 in
    record { same_version = refl; same_layers = cc; same_rows = same.0; same_top = same.1; same_rest = cc }

not_both : (x y : List ℕ) → codes "CSDEL001" ++ x ≡ codes "CSDEL002" ++ y → ⊥
not_both x y e =
    let tails : codes "1" ++ x ≡ codes "2" ++ y = append_cancel_left (codes "CSDEL00") (codes "1" ++ x) (codes "2" ++ y) e in
    let h : 49 ≡ 50 = ap (λ (l : List ℕ). get_or l 0 0) tails in
    false≢true (eq-eqb 49 50 h)

-- bytes begin with at most one header, and one remainder follows it
pub one_head : (p s : ℕ) (bytes : List ℕ) (version layers rows top version2 layers2 rows2 top2 : ℕ) (x y : List ℕ) → BeginsWithHead p s bytes version layers rows top x → BeginsWithHead p s bytes version2 layers2 rows2 top2 y → SameHead version layers rows top x version2 layers2 rows2 top2 y
one_head p s bytes version layers rows top version2 layers2 rows2 top2 x y h k = go h.version_is k.version_is
  where
    texts : Text p s version layers rows top x ≡ Text p s version2 layers2 rows2 top2 y
    texts = sym h.text ∙ k.text

    go : HasVersion version layers → HasVersion version2 layers2 → SameHead version layers rows top x version2 layers2 rows2 top2 y
    go (inl a) (inl b) =
        let e : Text p s 1 1 rows top x ≡ Text p s 1 1 rows2 top2 y = ap (λ n. Text p s n 1 rows top x) (sym a.0) ∙ ap (λ n. Text p s version n rows top x) (sym a.1) ∙ texts ∙ ap (λ n. Text p s n layers2 rows2 top2 y) b.0 ∙ ap (λ n. Text p s 1 n rows2 top2 y) b.1 in
        let same = same_first p s rows top rows2 top2 x y h.count h.top_limit k.count k.top_limit e in
        record { same_version = a.0 ∙ sym b.0; same_layers = a.1 ∙ sym b.1; same_rows = same.same_rows; same_top = same.same_top; same_rest = same.same_rest }
    go (inl a) (inr b) =
        let e : Text p s 1 layers rows top x ≡ Text p s 2 layers2 rows2 top2 y = ap (λ n. Text p s n layers rows top x) (sym a.0) ∙ texts ∙ ap (λ n. Text p s n layers2 rows2 top2 y) b.0 in
        absurd (not_both (be16 p ++ be16 s ++ be32 rows ++ be32 top ++ x) (be16 p ++ be16 s ++ be32 rows2 ++ be32 top2 ++ layers2 ∷ y) e)
    go (inr a) (inl b) =
        let e : Text p s 2 layers rows top x ≡ Text p s 1 layers2 rows2 top2 y = ap (λ n. Text p s n layers rows top x) (sym a.0) ∙ texts ∙ ap (λ n. Text p s n layers2 rows2 top2 y) b.0 in
        absurd (not_both (be16 p ++ be16 s ++ be32 rows2 ++ be32 top2 ++ y) (be16 p ++ be16 s ++ be32 rows ++ be32 top ++ layers ∷ x) (sym e))
    go (inr a) (inr b) =
        let e : Text p s 2 layers rows top x ≡ Text p s 2 layers2 rows2 top2 y = ap (λ n. Text p s n layers rows top x) (sym a.0) ∙ texts ∙ ap (λ n. Text p s n layers2 rows2 top2 y) b.0 in
        let same = same_second p s layers layers2 rows top rows2 top2 x y h.count h.top_limit k.count k.top_limit e in
        record { same_version = a.0 ∙ sym b.0; same_layers = same.same_layers; same_rows = same.same_rows; same_top = same.same_top; same_rest = same.same_rest }

-- if no counts follow the magic bytes, there is no header
pub no_first : (p s : ℕ) (bytes named : List ℕ) (version layers rows top : ℕ) (rest : List ℕ) → bytes ≡ codes "CSDEL001" ++ named → NoCounts p s named → BeginsWithHead p s bytes version layers rows top rest → ⊥
no_first p s bytes named version layers rows top rest e none h = go h.version_is
  where
    go : HasVersion version layers → ⊥
    go (inl a) =
        let same : bytes ≡ Text p s 1 layers rows top rest = h.text ∙ ap (λ n. Text p s n layers rows top rest) a.0 in
        none rows top rest (record {
          text = append_cancel_left (codes "CSDEL001") named (be16 p ++ be16 s ++ be32 rows ++ be32 top ++ rest) (sym e ∙ same);
          count = h.count;
          least_top = h.least_top;
          top_limit = h.top_limit;
        })
    go (inr b) =
        let same : bytes ≡ Text p s 2 layers rows top rest = h.text ∙ ap (λ n. Text p s n layers rows top rest) b.0 in
        not_both named (be16 p ++ be16 s ++ be32 rows ++ be32 top ++ layers ∷ rest) (sym e ∙ same)

pub no_second : (p s : ℕ) (bytes named : List ℕ) (version layers rows top : ℕ) (rest : List ℕ) → bytes ≡ codes "CSDEL002" ++ named → NoCounts p s named → BeginsWithHead p s bytes version layers rows top rest → ⊥
no_second p s bytes named version layers rows top rest e none h = go h.version_is
  where
    go : HasVersion version layers → ⊥
    go (inl a) =
        let same : bytes ≡ Text p s 1 layers rows top rest = h.text ∙ ap (λ n. Text p s n layers rows top rest) a.0 in
        not_both (be16 p ++ be16 s ++ be32 rows ++ be32 top ++ rest) named (sym same ∙ e)
    go (inr b) =
        let same : bytes ≡ Text p s 2 layers rows top rest = h.text ∙ ap (λ n. Text p s n layers rows top rest) b.0 in
        none rows top (layers ∷ rest) (record {
          text = append_cancel_left (codes "CSDEL002") named (be16 p ++ be16 s ++ be32 rows ++ be32 top ++ layers ∷ rest) (sym e ∙ same);
          count = h.count;
          least_top = h.least_top;
          top_limit = h.top_limit;
        })

-- ---- layers

judged_alike : (C : CatalogData) (p : ℕ) (d e : DeltaData) (n : ℕ) (c : Change) → d.rows ≡ e.rows → d.top ≡ e.top → IsChange C p d n c → IsChange C p e n c
judged_alike C p d e n (Change.insert at key row) r t h = let k = h.1 in let l = h.2 in (h.0, omega arith, omega arith, h.3)
judged_alike C p d e n (Change.delete at) r t h = h
judged_alike C p d e n (Change.modify at j v) r t h = h

pub layers_alike : (C : CatalogData) (p : ℕ) (d e : DeltaData) (n : ℕ) (ls : List (List Change)) → d.rows ≡ e.rows → d.top ≡ e.top → AreLayersFrom C p d n ls → AreLayersFrom C p e n ls
layers_alike C p d e n [] r t h = tt
layers_alike C p d e n (l ∷ ls) r t h = (record { number = h.0.number; below = h.0.below; items = λ c m. judged_alike C p d e n c r t (h.0.items c m); order = h.0.order }, layers_alike C p d e (rows_after n l) ls r t h.1)

pub one_layers : (C : CatalogData) (p rows top count : ℕ) (bytes : List ℕ) (ls ks : List (List Change)) → top ≤ key_limit → AreLayersOf C p rows top count bytes ls → AreLayersOf C p rows top count bytes ks → ls ≡ ks
one_layers C p rows top count bytes ls ks lt h k =
    (same_sequence layer_text rows_after (IsLayer C p (counted rows top)) (one_layer C p rows top (omega arith)) rows ls [] ks [] (layers_along C p rows top rows ls h.layers) (layers_along C p rows top rows ks k.layers)
    (append-nil (concat (map layer_text ls)) ∙ sym h.text ∙ k.text ∙ sym (append-nil (concat (map layer_text ks)))) (h.count_is ∙ sym k.count_is)).0

-- ---- files

pub file_head : (C : CatalogData) (p s : ℕ) (bytes body : List ℕ) (d : DeltaData) → bytes ≡ sealed body → IsDeltaFile C p s bytes d → BeginsWithHead p s body d.version (length d.layers) d.rows d.top (concat (map layer_text d.layers))
file_head C p s bytes body d e file =
    let same : body ≡ delta_body d = sealed_once body (delta_body d) (sym e ∙ file.text) in
    record {
      text = same ∙ ap (λ (n : ℕ). version_text d.version ++ be16 n ++ be16 d.s ++ be32 d.rows ++ be32 d.top ++ number_text d.version (length d.layers) ++ concat (map layer_text d.layers)) file.p_is
          ∙ ap (λ (n : ℕ). version_text d.version ++ be16 p ++ be16 n ++ be32 d.rows ++ be32 d.top ++ number_text d.version (length d.layers) ++ concat (map layer_text d.layers)) file.s_is;
      version_is = file.delta.version;
      count = file.delta.count;
      least_top = file.delta.least_top;
      top_limit = file.delta.top_limit;
    }

-- the layers of the file follow the header that was found
pub file_layers : (C : CatalogData) (p s : ℕ) (bytes body parts : List ℕ) (version layers rows top : ℕ) (d : DeltaData) → bytes ≡ sealed body → BeginsWithHead p s body version layers rows top parts → IsDeltaFile C p s bytes d → AreLayersOf C p rows top layers parts d.layers
file_layers C p s bytes body parts version layers rows top d e h file =
    let same = one_head p s body version layers rows top d.version (length d.layers) d.rows d.top parts (concat (map layer_text d.layers)) h (file_head C p s bytes body d e file) in
    let Q : ℕ → Type 0 = λ n. AreLayersFrom C p (counted rows top) n d.layers in
    record {
      text = same.same_rest;
      layers = subst Q (sym same.same_rows) (layers_alike C p d (counted rows top) d.rows d.layers (sym same.same_rows) (sym same.same_top) file.delta.layers);
      count_is = sym same.same_layers;
    }

-- the delta that was read is that of the file
pub read_is : (C : CatalogData) (p s : ℕ) (bytes body parts : List ℕ) (d e : DeltaData) (layers : ℕ) → bytes ≡ sealed body → d.p ≡ p → d.s ≡ s → BeginsWithHead p s body d.version layers d.rows d.top parts → AreLayersOf C p d.rows d.top layers parts d.layers → IsDeltaFile C p s bytes e → e ≡ d
read_is C p s bytes body parts d e layers q pe se h ls file =
    let same = one_head p s body d.version layers d.rows d.top e.version (length e.layers) e.rows e.top parts (concat (map layer_text e.layers)) h (file_head C p s bytes body e q file) in
    let lists = one_layers C p d.rows d.top layers parts d.layers e.layers h.top_limit ls (file_layers C p s bytes body parts d.version layers d.rows d.top e q h file) in
    let ep = file.p_is in
    let es = file.s_is in
    let v = same.same_version in
    let r = same.same_rows in
    let t = same.same_top in
    delta_eq e d (ep ∙ sym pe) (es ∙ sym se) (sym v) (sym r) (sym t) (sym lists)
  where
    delta_eq : (a b : DeltaData) → a.p ≡ b.p → a.s ≡ b.s → a.version ≡ b.version → a.rows ≡ b.rows → a.top ≡ b.top → a.layers ≡ b.layers → a ≡ b
    delta_eq a b e1 e2 e3 e4 e5 e6 =
        ap (λ (x : ℕ). let r : DeltaData = record { p = x; s = a.s; version = a.version; rows = a.rows; top = a.top; layers = a.layers } in r) e1
        ∙ ap (λ (x : ℕ). let r : DeltaData = record { p = b.p; s = x; version = a.version; rows = a.rows; top = a.top; layers = a.layers } in r) e2
        ∙ ap (λ (x : ℕ). let r : DeltaData = record { p = b.p; s = b.s; version = x; rows = a.rows; top = a.top; layers = a.layers } in r) e3
        ∙ ap (λ (x : ℕ). let r : DeltaData = record { p = b.p; s = b.s; version = b.version; rows = x; top = a.top; layers = a.layers } in r) e4
        ∙ ap (λ (x : ℕ). let r : DeltaData = record { p = b.p; s = b.s; version = b.version; rows = b.rows; top = x; layers = a.layers } in r) e5
        ∙ ap (λ (x : List (List Change)). let r : DeltaData = record { p = b.p; s = b.s; version = b.version; rows = b.rows; top = b.top; layers = x } in r) e6

pub file_found : (C : CatalogData) (p s : ℕ) (bytes body parts : List ℕ) (d : DeltaData) (layers : ℕ) → bytes ≡ sealed body → d.p ≡ p → d.s ≡ s → BeginsWithHead p s body d.version layers d.rows d.top parts → AreLayersOf C p d.rows d.top layers parts d.layers → IsDistinct ◌==◌ (flat_map (filter_map inserted_key) d.layers) → IsDeltaFile C p s bytes d
file_found C p s bytes body parts d layers q pe se h ls keys = record {
  p_is = pe;
  s_is = se;
  delta = record {
    version = (let Q : ℕ → Type 0 = λ n. HasVersion d.version n in subst Q (sym ls.count_is) h.version_is);
    count = h.count;
    least_top = h.least_top;
    top_limit = h.top_limit;
    layers = layers_alike C p (counted d.rows d.top) d d.rows d.layers refl refl ls.layers;
    keys = keys;
  };
  text = q ∙ ap sealed (h.text
      ∙ ap (λ (n : ℕ). version_text d.version ++ be16 n ++ be16 s ++ be32 d.rows ++ be32 d.top ++ number_text d.version layers ++ parts) (sym pe)
      ∙ ap (λ (n : ℕ). version_text d.version ++ be16 d.p ++ be16 n ++ be32 d.rows ++ be32 d.top ++ number_text d.version layers ++ parts) (sym se)
      ∙ ap (λ (n : ℕ). version_text d.version ++ be16 d.p ++ be16 d.s ++ be32 d.rows ++ be32 d.top ++ number_text d.version n ++ parts) (sym ls.count_is)
      ∙ ap (λ (x : List ℕ). version_text d.version ++ be16 d.p ++ be16 d.s ++ be32 d.rows ++ be32 d.top ++ number_text d.version (length d.layers) ++ x) ls.text);
}

-- bytes are the file of at most one delta
pub one_delta : OneDelta
one_delta C p s bytes d e f g =
    read_is C p s bytes (delta_body e) (concat (map layer_text e.layers)) e d (length e.layers) g.text g.p_is g.s_is (file_head C p s bytes (delta_body e) e g.text g)
    (record { text = refl; layers = layers_alike C p e (counted e.rows e.top) e.rows e.layers refl refl g.delta.layers; count_is = refl }) f
