-- The header of a segment's file.
use Rattle.std.proofs.Common.{◌≡◌, ℕ, ◌+◌, ◌^◌, ◌<◌, ◌≤◌, List, [], ◌++◌, length, refl, sym, ap, subst, ◌∙◌, arith}
use Rattle.std.specs.Prelude.{codes}
use Rattle.std.proofs.lemmas.List.{append_cancel_left}
use Rattle.cs_schema.specs.CatalogData.{CatalogData, projection}
use Rattle.cs_segment.specs.Bytes.{be16, be32}
use Rattle.cs_segment.specs.SegmentFile.{sealed, Base, IsBase, IsSegmentFile, base_column, segment_body}
use Rattle.cs_segment.specs.Parts.{BeginsWithHead, head_text, parts_text, IsColumnAt, AreParts}
use Rattle.cs_segment.proofs.Numbers.{be16_begins, be32_begins}
use Rattle.cs_segment.proofs.Sealing.{sealed_once}
use Rattle.cs_segment.specs.Bodies.{AreBodies}
use Rattle.cs_segment.specs.SegmentData.{IsNoSegment}
use Rattle.cs_segment.proofs.BodyLists.{bodies_of_parts}
use Rattle.cs_segment.proofs.PartLists.{parts_of, all-at, all-made}

pub named_is : (p s width : ℕ) (bytes named : List ℕ) (rows : ℕ) (rest : List ℕ) → bytes ≡ codes "CSSEG001" ++ named → BeginsWithHead p s width bytes rows rest → named ≡ be16 p ++ (be16 s ++ (be32 rows ++ (be16 width ++ rest)))
named_is p s width bytes named rows rest e h = append_cancel_left (codes "CSSEG001") named (be16 p ++ (be16 s ++ (be32 rows ++ (be16 width ++ rest)))) (sym e ∙ h.text)

pub placed_is : (p s width : ℕ) (bytes named front placed : List ℕ) (rows : ℕ) (rest : List ℕ) → bytes ≡ codes "CSSEG001" ++ named → front ≡ be16 p → named ≡ front ++ placed → BeginsWithHead p s width bytes rows rest → placed ≡ be16 s ++ (be32 rows ++ (be16 width ++ rest))
placed_is p s width bytes named front placed rows rest e f d h =
    append_cancel_left (be16 p) placed (be16 s ++ (be32 rows ++ (be16 width ++ rest))) (ap (λ (a : List ℕ). a ++ placed) (sym f) ∙ sym d ∙ named_is p s width bytes named rows rest e h)

pub counted_is : (p s width : ℕ) (bytes named front placed second counted : List ℕ) (rows : ℕ) (rest : List ℕ) → bytes ≡ codes "CSSEG001" ++ named → front ≡ be16 p → named ≡ front ++ placed → second ≡ be16 s → placed ≡ second ++ counted → BeginsWithHead p s width bytes rows rest → counted ≡ be32 rows ++ (be16 width ++ rest)
counted_is p s width bytes named front placed second counted rows rest e f d g k h =
    append_cancel_left (be16 s) counted (be32 rows ++ (be16 width ++ rest)) (ap (λ (a : List ℕ). a ++ counted) (sym g) ∙ sym k ∙ placed_is p s width bytes named front placed rows rest e f d h)

pub numbers_are : (n m width rows : ℕ) (counted sized after rest : List ℕ) → counted ≡ be32 rows ++ (be16 width ++ rest) → rows ≤ 1048576 → width ≤ 32 → counted ≡ be32 n ++ sized → n < 2 ^ 32 → sized ≡ be16 m ++ after → m < 2 ^ 16 → (n ≡ rows) × (m ≡ width)
numbers_are n m width rows counted sized after rest e few narrow d ln k lm =
    let count = be32_begins n rows sized (be16 width ++ rest) ln (omega arith) (sym d ∙ e) in
    let columns = be16_begins m width after rest lm (omega arith) (sym k ∙ count.1) in
    (count.0, columns.0)

-- bytes have at most one header, and one remainder after it
pub one_head : (p s width : ℕ) (bytes : List ℕ) (m n : ℕ) (x y : List ℕ) → width ≤ 32 → BeginsWithHead p s width bytes m x → BeginsWithHead p s width bytes n y → (m ≡ n) × (x ≡ y)
one_head p s width bytes m n x y narrow h k =
    let front : List ℕ = codes "CSSEG001" ++ be16 p ++ be16 s in
    let behind : be32 m ++ (be16 width ++ x) ≡ be32 n ++ (be16 width ++ y) = append_cancel_left front (be32 m ++ (be16 width ++ x)) (be32 n ++ (be16 width ++ y)) (sym h.text ∙ k.text) in
    let hc = h.count in
    let kc = k.count in
    let count = be32_begins m n (be16 width ++ x) (be16 width ++ y) (omega arith) (omega arith) behind in
    (count.0, append_cancel_left (be16 width) x y count.1)

-- a base's file begins with its header, and the parts of its columns follow
pub head_of : (C : CatalogData) (p s : ℕ) (b : Base) → IsBase C p b → BeginsWithHead p s (length (projection C p).columns) (segment_body C p s b) b.rows (parts_text C p 0 b.columns)
head_of C p s b h = record {
  text = ap (λ (a : List ℕ). head_text p s b.rows (length b.columns) ++ a) (parts_of C p b) ∙ ap (λ n. head_text p s b.rows n ++ parts_text C p 0 b.columns) h.width;
  count = h.count;
}

pub parts_of_base : (C : CatalogData) (p : ℕ) (b : Base) → IsBase C p b → AreParts C p (parts_text C p 0 b.columns) b.rows b.columns
parts_of_base C p b h = record {
  text = refl;
  width = h.width;
  columns_are = all-made (IsColumnAt C p b.rows) 0 b.columns [] (λ i l. at i l);
}
  where
    at : (i : ℕ) → i < length b.columns → IsColumnAt C p b.rows (0 + i) (base_column b i)
    at i l =
        let Q : ℕ → Type 0 = λ n. IsColumnAt C p b.rows n (base_column b i) in
        let e : i ≡ 0 + i = omega arith in
        subst Q e (record { rows_are = h.lengths i l; fits = h.columns i l })

pub base_of_parts : (C : CatalogData) (p : ℕ) (b : Base) (bytes : List ℕ) → b.rows ≤ 1048576 → AreParts C p bytes b.rows b.columns → IsBase C p b
base_of_parts C p b bytes few h = record {
  count = few;
  width = h.width;
  lengths = λ j l. (at j l).rows_are;
  columns = λ j l. (at j l).fits;
}
  where
    at : (i : ℕ) → i < length b.columns → IsColumnAt C p b.rows i (base_column b i)
    at i l =
        let Q : ℕ → Type 0 = λ n. IsColumnAt C p b.rows n (base_column b i) in
        let e : 0 + i ≡ i = omega arith in
        subst Q e (all-at (IsColumnAt C p b.rows) 0 b.columns h.columns_are i [] l)

pub body_of_parts : (C : CatalogData) (p s : ℕ) (b : Base) (body parts : List ℕ) → BeginsWithHead p s (length (projection C p).columns) body b.rows parts → AreParts C p parts b.rows b.columns → body ≡ segment_body C p s b
body_of_parts C p s b body parts h a =
    h.text ∙ ap (λ n. head_text p s b.rows n ++ parts) (sym a.width) ∙ ap (λ (t : List ℕ). head_text p s b.rows (length b.columns) ++ t) (a.text ∙ sym (parts_of C p b))

-- the header of a base's file, without its digest
pub file_head : (C : CatalogData) (p s width : ℕ) (bytes body : List ℕ) (b : Base) → bytes ≡ sealed body → width ≡ length (projection C p).columns → IsSegmentFile C p s bytes b → BeginsWithHead p s width body b.rows (parts_text C p 0 b.columns)
file_head C p s width bytes body b e w file =
    let same : body ≡ segment_body C p s b = sealed_once body (segment_body C p s b) (sym e ∙ file.text) in
    let h = head_of C p s b file.base in
    record { text = same ∙ h.text ∙ ap (λ n. head_text p s b.rows n ++ parts_text C p 0 b.columns) (sym w); count = h.count }

-- the bytes after the header are the parts of the base's columns
pub file_parts : (C : CatalogData) (p s width : ℕ) (bytes body parts : List ℕ) (rows : ℕ) (b : Base) → width ≤ 32 → bytes ≡ sealed body → width ≡ length (projection C p).columns → BeginsWithHead p s width body rows parts → IsSegmentFile C p s bytes b → AreParts C p parts rows b.columns
file_parts C p s width bytes body parts rows b narrow e w h file =
    let same = one_head p s width body b.rows rows (parts_text C p 0 b.columns) parts narrow (file_head C p s width bytes body b e w file) h in
    let P : ℕ → Type 0 = λ n. AreParts C p (parts_text C p 0 b.columns) n b.columns in
    let Q : List ℕ → Type 0 = λ x. AreParts C p x rows b.columns in
    subst Q same.1 (subst P same.0 (parts_of_base C p b file.base))

pub file_found : (C : CatalogData) (p s width : ℕ) (bytes body parts : List ℕ) (b : Base) → bytes ≡ sealed body → width ≡ length (projection C p).columns → BeginsWithHead p s width body b.rows parts → AreParts C p parts b.rows b.columns → IsSegmentFile C p s bytes b
file_found C p s width bytes body parts b e w h a = record {
  base = base_of_parts C p b parts h.count a;
  text = e ∙ ap sealed (body_of_parts C p s b body parts (record { text = h.text ∙ ap (λ n. head_text p s b.rows n ++ parts) w; count = h.count }) a);
}

-- ---- a file without its digest

module _ (C : CatalogData) (p s width : ℕ) (front : List ℕ) (narrow : width ≤ 32) (is : width ≡ length (projection C p).columns) where
  pub no_head : ((rows : ℕ) (rest : List ℕ) → BeginsWithHead p s width front rows rest → ⊥) → IsNoSegment C p s (sealed front)
  no_head none b file = none b.rows (parts_text C p 0 b.columns) (file_head C p s width (sealed front) front b refl is file)

  pub no_bodies : (rows : ℕ) (parts : List ℕ) → BeginsWithHead p s width front rows parts → ((bodies : List (List ℕ)) → AreBodies C p parts bodies → ⊥) → IsNoSegment C p s (sealed front)
  no_bodies rows parts h none b file = none _ (bodies_of_parts C p rows parts b.columns (file_parts C p s width (sealed front) front parts rows b narrow refl is h file))
