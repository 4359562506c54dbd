-- What a reader's columns say of the file.
use Rattle.std.proofs.Common.{◌≡◌, ℕ, ◌<◌, List, map, length, refl, sym, subst, ◌∙◌, Bor, Ok}
use Rattle.std.proofs.lemmas.List.{length-map}
use Rattle.cs_schema.specs.declared.cells.Cells.{Cells}
use Rattle.cs_schema.specs.CatalogData.{CatalogData, projection}
use Rattle.cs_schema.specs.Values.{values, kind_of}
use Rattle.cs_schema.proofs.Widths.{at_most_32}
use Rattle.cs_segment.specs.SegmentFile.{IsSegmentFile, sealed}
use Rattle.cs_segment.specs.SegmentData.{SegmentData, IsNoSegment, ReadsSegment}
use Rattle.cs_segment.specs.Bodies.{AreFirstIn, NoColumnIn}
use Rattle.cs_segment.specs.SegmentReader.{bodies_of, IsReaderOf}
use Rattle.cs_segment.specs.declared.reader.SegmentReader.{SegmentReader}
use Rattle.cs_segment.proofs.BodyLists.{column_refused, parts_of_bodies, kinds_of_bodies}
use Rattle.cs_segment.proofs.Heads.{file_found, file_parts}
use Rattle.cs_segment.proofs.OneText.{one_segment}

module _ (C : CatalogData) (p s : ℕ) (text : List ℕ) (reader : SegmentReader) (o : IsReaderOf C p s text reader) (here : p < length C.projections) where
  abbrev width : ℕ
  width = length (projection C p).columns

  abbrev bodies : List (List ℕ)
  bodies = bodies_of reader

  pub no_column : NoColumnIn reader.catalog.now reader.p reader.rows bodies → IsNoSegment C p s (sealed text)
  no_column none b file =
      let P : ℕ → Type 0 = λ q. NoColumnIn C q reader.rows bodies in
      let Q : CatalogData → Type 0 = λ D. NoColumnIn D reader.p reader.rows bodies in
      column_refused C p reader.rows o.parts bodies b.columns o.bodies_are
      (file_parts C p s width (sealed text) text o.parts reader.rows b (at_most_32 C p o.rules here) refl refl o.head file) (subst P o.p_is (subst Q o.catalog_is none))

  abbrev segment_of : List Cells → SegmentData
  segment_of columns = record { p = p; s = s; kinds = map kind_of columns; base = record { rows = reader.rows; columns = map values columns } }

  pub segment_read : (columns : List Cells) (count : ℕ) → count ≡ length reader.bodies.items → AreFirstIn reader.catalog.now reader.p reader.rows bodies count columns → ReadsSegment C p s (sealed text) (Ok (segment_of columns))
  segment_read columns count e h =
      let P : ℕ → Type 0 = λ q. AreFirstIn C q reader.rows bodies (length bodies) columns in
      let Q : CatalogData → Type 0 = λ D. AreFirstIn D reader.p reader.rows bodies (length bodies) columns in
      let R : ℕ → Type 0 = λ n. AreFirstIn reader.catalog.now reader.p reader.rows bodies n columns in
      let all = subst P o.p_is (subst Q o.catalog_is (subst R (e ∙ sym (length-map reader.bodies.items (λ (body : Bor (List ℕ)). body.now))) h)) in
      let file : IsSegmentFile C p s (sealed text) (segment_of columns).base =
      file_found C p s width (sealed text) text o.parts (segment_of columns).base refl refl o.head (parts_of_bodies C p reader.rows bodies columns all o.parts o.bodies_are) in
      record {
        found = record { p_is = refl; s_is = refl; kinds_are = kinds_of_bodies C p reader.rows bodies columns all o.parts o.bodies_are; file = file };
        refused = λ damaged. absurd cc;
        only = λ b given. one_segment C o.rules p s here (sealed text) b (segment_of columns).base given file;
      }
