-- What the proofs need of the formats of files: a file has one content.
use Rattle.std.proofs.Common.{◌≡◌, ℕ, List, sym, ap, subst, ◌∙◌}
use Rattle.std.proofs.lemmas.Option.{same_Some}
use Rattle.cs_schema.specs.CatalogData.{CatalogData, HasSegment}
use Rattle.cs_schema.specs.CatalogRules.{IsCatalog}
use Rattle.cs_schema.specs.FileNames.{FileContents}
use Rattle.cs_segment.specs.SegmentFile.{IsSegmentFile}
use Rattle.cs_segment.proofs.OneText.{one_segment}
use Rattle.cs_delta.specs.DeltaFile.{IsDeltaFile, merged}
use Rattle.cs_delta.specs.Image.{ImageData}
use Rattle.cs_delta.proofs.HeadTexts.{one_delta}
use Rattle.cs_jix.specs.JoinIndex.{Place, IsJoinIndexFile}
use Rattle.cs_jix.proofs.JoinLemmas.{one_reading}
use Rattle.cs_recovery.specs.Contents.{IsImageOf, IsJoinOf}
use Rattle.cs_recovery.proofs.Exact.{Layers}
use Rattle.cs_recovery.proofs.Keyed.{image_keyed}

module _ (C : CatalogData) (cat : IsCatalog C) (F : FileContents) (p s : ℕ) where
  one_image : HasSegment C p s → (m n : ImageData) → IsImageOf C F p s m → IsImageOf C F p s n → m ≡ n
  one_image here m n a b =
      let bytes : a.segment_bytes ≡ b.segment_bytes = same_Some a.segment_bytes b.segment_bytes (sym a.has_segment ∙ b.has_segment) in
      let texts : a.delta_bytes ≡ b.delta_bytes = same_Some a.delta_bytes b.delta_bytes (sym a.has_delta ∙ b.has_delta) in
      let base : a.base ≡ b.base = one_segment C cat p s here.0 b.segment_bytes a.base b.base (subst (λ x. IsSegmentFile C p s x a.base) bytes a.segment_file) b.segment_file in
      let changes : a.changes ≡ b.changes = one_delta C p s b.delta_bytes a.changes b.changes (subst (λ x. IsDeltaFile C p s x a.changes) texts a.delta_file) b.delta_file in
      a.image ∙ ap (λ x. merged x a.changes) base ∙ ap (λ x. merged b.base x) changes ∙ sym b.image

  one_join : (q : ℕ) (e f : List Place) → IsJoinOf F p s q e → IsJoinOf F p s q f → e ≡ f
  one_join q e f a b = one_reading p s q b.bytes e f (subst (λ x. IsJoinIndexFile p s q x e) (same_Some a.bytes b.bytes (sym a.has_file ∙ b.has_file)) a.file) b.file

pub layers : (C : CatalogData) → IsCatalog C → Layers C
layers C cat = record { one_image = one_image C cat; one_join = λ F p s. one_join C cat F p s; keyed = image_keyed C }
