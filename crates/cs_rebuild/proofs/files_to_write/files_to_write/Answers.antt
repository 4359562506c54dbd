use Rattle.std.proofs.Common.{◌≡◌, ◌&&◌, true, false, [], ◌∷◌, ◌++◌, append-nil, cond, get_or, length, take, sym, ap, subst, ◌∙◌, arith}
use Rattle.std.specs.List.{filter}
use Rattle.std.proofs.Math.Seq.{take-length}
use Rattle.std.proofs.lemmas.List.Elements.{filter_more}
use Rattle.std.proofs.lemmas.Option.{slice_get-get_or}
use Rattle.cs_schema.specs.declared.file_name.FileName.TheVariants.{Seg}
use Rattle.cs_schema.specs.FileNames.{surviving}
use Rattle.cs_schema.specs.Lists.{IsIn}
use Rattle.cs_schema.proofs.Lists.{in_at}
use Rattle.cs_schema.proofs.Surviving.{surviving_names}
use Rattle.cs_rebuild.specs.FilesToWrite.{is_among, is_listed, is_written}
use Rattle.cs_rebuild.proofs.FilesToWrite.{one_unlisted, one_listed}
use Rattle.cs_rebuild.proofs.files_to_write.files_to_write.Goals as goal

pub is_written-requires : goal.is_written-requires
is_written-requires c =
    let names = c.deref-name-items.result.now in
    let name = get_or names c.loop-name.name-index (Seg 0 0) in
    let there = in_at names c.loop-name.name-index name (slice_get-get_or names c.loop-name.name-index (Seg 0 0) c.loop-name-test.true) in
    ((surviving_names c.args.catalog.now c.none.result c.projection_count-rules.ensures.rules name).0 (subst (IsIn name) (c.deref-name-items.ensures.value ∙ c.in_ok-names.ensures.names) there)).0

pub loop-name-preserved-then-not-is_among : goal.loop-name-preserved-then-not-is_among
loop-name-preserved-then-not-is_among c =
    let names = c.deref-name-items.result.now in
    let unlisted = ap (λ b. b && is_written c.args.catalog.now c.args.loss (get_or names c.loop-name.name-index (Seg 0 0))) (sym c.is_among.ensures ∙ c.if-not-is_among.true) in
    one_unlisted c.args.catalog.now c.args.loss c.args.joins names c.loop-name.name-index c.loop-name.files.items c.loop-name-test.true unlisted c.loop-name.invariant

pub loop-name-preserved-then-not-is_written : goal.loop-name-preserved-then-not-is_written
loop-name-preserved-then-not-is_written c =
    let names = c.deref-name-items.result.now in
    let name = get_or names c.loop-name.name-index (Seg 0 0) in
    let unlisted = ap (λ b. b && is_written c.args.catalog.now c.args.loss name) (sym c.is_among.ensures ∙ c.if-not-is_among.false) ∙ sym c.is_written.ensures ∙ c.if-not-is_written.true in
    one_unlisted c.args.catalog.now c.args.loss c.args.joins names c.loop-name.name-index c.loop-name.files.items c.loop-name-test.true unlisted c.loop-name.invariant

pub loop-name-preserved : goal.loop-name-preserved
loop-name-preserved c =
    let names = c.deref-name-items.result.now in
    let name = get_or names c.loop-name.name-index (Seg 0 0) in
    let listed = ap (λ b. b && is_written c.args.catalog.now c.args.loss name) (sym c.is_among.ensures ∙ c.if-not-is_among.false) ∙ sym c.is_written.ensures ∙ c.if-not-is_written.false in
    c.in_ok-push.ensures.items ∙ ap (λ l. l ++ name ∷ []) c.loop-name.invariant ∙ one_listed c.args.catalog.now c.args.loss c.args.joins names c.loop-name.name-index c.loop-name-test.true listed

pub returns : goal.returns
returns c =
    let names = c.deref-name-items.result.now in
    let end : c.loop-name.name-index ≡ length names = omega arith in
    c.loop-name.invariant
    ∙ ap (filter (is_listed c.args.catalog.now c.args.loss c.args.joins)) (ap (λ k. take k names) end ∙ take-length names ∙ c.deref-name-items.ensures.value ∙ c.in_ok-names.ensures.names ∙ ap (surviving c.args.catalog.now) c.none.ensures)
