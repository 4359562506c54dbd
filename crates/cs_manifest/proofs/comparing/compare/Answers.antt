use Rattle.std.proofs.Common.{◌<◌, ◌++◌, ◌∷◌, [], ◌∙◌, ap, sym, length, take, get_or, arith}
use Rattle.std.specs.List.{filter_map}
use Rattle.std.proofs.lemmas.List.{take_more}
use Rattle.std.proofs.lemmas.List.Elements.{filter_map-append}
use Rattle.cs_schema.specs.declared.file_name.FileName.TheVariants.{Seg}
use Rattle.cs_manifest.specs.declared.digesting.Digested.TheVariants.{Found}
use Rattle.cs_manifest.specs.Comparisons.{file_difference}
use Rattle.cs_manifest.proofs.comparing.compare.Goals as goal

pub loop-name-preserved : goal.loop-name-preserved
loop-name-preserved c =
    let within : c.loop-name.name-index < length c.args.files.now = omega arith in
    let file = get_or c.args.files.now c.loop-name.name-index (Seg 0 0, Found []) in
    let before = take c.loop-name.name-index c.args.files.now in
    c.in_ok-keep_difference.ensures ∙ ap (λ l. l ++ filter_map (file_difference c.args.manifest.now) (file ∷ [])) c.loop-name.invariant
    ∙ sym (filter_map-append (file_difference c.args.manifest.now) before (file ∷ []))
    ∙ ap (filter_map (file_difference c.args.manifest.now)) (sym (take_more c.args.files.now c.loop-name.name-index (Seg 0 0, Found []) within))
