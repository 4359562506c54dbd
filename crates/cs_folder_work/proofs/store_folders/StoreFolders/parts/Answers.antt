use Rattle.std.proofs.Common.{◌≡◌, ◌∙◌, ◌++◌, ◌∷◌, [], ap, sym, subst, refl, inr, get_or, take, List}
use Rattle.std.proofs.lemmas.List.{take_all, take_more}
use Rattle.std.proofs.lemmas.List.Elements.{All-push}
use Rattle.std.proofs.lemmas.Result.{err_from_is_err_and}
use Rattle.std.specs.Result.{IfErr}
use Rattle.std.specs.List.{All, Contains}
use Rattle.std.specs.List.Sorted.{IsPermutation}
use Rattle.cs_schema.specs.declared.file_name.FileName.{FileName}
use Rattle.cs_file_system.specs.Calls.{IsNoMore}
use Rattle.cs_folder_work.specs.Folders.{AreRefused, IsFolderAt, IsFolderOf, IsInPart, IsPartOf}
use Rattle.cs_folder_work.proofs.FolderLemmas.{AreParted, All-moved, all_known, parted_all, parted_name, parted_part, same_number}
use Rattle.cs_folder_work.specs.declared.store_folders.Part.{Part}
use Rattle.cs_folder_work.proofs.store_folders.StoreFolders.parts.Goals as goal
use Rattle.cs_folder_work.proofs.store_folders.StoreFolders.parts.Goals.{then-ne+in_ok-folder+in_ok-push, else-ne}

pub loop-name-preserved : goal.loop-name-preserved
loop-name-preserved g c =
    let has = g.F.FileSystem.has_identity in
    let self = c.args.self.now in
    let names = c.args.names.now in
    let items = c.as_slice-name-items.result.now in
    let i = c.loop-name.name-index in
    let name = get_or items i (FileName.Seg 0 0) in
    let old = c.loop-name.invariant in
    let part : Part = c.if-ne.part in
    let parts : List Part = c.if-ne.parts.items in
    let number = c.number_of-number.result in
    let next : Part = record { folder = part.folder; names = c.push-in-loop-name.new.self } in
    let moved : IsPermutation names items = subst (IsPermutation names) (sym c.as_slice-name-items.ensures.value) c.in_ok-sorted.ensures in
    let known : Contains names name = all_known names items moved i (FileName.Seg 0 0) c.loop-name-test.true in
    let step : AreParted has self names (take i items) parts part × IsFolderAt has self c.if-ne.last part.folder.now × (c.if-ne.last ≡ number) × IsNoMore (g.F.FileSystem.made c.args.files.now) (g.F.FileSystem.made c.if-ne.files) =
    elim c.if-ne.branch [
      | then-ne+in_ok-folder+in_ok-push w ↦
          let pushed : parts ≡ c.loop-name.parts.items ++ c.loop-name.part ∷ [] = ap (λ v. v.items) w.parts-is ∙ w.in_ok-push.ensures.items in
          let empty : part.names.items ≡ [] = ap (λ (p : Part). p.names.items) w.part-is ∙ w.new-then-ne.ensures.items in
          let at : IsFolderAt has self c.if-ne.last w.in_ok-folder.folder.now = subst (λ o. IsFolderAt has self o w.in_ok-folder.folder.now) (sym (w.last-is ∙ c.number_of-number.ensures)) w.in_ok-folder.ensures.folder in (
            subst (λ ps. AreParted has self names (take i items) ps part) (sym pushed) (parted_part has self names (take i items) c.loop-name.parts.items c.loop-name.part part old.parted empty),
            subst (IsFolderAt has self c.if-ne.last) (sym (ap (λ (p : Part). p.folder.now) w.part-is)) at,
            w.last-is,
            λ calls made. old.same calls (w.reach.ensures.same calls (subst (λ f. g.F.FileSystem.made f calls) w.files-is made)),
          )
      | else-ne w ↦
          let same : number ≡ c.loop-name.last = same_number number c.loop-name.last w.if-ne.ensures in (
            subst (λ ps. AreParted has self names (take i items) ps part) (sym (ap (λ v. v.items) w.parts-is)) (subst (AreParted has self names (take i items) c.loop-name.parts.items) (sym w.part-is) old.parted),
            subst (λ o. IsFolderAt has self o part.folder.now) (sym w.last-is) (subst (λ (p : Part). IsFolderAt has self c.loop-name.last p.folder.now) (sym w.part-is) old.at),
            w.last-is ∙ sym same,
            λ calls made. old.same calls (subst (λ f. g.F.FileSystem.made f calls) w.files-is made),
          )
    ] in
    let at : IsFolderOf has self name part.folder.now = subst (λ o. IsFolderAt has self o part.folder.now) (step.2 ∙ c.number_of-number.ensures) step.1 in
    record {
      parted = subst (λ done. AreParted has self names done parts next) (sym (take_more items i (FileName.Seg 0 0) c.loop-name-test.true))
          (parted_name has self names (take i items) parts part next step.0 name known at refl c.in_ok-push-2.ensures.items);
      at = step.1;
      same = step.3;
    }

pub returns-in_err-folder-clause-refused : goal.returns-in_err-folder-clause-refused
returns-in_err-folder-clause-refused g c =
    let names = c.args.names.now in
    let items = c.as_slice-name-items.result.now in
    let moved : IsPermutation names items = subst (IsPermutation names) (sym c.as_slice-name-items.ensures.value) c.in_ok-sorted.ensures in
    let known = all_known names items moved c.loop-name.name-index (FileName.Seg 0 0) c.loop-name-test.true in
    let refused : AreRefused c.args.self.now names c.in_err-folder.field-0.0 = inr (c.in_err-folder.ensures.away, (known.0, get_or items c.loop-name.name-index (FileName.Seg 0 0), known.1, known.2, c.in_err-folder.ensures.outside)) in
    let told = err_from_is_err_and c.from_residual-in_err-folder.result c.from_residual-in_err-folder.ensures.1 in
    subst (λ r. IfErr r (AreRefused c.args.self.now names)) (sym told.1) (subst (AreRefused c.args.self.now names) (sym told.2) refused)

pub returns-clause-folders : goal.returns-clause-folders
returns-clause-folders g c =
    let P = IsPartOf g.F.FileSystem.has_identity c.args.self.now c.args.names.now in
    let old = c.loop-name.invariant.parted in
    subst (All P) (sym c.in_ok-push-3.ensures.items) (All-push P c.loop-name.parts.items c.loop-name.part old.right old.growing)

pub returns-clause-each : goal.returns-clause-each
returns-clause-each g c =
    let has = g.F.FileSystem.has_identity in
    let self = c.args.self.now in
    let names = c.args.names.now in
    let items = c.as_slice-name-items.result.now in
    let parts : List Part = c.loop-name.parts.items ++ c.loop-name.part ∷ [] in
    let moved : IsPermutation names items = subst (IsPermutation names) (sym c.as_slice-name-items.ensures.value) c.in_ok-sorted.ensures in
    let all : All (IsInPart parts) items = subst (All (IsInPart parts)) (take_all c.loop-name.name-index items c.loop-name-test.false)
    (parted_all has self names (take c.loop-name.name-index items) c.loop-name.parts.items c.loop-name.part c.loop-name.invariant.parted) in
    subst (λ ps. All (IsInPart ps) names) (sym c.in_ok-push-3.ensures.items) (All-moved names items moved (IsInPart parts) all)
