use Rattle.std.proofs.Common.{◌≡◌, ◌+◌, ◌∙◌, [], ◌∷◌, ◌++◌, List, ℕ, map, take, refl, sym, ap, string_bytes}
use Rattle.std.proofs.lemmas.List.{map-append, take_more}
use Rattle.cs_file_system.specs.Calls.{sync_folder}
use Rattle.cs_file_system.specs.Ending.{folders_synced}
use Rattle.cs_file_system.proofs.ending.sync_folders.Goals as goal

folders_synced-push : (folders : List (List ℕ)) (folder : List ℕ) → folders_synced (folders ++ folder ∷ []) ≡ sync_folder folder ∷ folders_synced folders
folders_synced-push [] folder = refl
folders_synced-push (first ∷ folders) folder = ap (λ calls. calls ++ sync_folder first ∷ []) (folders_synced-push folders folder)

pub loop-folder-preserved : goal.loop-folder-preserved
loop-folder-preserved g c =
    let folders = c.args.folders.now in
    let i = c.loop-folder.folder-index in
    let folder = c.folder-item.result in
    let before = folders_synced (map string_bytes (take i folders)) in
    let more : take (i + 1) folders ≡ take i folders ++ folder ∷ [] = take_more folders i folder c.loop-folder-test.true ∙ ap (λ x. take i folders ++ x ∷ []) (sym c.folder-item.is) in
    let grown : folders_synced (map string_bytes (take (i + 1) folders)) ≡ sync_folder (string_bytes folder) ∷ before =
    ap (λ xs. folders_synced (map string_bytes xs)) more ∙ (ap folders_synced (map-append string_bytes (take i folders) (folder ∷ [])) ∙ folders_synced-push (map string_bytes (take i folders)) (string_bytes folder)) in
    λ calls made.
    let x = c.in_ok-sync_folder.ensures.ok calls made in
    let y = c.loop-folder.invariant x.0 x.1 in
    (y.0, y.1, x.2 ∙ (ap (λ path. sync_folder path ∷ x.0) c.as_str.ensures.value ∙ (ap (λ rest. sync_folder (string_bytes folder) ∷ rest) y.2 ∙ ap (λ all. all ++ y.0) (sym grown))))
