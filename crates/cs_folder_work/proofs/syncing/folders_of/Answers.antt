use Rattle.std.proofs.Common.{◌≡◌, ◌∙◌, ◌+◌, ◌++◌, ◌∷◌, [], List, ℕ, ap, length, map, take, subst, sym, string_bytes, arith, eqb-true, eq-eqb, vec_len}
use Rattle.std.proofs.lemmas.List.{map-append, take_all, take_more}
use Rattle.std.specs.List.{All}
use Rattle.cs_schema.proofs.Ascending.{false≢true}
use Rattle.cs_folder_work.specs.declared.store_folders.Part.{Part}
use Rattle.cs_folder_work.specs.Folders.{IsInPart, IsPartOf}
use Rattle.cs_folder_work.proofs.SyncLemmas.{AreFolders, folders_more, folders_same, in_one_of}
use Rattle.cs_folder_work.proofs.syncing.folders_of.Goals as goal
use Rattle.cs_folder_work.proofs.syncing.folders_of.Goals.{then-not-is_empty+in_ok-from_str+in_ok-push, else-not-is_empty}

pub loop-part-preserved : goal.loop-part-preserved
loop-part-preserved g c =
    let has = g.F.FileSystem.has_identity in
    let folders = c.args.folders.now in
    let names = c.args.names.now in
    let items = c.as_slice-part-items.result.now in
    let i = c.loop-part.part-index in
    let part = c.part-item.result in
    let before : List Part = take i items in
    let paths : List (List ℕ) = map string_bytes c.loop-part.paths.items in
    let after : List (List ℕ) = map string_bytes c.if-not-is_empty.paths.items in
    let grown : take (i + 1) items ≡ before ++ part ∷ [] = take_more items i part c.loop-part-test.true ∙ ap (λ p. before ++ p ∷ []) (sym c.part-item.is) in
    let all : All (IsPartOf has folders names) items = subst (All (IsPartOf has folders names)) (sym c.as_slice-part-items.ensures.value) c.in_ok-parts.ensures.folders in
    let right : IsPartOf has folders names part = subst (IsPartOf has folders names) (sym c.part-item.is) (all i part c.loop-part-test.true) in
    let are : AreFolders has folders names (before ++ part ∷ []) after = elim c.if-not-is_empty.branch [
      | then-not-is_empty+in_ok-from_str+in_ok-push w ↦
          let path = w.in_ok-from_str.field-0 in
          let pushed : after ≡ paths ++ string_bytes path ∷ [] = ap (λ v. map string_bytes v.items) w.paths-is ∙ ap (map string_bytes) w.in_ok-push.ensures.items ∙ map-append string_bytes c.loop-part.paths.items (path ∷ []) in
          let same : after ≡ paths ++ part.folder.now ∷ [] = pushed ∙ ap (λ (p : List ℕ). paths ++ p ∷ []) w.in_ok-from_str.ensures.ok in
          let some : length part.names.items ≡ 0 → ⊥ = λ none. false≢true (w.if-not-is_empty.ensures ∙ eq-eqb (vec_len part.names) 0 (omega (arith, none))) in
          subst (AreFolders has folders names (before ++ part ∷ [])) (sym same) (folders_more has folders names before part paths c.loop-part.invariant right some)
      | else-not-is_empty w ↦
          let none : length part.names.items ≡ 0 = omega (arith, eqb-true _ 0 (sym w.if-not-is_empty.ensures)) in
          subst (AreFolders has folders names (before ++ part ∷ [])) (sym (ap (λ v. map string_bytes v.items) w.paths-is)) (folders_same has folders names before part paths c.loop-part.invariant none)
    ] in
    subst (λ ps. AreFolders has folders names ps after) (sym grown) are

pub returns-clause-each : goal.returns-clause-each
returns-clause-each g c =
    let has = g.F.FileSystem.has_identity in
    let folders = c.args.folders.now in
    let names = c.args.names.now in
    let items = c.as_slice-part-items.result.now in
    let paths : List (List ℕ) = map string_bytes c.loop-part.paths.items in
    let are : AreFolders has folders names items paths = subst (λ ps. AreFolders has folders names ps paths) (take_all c.loop-part.part-index items c.loop-part-test.false) c.loop-part.invariant in
    in_one_of has folders names items paths are (subst (λ ps. All (IsInPart ps) names) (sym c.as_slice-part-items.ensures.value) c.in_ok-parts.ensures.each)
