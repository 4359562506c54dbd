use Rattle.std.proofs.Common.{◌≡◌, ◌∙◌, ◌+◌, ◌++◌, ◌∷◌, [], List, ℕ, ap, arith, map, take, subst, sym, string_bytes}
use Rattle.std.proofs.lemmas.List.{take_all}
use Rattle.std.specs.List.{All}
use Rattle.cs_file_system.specs.Calls.{Calls, IsSettled, sync_folder}
use Rattle.cs_folder_work.proofs.SyncLemmas.{all_settled, map_more, settled_more}
use Rattle.cs_folder_work.proofs.syncing.sync_folders_of.Goals as goal

pub loop-path-init : goal.loop-path-init
loop-path-init g c = λ calls made k d low. absurd (omega (arith, low))

pub loop-path-preserved : goal.loop-path-preserved
loop-path-preserved g c = λ calls made.
    let items = c.as_slice-path-items.result.now in
    let i = c.loop-path.path-index in
    let path = c.path-item.result in
    let paths : List (List ℕ) = map string_bytes (take i items) in
    let one = c.in_ok-sync_folder.ensures.ok calls made in
    let before : Calls = one.0 in
    let last : calls ≡ sync_folder (string_bytes path) ∷ before = one.2 ∙ ap (λ (p : List ℕ). sync_folder p ∷ before) c.as_str.ensures.value in
    let all : All (λ p. IsSettled p (sync_folder (string_bytes path) ∷ before)) (paths ++ string_bytes path ∷ []) = settled_more paths (string_bytes path) before (c.loop-path.invariant before one.1) in
    let grown : map string_bytes (take (i + 1) items) ≡ paths ++ string_bytes path ∷ [] = map_more string_bytes items i path path c.loop-path-test.true c.path-item.is in
    subst (λ (ps : List (List ℕ)). All (λ p. IsSettled p calls) ps) (sym grown) (subst (λ (cs : Calls). All (λ p. IsSettled p cs) (paths ++ string_bytes path ∷ [])) (sym last) all)

pub returns : goal.returns
returns g c = λ calls made.
    let has = g.F.FileSystem.has_identity in
    let folders = c.args.folders.now in
    let names = c.args.names.now in
    let items = c.as_slice-path-items.result.now in
    let paths = map string_bytes c.in_ok-paths.paths.items in
    let same : map string_bytes (take c.loop-path.path-index items) ≡ paths = ap (map string_bytes) (take_all c.loop-path.path-index items c.loop-path-test.false ∙ c.as_slice-path-items.ensures.value) in
    all_settled has folders paths names calls c.in_ok-paths.ensures.each (subst (λ (ps : List (List ℕ)). All (λ p. IsSettled p calls) ps) same (c.loop-path.invariant calls made))
