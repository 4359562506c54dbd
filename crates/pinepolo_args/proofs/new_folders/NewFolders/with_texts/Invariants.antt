use Rattle.std.proofs.Common.{◌≡◌, ℕ, suc, map, drop}
use Rattle.std.specs.Option.{option_or}
use Rattle.pinepolo_args.specs.NewFolders.{folder_at, folder_in}
use Rattle.pinepolo_args.proofs.new_folders.NewFolders.with_texts.Given as goal

abbrev pub invariant-loop-text : goal.invariant-loop-text
invariant-loop-text l = (place : ℕ)
    → option_or (folder_at l.more.folders place) (folder_in (map (λ t. t.now) (drop l.text-index l.texts)) (suc place))
    ≡ option_or (folder_at l.fn.self.folders place) (folder_in (map (λ t. t.now) l.texts) (suc place))
