-- New folders of texts alone.
use Rattle.std.proofs.Common.{◌≡◌, ◌∙◌, ℕ, suc, List, [], Option, Some, None, IfSome, sym, ap}
use Rattle.std.specs.Option.{option_or}
use Rattle.std.specs.Borrow.{Bor}
use Rattle.clap.specs.Words.{Text}
use Rattle.pinepolo_args.specs.NewFolders.{AreNewFolders, folder_at, folder_in}
use Rattle.pinepolo_args.specs.declared.new_folders.NewFolders.{NewFolders}

pub of_texts : (none : List (Option (Bor Text))) (all given : List Text) → AreNewFolders [] none → all ≡ given → (r : Option NewFolders)
    → IfSome r (λ more. (place : ℕ) → folder_at more.folders place ≡ option_or (folder_at none place) (folder_in given (suc place)))
    → IfSome r (λ new. AreNewFolders all new.folders)
of_texts none all given is same None h = tt
of_texts none all given is same (Some new) h = λ place low. h place ∙ ap (λ o. option_or o (folder_in given (suc place))) (is place low) ∙ ap (λ l. folder_in l (suc place)) (sym same)
