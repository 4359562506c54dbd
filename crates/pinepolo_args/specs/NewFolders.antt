-- Folders that take the places of those of sites, as texts SITE=FOLDER name them.
use Rattle.std.specs.Prelude.{◌≡◌, ◌==◌, ◌<◌, ℕ, zero, suc, List, [], find, Option, None, option_map, option_and_then, unwrap_or, slice_get, codes}
use Rattle.std.specs.List.{before_first, after_first}
use Rattle.std.specs.Str.Parse.{digits_value, without_leading_plus}
use Rattle.std.specs.Borrow.{Bor}
use Rattle.clap.specs.Words.{Row, Text, all_of}

-- the texts of `--to`
abbrev pub texts : List Row → List Text
texts rows = unwrap_or (all_of (codes "to") rows) []

-- the site before the sign `=`
abbrev pub site_named : Text → ℕ
site_named text = digits_value 10 (without_leading_plus (before_first (λ b. b == 61) text))

-- the folder after it
abbrev pub folder_named : Text → Text
folder_named text = after_first (λ b. b == 61) text

-- the folder of the text that names the site
abbrev pub folder_in : List Text → ℕ → Option Text
folder_in texts site = option_map folder_named (find (λ text. site_named text == site) texts)

-- the folder in this place
abbrev pub folder_at : List (Option (Bor Text)) → ℕ → Option Text
folder_at folders place = option_and_then (option_map (λ f. f.now)) (slice_get folders place)

-- the folder of a site
abbrev pub folder_of : List (Option (Bor Text)) → ℕ → Option Text
folder_of folders zero = None
folder_of folders (suc place) = folder_at folders place

-- each site from 1 to 16 has the folder that the texts give it
abbrev pub AreNewFolders : List Text → List (Option (Bor Text)) → Type 0
AreNewFolders texts folders = (place : ℕ) → place < 16 → folder_at folders place ≡ folder_in texts (suc place)
