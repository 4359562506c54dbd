-- What the verb `drill` does, by what the places and the store say of one call.
use Rattle.std.specs.Prelude.{◌≡◌, ℕ, min, List, [], Option, MatchOption}
use Rattle.std.specs.Option.{unwrap_or}
use Rattle.cs_schema.specs.CatalogData.{CatalogData}
use Rattle.cs_schema.specs.FileNames.{surviving}
use Rattle.cs_schema.specs.declared.file_name.FileName.{FileName}
use Rattle.cs_store.specs.FileSet.{Files, contents_of}
use Rattle.cs_store.specs.Load.{Loads}
use Rattle.cs_design.specs.Fatal.{IsGreatestK}
use Rattle.cs_drill.specs.Drills.{AreTrials}
use Rattle.pinepolo_places.specs.Finding.{FindsStore}
use Rattle.pinepolo_answers.specs.declared.drilled.Drilled.{Drilled}

-- losses of as many sites as are asked for are tried, or else of as many as may fail, which are 16 at most
abbrev pub IsReach : CatalogData → Option ℕ → ℕ → Type 0
IsReach C asked n = MatchOption asked ((k : Option ℕ) × IsGreatestK C [] k × (n ≡ min (unwrap_or k 0) 16)) (λ m. n ≡ m)

-- the store at this path was found, and each of its files read; these are the trials of all its losses of at most so many sites
pub record DrillsStore {P S : Type 0} (reads : P → List ℕ → List ℕ → P → Type 0) (opens : P → List ℕ → CatalogData → S → Type 0) (gives : S → FileName → Option (List ℕ) → S → Type 0) (s : P) (path : List ℕ) (asked : Option ℕ) (drilled : Drilled) (t : P) : Type 0 where
  pub files : Files
  pub store : S
  pub left : S
  pub finds : FindsStore reads opens s path drilled.catalog store t
  pub loads : Loads gives (surviving drilled.catalog []) store files left
  pub reach : IsReach drilled.catalog asked drilled.at_most
  pub trials : AreTrials drilled.catalog (contents_of files) drilled.at_most drilled.trials.items
