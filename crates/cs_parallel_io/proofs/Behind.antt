-- A save to a sink in front of another one, as one of that behind it.
use Rattle.std.proofs.Common.{◌≡◌, ℕ, List, [], ◌∷◌, Option, ap}
use Rattle.cs_schema.specs.declared.file_name.FileName.{FileName}
use Rattle.cs_store.specs.Save.{Puts, PutsInTurn, Saves, StopsSaving}
use Rattle.cs_store.specs.declared.fault.Fault.{Fault}
use Rattle.cs_store.specs.declared.fault.StoreFault.{StoreFault}

module _ {A S : Type 0} (behind : A → S) (takes : S → FileName → List ℕ → S → Type 0) where
  -- a put into the sink in front is one into that behind it
  abbrev pub takes_behind : A → FileName → List ℕ → A → Type 0
  takes_behind a name bytes b = takes (behind a) name bytes (behind b)

  puts_behind : (a : A) (files : Puts) (b : A) → PutsInTurn takes_behind a files b → PutsInTurn takes (behind a) files (behind b)
  puts_behind a [] b same = ap behind same
  puts_behind a (file ∷ rest) b run = (behind run.0, run.1, puts_behind run.0 rest b run.2)

  pub saves_behind : (marks : S → ℕ → S → Type 0) (files : Puts) (a b : A) → Saves takes_behind (λ s n t. marks (behind s) n (behind t)) files a b → Saves takes marks files (behind a) (behind b)
  saves_behind marks files a b saves = record { reached = behind saves.reached; in_turn = puts_behind a files saves.reached saves.in_turn; marked = saves.marked }

  pub stops_behind : (refuses : S → Option FileName → StoreFault → S → Type 0) (files : Puts) (a : A) (answer : Fault) (b : A) → StopsSaving takes_behind (λ s at why t. refuses (behind s) at why (behind t)) files a answer b → StopsSaving takes refuses files (behind a) answer (behind b)
  stops_behind refuses files a answer b stops = record {
    saved = stops.saved;
    left = stops.left;
    reached = behind stops.reached;
    cause = stops.cause;
    in_order = stops.in_order;
    in_turn = puts_behind a stops.saved stops.reached stops.in_turn;
    refused = stops.refused;
    named = stops.named;
  }
