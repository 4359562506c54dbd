-- What was read ahead.
use Rattle.std.specs.Prelude.{ℕ, List, All, Option, Result, Ok, Err}
use Rattle.std.specs.Global.{Vec}
use Rattle.std.specs.Option.{option_map}
use Rattle.cs_schema.specs.declared.file_name.FileName.{FileName}
use Rattle.cs_store.specs.declared.fault.StoreFault.{StoreFault}
use Rattle.cs_parallel_io.specs.declared.reading_ahead.Answer.{Answer}

-- the source said so of the name, whether it answered or failed
abbrev pub Says : {S : Type 0} → (S → FileName → Option (List ℕ) → Type 0) → (S → FileName → StoreFault → Type 0) → S → FileName → Result (Option (Vec ℕ)) StoreFault → Type 0
Says answers fails s name (Ok file) = answers s name (option_map (λ bytes. bytes.items) file)
Says answers fails s name (Err fault) = fails s name fault

-- the source said so of each name that was read ahead
abbrev pub SaysAll : {S : Type 0} → (S → FileName → Option (List ℕ) → Type 0) → (S → FileName → StoreFault → Type 0) → S → List Answer → Type 0
SaysAll answers fails s reads = All (λ read. Says answers fails s read.name read.result) reads
