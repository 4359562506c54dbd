-- What the source and the sink in memory tell: the files that are held, and those that were taken.
use Rattle.std.specs.Prelude.{◌≡◌, ℕ, List, [], ◌∷◌, ◌++◌, map, Option, Some, None, if◌then◌else◌}
use Rattle.std.specs.FinMap.{entries, insert}
use Rattle.std.specs.List.{list_any}
use Rattle.std.specs.Ordering.{eq_by_cmp}
use Rattle.cs_schema.specs.FileNames.{name_cmp}
use Rattle.cs_schema.specs.declared.file_name.FileName.{FileName}
use Rattle.cs_store.specs.FileSet.{Files, contents_of}
use Rattle.cs_store.specs.Plan.{GoesOn, Fails, due, planned}
use Rattle.cs_store.specs.declared.fault.Fault.{Fault}
use Rattle.cs_store.specs.declared.fault.Fault.TheVariants as fault
use Rattle.cs_store.specs.declared.fault.StoreFault.{StoreFault}
use Rattle.cs_store.specs.declared.fault.StoreFault.TheVariants as cause
use Rattle.cs_store.specs.declared.memory.failure.Failure.{Failure}
use Rattle.cs_store.specs.declared.memory.source.MemorySource.{MemorySource}
use Rattle.cs_store.specs.declared.memory.sink.MemorySink.{MemorySink}

-- a read gives what is held under the name, and changes no file
pub record GivesHeld (s : MemorySource) (name : FileName) (file : Option (List ℕ)) (t : MemorySource) : Type 0 where
  pub held : file ≡ contents_of s.files name
  pub files : t.files ≡ s.files
  pub plan : GoesOn s.failure t.failure

-- a refused read changes no file
pub record RefusesRead (s : MemorySource) (name : FileName) (why : StoreFault) (t : MemorySource) : Type 0 where
  pub files : t.files ≡ s.files
  pub plan : Fails s.failure why t.failure

-- a put adds the file to what was taken, and sets no mark
pub record TakesFile (s : MemorySink) (name : FileName) (bytes : List ℕ) (t : MemorySink) : Type 0 where
  pub files : t.files ≡ insert s.files name bytes
  pub mark : t.mark ≡ s.mark
  pub plan : GoesOn s.failure t.failure

-- the mark is set with the number of files
pub record SetsMark (s : MemorySink) (count : ℕ) (t : MemorySink) : Type 0 where
  pub files : t.files ≡ s.files
  pub mark : t.mark ≡ Some count
  pub plan : GoesOn s.failure t.failure

-- a refused call takes no file and sets no mark; a mark takes no memory
pub record RefusesCall (s : MemorySink) (at : Option FileName) (why : StoreFault) (t : MemorySink) : Type 0 where
  pub files : t.files ≡ s.files
  pub mark : t.mark ≡ s.mark
  pub plan : Fails s.failure why t.failure
  pub planned : at ≡ None → due s.failure ≡ Some why

-- what is held under the name, if it is one of these
abbrev pub held_at : Files → List FileName → FileName → Option (List ℕ)
held_at held names name = if list_any (eq_by_cmp name_cmp name) names then contents_of held name else None

-- the calls of a save: each file is put, by its name, and last the mark is set, by none
abbrev pub save_calls : Files → List (Option FileName)
save_calls files = map (λ file. Some file.0) (entries files) ++ None ∷ []

-- the fault names the read that the device was planned to fail
abbrev pub IsPlannedRead : List FileName → Option Failure → Fault → Type 0
IsPlannedRead names plan answer = (name : FileName) × (answer ≡ fault.Read name) × (planned names plan ≡ Some (name, cause.Device))

-- the fault names the write that the device was planned to fail
abbrev pub IsPlannedWrite : List (Option FileName) → Option Failure → Fault → Type 0
IsPlannedWrite calls plan answer = (at : Option FileName) × (answer ≡ fault.Write at) × (planned calls plan ≡ Some (at, cause.Device))
