-- The calls that were made of a file system, and what they brought to the disk.
use Rattle.std.specs.Prelude.{◌≡◌, ◌⊎◌, ℕ, List, [], ◌∷◌, ◌++◌}

-- a call that changes a file or a folder, or a look at what stands at a path; a path is the bytes of its text
pub data Call : Type 0 where
  create : (path : List ℕ) → Call
  make : (path : List ℕ) → Call
  write : (path : List ℕ) → Call
  sync : (path : List ℕ) → Call
  rename : (from to : List ℕ) → Call
  link : (from to : List ℕ) → Call
  keep : (from to : List ℕ) → Call
  remove : (path : List ℕ) → Call
  see : (path : List ℕ) → Call
  miss : (path : List ℕ) → Call
  same : (path other : List ℕ) → Call
  sync_folder : (path : List ℕ) → Call
  finish : (path : List ℕ) → Call

-- calls in their order, the last one first
abbrev pub Calls : Type 0
Calls = List Call

-- all calls that may have been made have P
abbrev pub Always : (Calls → Type 0) → (Calls → Type 0) → Type 0
Always made P = (calls : Calls) → made calls → P calls

-- nothing was called
abbrev pub IsNoMore : (old new : Calls → Type 0) → Type 0
IsNoMore old new = (calls : Calls) → new calls → old calls

-- this was called, and nothing else
abbrev pub Adds : Call → (old new : Calls → Type 0) → Type 0
Adds call old new = (calls : Calls) → new calls → (before : Calls) × old before × (calls ≡ call ∷ before)

-- these were called, the last one first, and nothing else
abbrev pub AddsAll : Calls → (old new : Calls → Type 0) → Type 0
AddsAll more old new = (calls : Calls) → new calls → (before : Calls) × old before × (calls ≡ more ++ before)

-- this may have been called, and nothing else
abbrev pub MayAdd : Call → (old new : Calls → Type 0) → Type 0
MayAdd call old new = (calls : Calls) → new calls → old calls ⊎ ((before : Calls) × old before × (calls ≡ call ∷ before))

-- this was called
abbrev pub WasCalled : Call → Calls → Type 0
WasCalled call [] = ⊥
WasCalled call (last ∷ before) = (call ≡ last) ⊎ WasCalled call before

-- more was called
abbrev pub Extends : (old new : Calls → Type 0) → Type 0
Extends old new = (calls : Calls) → new calls → (before : Calls) × old before × ((call : Call) → WasCalled call before → WasCalled call calls)

-- the bytes of the file at this path were brought to the disk after they were written
abbrev pub IsSynced : List ℕ → Calls → Type 0
IsSynced path [] = ⊥
IsSynced path (sync other ∷ before) = (path ≡ other) ⊎ IsSynced path before
IsSynced path (create other ∷ before) = ¬ (path ≡ other) × IsSynced path before
IsSynced path (write other ∷ before) = ¬ (path ≡ other) × IsSynced path before
IsSynced path (rename from to ∷ before) = (path ≡ to) × IsSynced from before
IsSynced path (remove other ∷ before) = ¬ (path ≡ other) × IsSynced path before
IsSynced path (_ ∷ before) = IsSynced path before

-- no file changed, so that what was on the disk stays there
abbrev pub KeepsSynced : (old new : Calls → Type 0) → Type 0
KeepsSynced old new = (calls : Calls) → new calls → (before : Calls) × old before × ((path : List ℕ) → IsSynced path before → IsSynced path calls)

-- the names in this folder were brought to the disk after the last of them was given or taken away
abbrev pub IsSettled : List ℕ → Calls → Type 0
IsSettled folder [] = ⊥
IsSettled folder (sync_folder other ∷ before) = (folder ≡ other) ⊎ IsSettled folder before
IsSettled folder (write path ∷ before) = IsSettled folder before
IsSettled folder (sync path ∷ before) = IsSettled folder before
IsSettled folder (see path ∷ before) = IsSettled folder before
IsSettled folder (miss path ∷ before) = IsSettled folder before
IsSettled folder (same path other ∷ before) = IsSettled folder before
IsSettled folder (_ ∷ before) = ⊥

-- it was seen that something is kept at one path, or that nothing stands at the other, and nothing changed since
abbrev pub IsSeenKept : (path kept : List ℕ) → Calls → Type 0
IsSeenKept path kept [] = ⊥
IsSeenKept path kept (see other ∷ before) = (kept ≡ other) ⊎ IsSeenKept path kept before
IsSeenKept path kept (miss other ∷ before) = (path ≡ other) ⊎ IsSeenKept path kept before
IsSeenKept path kept (sync_folder other ∷ before) = IsSeenKept path kept before
IsSeenKept path kept (_ ∷ before) = ⊥

-- What stands at a path may be replaced: it was seen to be kept, or nothing to stand there, and then the names in the folder
-- that keeps it were brought to the disk. Since then nothing but what stood at the path was taken away.
abbrev pub MayBeReplaced : (path kept folder : List ℕ) → Calls → Type 0
MayBeReplaced path kept folder [] = ⊥
MayBeReplaced path kept folder (sync_folder other ∷ before) = ((folder ≡ other) × IsSeenKept path kept before) ⊎ MayBeReplaced path kept folder before
MayBeReplaced path kept folder (see other ∷ before) = MayBeReplaced path kept folder before
MayBeReplaced path kept folder (miss other ∷ before) = MayBeReplaced path kept folder before
MayBeReplaced path kept folder (remove other ∷ before) = (path ≡ other) × MayBeReplaced path kept folder before
MayBeReplaced path kept folder (_ ∷ before) = ⊥
