-- The calls that events are.
use Rattle.std.specs.Prelude.{ℕ, List, [], ◌∷◌, ◌++◌, string_bytes}
use Rattle.cs_file_system.specs.Calls.{Call, Calls, create, finish, keep, link, make, miss, remove, rename, same, see, sync, sync_folder, write}
use Rattle.file_system_tests.specs.declared.events.Event.{Event}
use Rattle.file_system_tests.specs.declared.events.What.{What}
use Rattle.file_system_tests.specs.declared.events.What.TheVariants.{Create, Finish, Keep, Link, Make, Miss, Remove, Rename, Same, See, Sync, SyncFolder, Write}

-- a call with one path, or two
abbrev pub call_of : What → (path to : List ℕ) → Call
call_of Create path to = create path
call_of Make path to = make path
call_of Write path to = write path
call_of Sync path to = sync path
call_of Rename path to = rename path to
call_of Link path to = link path to
call_of Keep path to = keep path to
call_of Remove path to = remove path
call_of See path to = see path
call_of Miss path to = miss path
call_of Same path to = same path to
call_of SyncFolder path to = sync_folder path
call_of Finish path to = finish path

-- the call that an event is
abbrev pub event_call : Event → Call
event_call event = call_of event.what (string_bytes event.path) (string_bytes event.to)

-- the calls that events are, the last one first
abbrev pub calls_of : List Event → Calls
calls_of [] = []
calls_of (event ∷ events) = calls_of events ++ event_call event ∷ []
