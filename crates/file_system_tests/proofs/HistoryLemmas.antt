-- One event more is one call more.
use Rattle.std.proofs.Common.{◌≡◌, List, [], ◌∷◌, ◌++◌, refl, ap, ◌∙◌}
use Rattle.cs_file_system.specs.Calls.{Adds, Call}
use Rattle.file_system_tests.specs.History.{calls_of, event_call}
use Rattle.file_system_tests.specs.declared.events.Event.{Event}

calls_of-push : (events : List Event) (event : Event) → calls_of (events ++ event ∷ []) ≡ event_call event ∷ calls_of events
calls_of-push [] event = refl
calls_of-push (first ∷ events) event = ap (λ calls. calls ++ event_call first ∷ []) (calls_of-push events event)

pub adds_event : (old new : List Event) (event : Event) (call : Call) → new ≡ old ++ event ∷ [] → event_call event ≡ call → Adds call (λ calls. calls ≡ calls_of old) (λ calls. calls ≡ calls_of new)
adds_event old new event call pushed same calls now = (calls_of old, refl, now ∙ (ap calls_of pushed ∙ (calls_of-push old event ∙ ap (λ last. last ∷ calls_of old) same)))
