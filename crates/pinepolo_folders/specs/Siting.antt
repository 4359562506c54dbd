-- What may differ between a request and what is run for it, if the sites of its store have folders of their own.
use Rattle.std.specs.Prelude.{◌≡◌, Result, Ok, Err}
use Rattle.pinepolo_args.specs.declared.parsing.ParseExit.{ParseExit}
use Rattle.pinepolo_args.specs.declared.request.Request.{Request}
use Rattle.pinepolo_args.specs.declared.request.Verb.{Verb}
use Rattle.pinepolo_args.specs.declared.request.Verb.TheVariants as verb

-- the verb is what was asked for; that of `design` may count more sites as lost
abbrev pub IsVerbSited : Verb → Verb → Type 0
IsVerbSited (verb.Design asked) (verb.Design sited) = (sited.svg ≡ asked.svg) × (sited.catalog ≡ asked.catalog)
IsVerbSited asked sited = sited ≡ asked

-- the request is what was asked for, but for the sites that `design` counts as lost
pub record IsSited (asked sited : Request) : Type 0 where
  pub verb : IsVerbSited asked.verb sited.verb
  pub workers : sited.workers ≡ asked.workers
  pub json : sited.json ≡ asked.json
  pub quiet : sited.quiet ≡ asked.quiet
  pub sites : sited.sites ≡ asked.sites
  pub new_sites : sited.new_sites ≡ asked.new_sites
  pub to : sited.to ≡ asked.to

-- what is run is what was asked for, or why there is no request
abbrev pub AreSited : Result Request ParseExit → Result Request ParseExit → Type 0
AreSited (Ok asked) (Ok sited) = IsSited asked sited
AreSited (Ok _) (Err _) = ⊥
AreSited (Err exit) sited = sited ≡ Err exit
