use Rattle.std.proofs.Common.{ap}
use Rattle.std.specs.Option.{option_map}
use Rattle.cs_store.proofs.FileSetLemmas.{get-named_bytes}
use Rattle.cs_store.proofs.file_set.FileSet.get.Goals as goal

pub returns-in-Some : goal.returns-in-Some
returns-in-Some c =
    let found = get-named_bytes c.self.inside.files.entries c.args.name c.self.invariant in
    let read = ap (option_map (λ v. v.items)) c.in-Some.ensures.value in
    rw (← c.self.view_is, found, ← read, c.as_slice.ensures.value)

pub returns-in-None : goal.returns-in-None
returns-in-None c =
    let found = get-named_bytes c.self.inside.files.entries c.args.name c.self.invariant in
    let read = ap (option_map (λ v. v.items)) c.in-None.ensures.value in
    rw (← c.self.view_is, found, ← read)
