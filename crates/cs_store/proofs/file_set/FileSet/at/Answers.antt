use Rattle.std.proofs.Common.{◌≡◌, ◌<◌, sym, ◌∙◌, ap, subst, slice_get, length, arith, IsSome}
use Rattle.std.specs.FinMap.{len}
use Rattle.std.specs.Map.Iter.{deref_pair}
use Rattle.std.specs.Option.{option_map}
use Rattle.std.proofs.lemmas.Iterator.Consumers.{nth_from_yields_List, YieldsList-from_rest}
use Rattle.cs_store.proofs.FileSetLemmas.{len-named_bytes, is_some-slice_get, is_some-from_map, slice_get-entries}
use Rattle.cs_store.proofs.file_set.FileSet.at.Goals as goal

pub unwrap-requires : goal.unwrap-requires
unwrap-requires c =
    let found : option_map deref_pair c.nth.result ≡ slice_get c.self.inside.files.entries c.args.i = nth_from_yields_List _ _ _ c.nth.ensures.ran (YieldsList-from_rest _ c.iter.ensures.rest) in
    let length_is : length c.self.inside.files.entries ≡ len c.args.self.now = sym (len-named_bytes _ c.self.invariant) ∙ ap len c.self.view_is in
    let below : c.args.i < length c.self.inside.files.entries = omega (arith, c.requires) in
    is_some-from_map deref_pair _ (subst IsSome (sym found) (is_some-slice_get _ _ below))

pub returns : goal.returns
returns c =
    let found : option_map deref_pair c.nth.result ≡ slice_get c.self.inside.files.entries c.args.i = nth_from_yields_List _ _ _ c.nth.ensures.ran (YieldsList-from_rest _ c.iter.ensures.rest) in
    let there = slice_get-entries _ _ _ _ c.self.invariant (sym found ∙ ap (option_map deref_pair) c.unwrap.ensures) in
    rw (← c.self.view_is, c.as_slice.ensures.value) there
