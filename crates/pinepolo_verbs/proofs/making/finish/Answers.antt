use Rattle.std.proofs.Common.{◌≡◌, ◌∙◌, List, None, Some, refl, sym, ap, subst}
use Rattle.std.specs.Prelude.{slice_get}
use Rattle.std.specs.Option.{option_copied}
use Rattle.cs_schema.specs.Losses.{Sites}
use Rattle.cs_design.specs.Fatal.{AreFatalLosses, IsGreatestK}
use Rattle.cs_checking.proofs.SafeNumbers.{has_fatal, some_fatal, none_first, first_fatal}
use Rattle.pinepolo_verbs.proofs.making.finish.Goals as goal

pub returns : goal.returns
returns c =
    let C = c.args.catalog in
    let all = subst (λ (L : Sites). AreFatalLosses C L c.in-Ok.fatal.items) c.none-2.ensures c.in-Ok.ensures in
    let first : slice_get c.in-Ok.fatal.items 0 ≡ Some c.in-Some.first.now = ap (λ (losses : List Sites). slice_get losses 0) (sym c.deref.ensures.value) ∙ sym c.first.ensures.value ∙ ap option_copied c.in-Some.is in
    record {
      same_catalog = refl;
      same_files = refl;
      same_rows = refl;
      safe = (c.greatest_k.result, subst (λ (L : Sites). IsGreatestK C L c.greatest_k.result) c.none.ensures c.greatest_k.ensures, c.unwrap_or-k.ensures);
      fatal = first_fatal C c.in-Ok.fatal.items c.in-Some.first.now all first;
    }

pub unreachable-requires : goal.unreachable-requires
unreachable-requires c =
    let C = c.args.catalog in
    let all = subst (λ (L : Sites). AreFatalLosses C L c.in-Ok.fatal.items) c.none-2.ensures c.in-Ok.ensures in
    let some = has_fatal C c.greatest_k.result (subst (λ (L : Sites). IsGreatestK C L c.greatest_k.result) c.none.ensures c.greatest_k.ensures) in
    let none : slice_get c.in-Ok.fatal.items 0 ≡ None = ap (λ (losses : List Sites). slice_get losses 0) (sym c.deref.ensures.value) ∙ sym c.first.ensures.value ∙ ap option_copied c.in-None.is in
    some_fatal C some.0 c.in-Ok.fatal.items some.1 all (none_first c.in-Ok.fatal.items none)
