use Rattle.std.proofs.Common.{◌≡◌, List, None, sym, ap, subst, ◌∙◌}
use Rattle.std.specs.Prelude.{slice_get}
use Rattle.std.specs.Option.{option_copied}
use Rattle.cs_schema.specs.Losses.{Sites}
use Rattle.cs_design.specs.Fatal.{AreFatalLosses}
use Rattle.cs_checking.proofs.SafeNumbers.{some_fatal, none_first}
use Rattle.cs_checking.proofs.judging.too_high.Goals as goal

pub unreachable-requires : goal.unreachable-requires
unreachable-requires c =
    let all = subst (λ (L : Sites). AreFatalLosses c.args.catalog.now L c.in-Ok.fatal.items) c.none.ensures c.in-Ok.ensures in
    let none : slice_get c.in-Ok.fatal.items 0 ≡ None = ap (λ (losses : List Sites). slice_get losses 0) (sym c.deref.ensures.value) ∙ sym c.first.ensures.value ∙ ap option_copied c.in-None.is in
    some_fatal c.args.catalog.now c.args.k c.in-Ok.fatal.items c.requires all (none_first c.in-Ok.fatal.items none)
