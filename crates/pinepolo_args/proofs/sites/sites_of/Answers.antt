use Rattle.std.proofs.Common.{◌≡◌, ◌∙◌, sym, ap, []}
use Rattle.clap.specs.Words.{found_of, rows_of, values_left, many_of}
use Rattle.clap.proofs.WalkLemmas.{typed_values-rows}
use Rattle.pinepolo_args.specs.Meanings.{with_sites}
use Rattle.pinepolo_args.proofs.Rows.{Reads, at_end, none_given, some_given}
use Rattle.pinepolo_args.proofs.sites.sites_of.Goals as goal

pub returns-in_default : goal.returns-in_default
returns-in_default c =
    let found = found_of c.args.found.now in
    let id = c.args.argument.now in
    let none = none_given values_left c.get_many.result (many_of id (rows_of found)) (c.get_many.ensures ∙ typed_values-rows found id) c.in_default.is in
    c.none-loss.ensures ∙ ap (with_sites []) (sym none)

pub returns : goal.returns
returns c =
    let found = found_of c.args.found.now in
    let id = c.args.argument.now in
    let given = some_given values_left c.get_many.result (many_of id (rows_of found)) c.in-Some.sites (c.get_many.ensures ∙ typed_values-rows found id) c.in-Some.is in
    let ended = at_end (Reads 8) (values_left c.loop-site.site-iterator) (values_left c.next.new.self) c.in-None.ensures.steps in
    let begun : values_left c.into_iter-site-iterator.result ≡ values_left c.in-Some.sites = ap values_left c.into_iter-site-iterator.ensures.into_iter_gives in
    sym (ap (with_sites c.loop-site.loss) ended) ∙ c.loop-site.invariant ∙ ap (with_sites []) (begun ∙ sym given)
