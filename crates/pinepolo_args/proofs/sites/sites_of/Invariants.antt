use Rattle.std.proofs.Common.{◌≡◌, []}
use Rattle.clap.specs.Words.{values_left}
use Rattle.pinepolo_args.specs.Meanings.{with_sites}
use Rattle.pinepolo_args.proofs.sites.sites_of.Given as goal

abbrev pub invariant-loop-site : goal.invariant-loop-site
invariant-loop-site l = with_sites l.loss (values_left l.site-iterator) ≡ with_sites [] (values_left l.initial.site-iterator)
