use Rattle.std.proofs.Common.{◌≡◌, ◌<◌, ℕ, false}
use Rattle.cs_schema.specs.Lists.{member}
use Rattle.cs_schema.proofs.catalog.Catalog.has_sites.Given as goal

abbrev pub invariant-loop-site : goal.invariant-loop-site
invariant-loop-site l = (x : ℕ) → l.self.sites < x → x < l.site → member l.loss x ≡ false
