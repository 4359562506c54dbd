use Rattle.std.proofs.Common.{refl, sym, subst, ◌≡◌}
use Rattle.cs_schema.specs.Lists.{IsIn}
use Rattle.cs_rebuild.specs.Reading.{reseal}
use Rattle.cs_rebuild.proofs.digests.are_sealed.Goals as goal

pub returns-in-Ok : goal.returns-in-Ok
returns-in-Ok g c = λ yes n bytes named e.
    let there = c.in-Ok.ensures n bytes named e in
    let sealed = (c.are_sealed_at_once.ensures yes there.0 (subst (IsIn there.0) (sym c.as_slice.ensures.value) (c.longest_first-there.ensures there.0 there.1))).found refl in
    subst (λ b. b ≡ reseal b) there.2 sealed
