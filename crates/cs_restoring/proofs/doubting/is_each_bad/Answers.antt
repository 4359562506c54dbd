use Rattle.std.proofs.Common.{subst}
use Rattle.cs_schema.proofs.Surviving.{surviving_names}
use Rattle.cs_schema.specs.Lists.{IsIn}
use Rattle.cs_store.specs.FileSet.{contents_of}
use Rattle.cs_inspection.specs.BadFiles.{IsBad}
use Rattle.cs_restoring.proofs.doubting.is_each_bad.Goals as goal

pub bad_sites-requires : goal.bad_sites-requires
bad_sites-requires g c b is =
    let it = c.in_ok-bad.ensures.each b.0 b.1 (subst (IsIn b) c.as_slice.ensures.value is) in
    ((surviving_names c.args.catalog.now c.others.result c.projection_count-rules.ensures.rules b.0).0 it.0).0

pub returns : goal.returns
returns g c each x member =
    let found = (c.bad_sites.ensures x).0 (c.is_within.ensures.0 each x member) in
    let b = found.0 in
    let it = c.in_ok-bad.ensures.each b.0 b.1 (subst (IsIn b) c.as_slice.ensures.value found.1) in (
      b.0,
      b.1,
      ((surviving_names c.args.catalog.now c.others.result c.projection_count-rules.ensures.rules b.0).0 it.0).0,
      subst (λ unreadable. IsBad c.args.catalog.now (contents_of c.args.read.now.files) unreadable b.0 b.1) c.as_slice-unreadable.ensures.value it.1,
      found.2,
    )
