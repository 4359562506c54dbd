use Rattle.store_tests.proofs.surviving.image.Goals as goal

pub merge-requires : goal.merge-requires
merge-requires g c = record {
  catalog = c.args.catalog.now;
  p = c.args.p;
  rules = c.projection_count-projections.ensures.rules;
  exists = c.requires;
  base = c.in-Ok.ensures.found.file.base;
  kinds_are = c.in-Ok.ensures.found.kinds_are;
  delta = c.in-Ok-read_delta.ensures.found.delta;
}
