use Rattle.format_tests.proofs.deltas.images.image_of_files.Goals as goal

pub merge-requires : goal.merge-requires
merge-requires c = record {
  catalog = c.args.catalog.now;
  p = 0;
  rules = c.width-width.ensures.rules;
  exists = c.requires;
  base = c.in_ok-segment.ensures.found.file.base;
  kinds_are = c.in_ok-segment.ensures.found.kinds_are;
  delta = c.in_ok-delta.ensures.found.delta;
}
