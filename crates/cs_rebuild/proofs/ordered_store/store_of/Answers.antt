use Rattle.cs_rebuild.proofs.StoreFacts as facts
use Rattle.cs_rebuild.proofs.ordered_store.store_of.Goals as goal

pub invariant_of-result : goal.invariant_of-result
invariant_of-result c =
    let C = c.args.catalog.now in
    let v = c.args.survivors.now in
    let read = c.requires.read.1 in
    let rows = c.args.walked.rows in
    record {
      same = read.catalog;
      image_room = facts.image_room C v read.catalog;
      join_room = facts.join_room C v read.catalog;
      images_there = read.images_there;
      joins_there = read.joins_there;
      widths = facts.widths C c.requires.read.0 c.args.loss v read;
      keys = facts.keys C c.requires.read.0 c.args.loss v read;
      tops = facts.tops C c.requires.read.0 c.args.loss v read;
      entries = facts.entries C c.requires.read.0 c.args.loss v read;
      kinds = c.requires.kinds;
      few = c.requires.few;
      table = c.requires.table;
      fits = facts.fits C rows c.requires.rows_sound;
      order_rows = c.requires.orders.count;
      order_room = facts.order_room C rows c.args.orders c.requires.orders;
      below = facts.below C rows c.args.orders c.requires.orders;
      each = facts.each C rows c.args.orders c.requires.orders;
      ranges = facts.ranges C rows c.args.orders c.requires.orders c.requires.rows_sound;
    }
