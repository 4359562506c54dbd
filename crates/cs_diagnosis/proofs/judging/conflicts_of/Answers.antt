use Rattle.std.proofs.Common.{◌∙◌, sym, subst, ap, List, ℕ, ◌↔◌}
use Rattle.cs_schema.specs.Lists.{IsIn}
use Rattle.cs_schema.specs.Losses.{Sites}
use Rattle.cs_recovery.proofs.Exact.{survivors_survive, joins_survive}
use Rattle.cs_rebuild.specs.OnStore.{table_on}
use Rattle.cs_rebuild.specs.Surveys.{joins_among}
use Rattle.cs_diagnosis.specs.Conflicts.{AreAllHit}
use Rattle.cs_diagnosis.specs.Pairs.{AreHit, AreOfSites}
use Rattle.cs_diagnosis.proofs.Passes.{images_of_sites, joins_of_sites, are_conflicts}
use Rattle.cs_diagnosis.proofs.judging.conflicts_of.Goals as goal

pub joins_of-requires-clause-exist : goal.joins_of-requires-clause-exist
joins_of-requires-clause-exist g c a i = (survivors_survive c.args.store.now.catalog.now c.args.store.now.loss a (subst (IsIn a) (c.as_slice.ensures.value ∙ c.in_ok-segments.ensures.all) i)).0

pub images_conflicts-requires-clause-survive : goal.images_conflicts-requires-clause-survive
images_conflicts-requires-clause-survive g c κs within a i = survivors_survive c.args.store.now.catalog.now c.args.store.now.loss a (subst (IsIn a) (c.as_slice-2.ensures.value ∙ c.in_ok-segments.ensures.all) i)

pub joins_conflicts-requires-clause-survive : goal.joins_conflicts-requires-clause-survive
joins_conflicts-requires-clause-survive g c κs within a i =
    let C = c.args.store.now.catalog.now in
    joins_survive C c.args.store.now.loss a (subst (IsIn a) (c.as_slice-3.ensures.value ∙ c.in_ok-joins.ensures.all ∙ ap (joins_among C) (c.as_slice.ensures.value ∙ c.in_ok-segments.ensures.all)) i)

pub gather-requires-clause-images : goal.gather-requires-clause-images
gather-requires-clause-images g c =
    let store = c.args.store.now in
    let segments = c.as_slice-2.ensures.value ∙ c.in_ok-segments.ensures.all in
    let images = c.in_ok-of_images.ensures in
    subst AreOfSites (sym c.as_slice-4.ensures.value)
    (images_of_sites store.catalog.now c.projection_count-rules.ensures.rules store.loss store.survivors.now (table_on store) c.in_ok-of_images.of_images.items c.in_ok-of_joins.of_joins.items
    c.as_slice-2.result.now segments images.count images.each)

pub gather-requires-clause-joins : goal.gather-requires-clause-joins
gather-requires-clause-joins g c =
    let store = c.args.store.now in
    let C = store.catalog.now in
    let segments = c.as_slice-2.ensures.value ∙ c.in_ok-segments.ensures.all in
    let all = c.as_slice-3.ensures.value ∙ c.in_ok-joins.ensures.all ∙ ap (joins_among C) (c.as_slice.ensures.value ∙ c.in_ok-segments.ensures.all) in
    let images = c.in_ok-of_images.ensures in
    let joins = c.in_ok-of_joins.ensures in
    subst AreOfSites (sym c.as_slice-5.ensures.value)
    (joins_of_sites C c.projection_count-rules.ensures.rules store.loss store.survivors.now (table_on store) c.in_ok-of_images.of_images.items c.in_ok-of_joins.of_joins.items
    c.as_slice-2.result.now segments images.count images.each c.as_slice-3.result.now all joins.count joins.each)

pub returns : goal.returns
returns g c F read =
    let store = c.args.store.now in
    let C = store.catalog.now in
    let segments = c.as_slice-2.ensures.value ∙ c.in_ok-segments.ensures.all in
    let all = c.as_slice-3.ensures.value ∙ c.in_ok-joins.ensures.all ∙ ap (joins_among C) (c.as_slice.ensures.value ∙ c.in_ok-segments.ensures.all) in
    let images = c.in_ok-of_images.ensures in
    let joins = c.in_ok-of_joins.ensures in
    are_conflicts C c.projection_count-rules.ensures.rules store.loss store.survivors.now (table_on store) c.in_ok-of_images.of_images.items c.in_ok-of_joins.of_joins.items
    c.as_slice-2.result.now segments images.count images.each c.as_slice-3.result.now all joins.count joins.each
    F read store.table store.fits c.gather.result
    (λ L. subst (λ (xs : List (ℕ × Sites)). AreAllHit c.gather.result L ↔ (AreHit xs L × AreHit c.in_ok-of_joins.of_joins.items L)) c.as_slice-4.ensures.value
    (subst (λ (xs : List (ℕ × Sites)). AreAllHit c.gather.result L ↔ (AreHit c.as_slice-4.result.now L × AreHit xs L)) c.as_slice-5.ensures.value (c.gather.ensures L)))
