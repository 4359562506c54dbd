use Rattle.std.proofs.Common.{◌≡◌, ◌<◌, ℕ, [], ◌∷◌, ◌++◌, length, length-append, append_assoc, append-nil, sym, ap, ◌∙◌, arith}
use Rattle.cs_schema.specs.CatalogData.{segments}
use Rattle.cs_rebuild.proofs.SurveySteps.{survivors_below, survivors_of, one_survivor, no_survivor, one_projection}
use Rattle.cs_rebuild.proofs.segment_lists.surviving_segments.Goals as goal

pub loop-s-init : goal.loop-s-init
loop-s-init c =
    let few = c.loop-p.invariant.few in
    record { few = omega (arith, few); all = c.loop-p.invariant.all ∙ sym (append-nil (survivors_below c.args.catalog.now c.args.loss c.loop-p.p)) }

pub loop-s-preserved-then-lost : goal.loop-s-preserved-then-lost
loop-s-preserved-then-lost c =
    let C = c.args.catalog.now in
    let L = c.args.loss in
    let few = c.loop-s.invariant.few in
    record { few = omega (arith, few); all = c.loop-s.invariant.all ∙ ap (λ l. survivors_below C L c.loop-p.p ++ l) (sym (no_survivor C L c.loop-p.p c.loop-s.s (sym c.lost.ensures ∙ c.if-lost.true))) }

pub loop-s-preserved : goal.loop-s-preserved
loop-s-preserved c =
    let C = c.args.catalog.now in
    let L = c.args.loss in
    let p = c.loop-p.p in
    let a : ℕ × ℕ = (p, c.loop-s.s) in
    let few = c.loop-s.invariant.few in
    let pushed = c.in_ok-push.ensures.items in
    let long = ap length pushed ∙ length-append c.loop-s.segments.items (a ∷ []) in
    let below = survivors_below C L p in
    record {
      few = omega (arith, few, long);
      all = pushed ∙ ap (λ l. l ++ a ∷ []) c.loop-s.invariant.all ∙ append_assoc below (survivors_of C L p c.loop-s.s) (a ∷ []) ∙ ap (λ l. below ++ l) (sym (one_survivor C L p c.loop-s.s (sym c.lost.ensures ∙ c.if-lost.false)));
    }

pub loop-p-preserved : goal.loop-p-preserved
loop-p-preserved c =
    let C = c.args.catalog.now in
    let L = c.args.loss in
    let p = c.loop-p.p in
    let there : p < length C.projections = omega (arith, c.projection_count-p-end.ensures.count) in
    let cuts = (c.projection_count-p-end.ensures.rules.projections p there).few_cuts in
    let end : c.loop-s.s ≡ segments C p = omega (arith, c.segments-s-end.ensures.count) in
    let few = c.loop-s.invariant.few in
    record { few = omega (arith, few, cuts, end); all = c.loop-s.invariant.all ∙ ap (λ n. survivors_below C L p ++ survivors_of C L p n) end ∙ sym (one_projection C L p) }
