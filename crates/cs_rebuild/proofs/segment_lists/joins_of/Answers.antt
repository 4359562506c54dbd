use Rattle.std.proofs.Common.{◌≡◌, ◌<◌, ℕ, [], ◌∷◌, ◌++◌, get_or, length, length-append, append_assoc, append-nil, take, sym, ap, ◌∙◌, arith}
use Rattle.std.proofs.lemmas.Option.{slice_get-get_or}
use Rattle.cs_schema.proofs.Lists.{in_at}
use Rattle.cs_rebuild.specs.Surveys.{joins_among, joins_at}
use Rattle.cs_rebuild.proofs.SurveySteps.{one_join, no_join, one_segment}
use Rattle.cs_rebuild.proofs.segment_lists.joins_of.Goals as goal

pub has_join-requires : goal.has_join-requires
has_join-requires c =
    let xs = c.args.segments.now in
    let i = c.loop-i.i in
    (c.requires.exist (get_or xs i (0, 0)) (in_at xs i (get_or xs i (0, 0)) (slice_get-get_or xs i (0, 0) c.loop-i-test.true))).0

pub loop-q-init : goal.loop-q-init
loop-q-init c =
    let few = c.loop-i.invariant.few in
    record { few = omega (arith, few); all = c.loop-i.invariant.all ∙ sym (append-nil (joins_among c.args.catalog.now (take c.loop-i.i c.args.segments.now))) }

pub loop-q-preserved-then-not-has_join : goal.loop-q-preserved-then-not-has_join
loop-q-preserved-then-not-has_join c =
    let C = c.args.catalog.now in
    let a : ℕ × ℕ = get_or c.args.segments.now c.loop-i.i (0, 0) in
    let few = c.loop-q.invariant.few in
    record { few = omega (arith, few); all = c.loop-q.invariant.all ∙ ap (λ l. joins_among C (take c.loop-i.i c.args.segments.now) ++ l) (sym (no_join C a.0 a.1 c.loop-q.q (sym c.has_join.ensures ∙ c.if-not-has_join.true))) }

pub loop-q-preserved : goal.loop-q-preserved
loop-q-preserved c =
    let C = c.args.catalog.now in
    let a : ℕ × ℕ = get_or c.args.segments.now c.loop-i.i (0, 0) in
    let x : ℕ × ℕ × ℕ = (a.0, a.1, c.loop-q.q) in
    let few = c.loop-q.invariant.few in
    let pushed = c.in_ok-push.ensures.items in
    let long = ap length pushed ∙ length-append c.loop-q.joins.items (x ∷ []) in
    let before = joins_among C (take c.loop-i.i c.args.segments.now) in
    record {
      few = omega (arith, few, long);
      all = pushed ∙ ap (λ l. l ++ x ∷ []) c.loop-q.invariant.all ∙ append_assoc before (joins_at C a.0 a.1 c.loop-q.q) (x ∷ []) ∙ ap (λ l. before ++ l) (sym (one_join C a.0 a.1 c.loop-q.q (sym c.has_join.ensures ∙ c.if-not-has_join.false)));
    }

pub loop-i-preserved : goal.loop-i-preserved
loop-i-preserved c =
    let C = c.args.catalog.now in
    let xs = c.args.segments.now in
    let a : ℕ × ℕ = get_or xs c.loop-i.i (0, 0) in
    let end : c.loop-q.q ≡ length C.projections = omega (arith, c.projection_count-q-end.ensures.count) in
    let most = c.projection_count-q-end.ensures.rules.projection_range.1 in
    let few = c.loop-q.invariant.few in
    record { few = omega (arith, few, most, end); all = c.loop-q.invariant.all ∙ ap (λ n. joins_among C (take c.loop-i.i xs) ++ joins_at C a.0 a.1 n) end ∙ sym (one_segment C xs c.loop-i.i c.loop-i-test.true) }
