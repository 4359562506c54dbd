use Rattle.std.proofs.Common.{◌≡◌, ◌∷◌, [], length, refl, sym, subst, arith, inl, inr}
use Rattle.std.proofs.lemmas.Bool.{cases_lt}
use Rattle.std.specs.List.{range_with_len}
use Rattle.cs_schema.specs.Losses.{Sites}
use Rattle.cs_safety.specs.Safety.{IsSafe}
use Rattle.cs_safety.specs.LossSearch.{IsTail}
use Rattle.cs_safety.proofs.LossTails.{loss_tail, tail_loss}
use Rattle.cs_safety.proofs.WithinSafe.{safe_within}
use Rattle.cs_design.specs.Fatal.{either}
use Rattle.cs_design.specs.Tails.{HasUnsafeTail, AreTailsSafe}
use Rattle.cs_design.proofs.Unions.{either_none, second_within}
use Rattle.cs_design.proofs.Tails.{all_sites_tail, in_all_sites, all_lost_is_unsafe}
use Rattle.cs_design.proofs.greatest.greatest_k.Goals as goal

no_sites : (T : Sites) → length T ≡ 0 → T ≡ []
no_sites [] e = refl
no_sites (x ∷ T) e = absurd (omega (arith, e))

pub loop-count-init : goal.loop-count-init
loop-count-init c n T h t =
    let C = c.args.catalog.now in
    let K = c.args.lost in
    let size = t.size in
    let none = no_sites T (omega (arith, size)) in
    let safe = safe_within (either K []) K (either_none K) C C.safety (c.safe.ensures.0 c.if-not-safe.false) in
    subst (λ L. IsSafe C (either K L)) (sym none) safe

pub returns-then-has_unsafe : goal.returns-then-has_unsafe
returns-then-has_unsafe c =
    let C = c.args.catalog.now in
    let K = c.args.lost in
    let low = c.loop-count.auto.count in
    let u = subst (λ V. HasUnsafeTail C K V 1 c.loop-count.count) c.none.ensures c.if-has_unsafe.ensures in
    let size = u.1.size in (
      λ L l few. c.loop-count.invariant (length L) L (omega (arith, few, low)) (loss_tail C L l),
      (u.0, record { loss = tail_loss C c.loop-count.count u.0 u.1; is_unsafe = u.2 }, omega (arith, size, low)),
    )

pub loop-count-preserved : goal.loop-count-preserved
loop-count-preserved c n T h t =
    let C = c.args.catalog.now in
    let K = c.args.lost in
    elim (cases_lt n c.loop-count.count) [
      | inl b ↦ c.loop-count.invariant n T b t
      | inr b ↦
          let e : n ≡ c.loop-count.count = omega arith in
          subst (λ V. AreTailsSafe C K V 1 c.loop-count.count) c.none.ensures c.if-has_unsafe.ensures T (subst (λ m. IsTail C 1 m T) e t)
    ]

pub unreachable-requires : goal.unreachable-requires
unreachable-requires c =
    let C = c.args.catalog.now in
    let K = c.args.lost in
    let All = range_with_len 1 C.sites in
    let done = c.loop-count-test.false in
    let sites = c.site_count-count-end.ensures.count in
    let safe = c.loop-count.invariant C.sites All (omega (arith, done, sites)) (all_sites_tail C) in
    all_lost_is_unsafe C c.site_count-count-end.ensures.rules (either K All) (λ x l h. second_within K All x (in_all_sites C x l h)) safe
