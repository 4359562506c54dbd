use Rattle.std.proofs.Common.{◌+◌, ◌≤◌, sym, ◌∙◌, subst, arith, inl, inr}
use Rattle.cs_schema.proofs.Lists.{member_in, in_member, in_append, append_left, append_right}
use Rattle.cs_design.proofs.Unions.{IsUnionBelow, either_is, no_union, add_site, skip_site}
use Rattle.cs_design.proofs.within.either.Goals as goal
use Rattle.cs_design.proofs.within.either.Goals.{then-has, then-has-via-then-has, then-has-via-else-has+then-in_first, else-has+else-in_first}

pub loop-site-init : goal.loop-site-init
loop-site-init c = record {
  first = λ h. absurd (omega arith);
  second = λ h. absurd (omega arith);
  union = no_union c.args.first c.args.second c.none-both.result c.none-both.ensures;
}

pub loop-site-preserved : goal.loop-site-preserved
loop-site-preserved c =
    let i = c.loop-site.invariant in
    let L = c.args.first in
    let M = c.args.second in
    let site = c.loop-site.site in
    record {
      first = λ h. c.has-in_first.ensures.sites;
      second = λ h. c.has.ensures.sites;
      union = elim c.if-has.branch [
        | then-has w ↦ subst (λ B. IsUnionBelow L M B (site + 1)) (sym w.both-is) (add_site L M c.loop-site.both site i.union w.with-both.result w.with-both.ensures.place (elim w.then-has.branch [
          | then-has-via-then-has v ↦ append_right L M site (member_in M site (sym c.has.ensures.value ∙ v.if-has.true))
          | then-has-via-else-has+then-in_first v ↦ append_left L M site (member_in L site (sym c.has-in_first.ensures.value ∙ v.if-in_first.true))
        ]))
        | else-has+else-in_first w ↦ subst (λ B. IsUnionBelow L M B (site + 1)) (sym w.both-is) (skip_site L M c.loop-site.both site i.union (sym c.has-in_first.ensures.value ∙ w.if-in_first.false) (sym c.has.ensures.value ∙ w.if-has.false))
      ];
    }

pub returns : goal.returns
returns c =
    let i = c.loop-site.invariant in
    let L = c.args.first in
    let M = c.args.second in
    let low = c.loop-site.auto.site in
    let end = c.loop-site-test.false in
    either_is L M c.loop-site.both i.union.in_order i.union.from
    (λ x h.
    let range : (1 ≤ x) × (x ≤ 16) = elim (in_append L M x h) [ inl k ↦ (i.first (omega (arith, low, end))).1 x (in_member L x k) | inr k ↦ (i.second (omega (arith, low, end))).1 x (in_member M x k) ] in
    i.union.below x range.0 (let r = range.1 in omega (arith, r, end)) h)
