use Rattle.std.proofs.Common.{◌+◌, sym, subst, ◌∙◌}
use Rattle.cs_schema.proofs.Ascending.{false≢true}
use Rattle.cs_design.specs.Fatal.{HoldsOne}
use Rattle.cs_design.specs.Order.{AreAllLosses}
use Rattle.cs_design.proofs.Items.{item_at}
use Rattle.cs_design.proofs.Searched.{IsSearched, begin, skip, skip_lost, add, finish}
use Rattle.cs_design.proofs.fatal.fatal_losses.Goals as goal
use Rattle.cs_design.proofs.fatal.fatal_losses.Goals.{then-not-shares_site+then-not-holds_one+then-not-safe_with+in_ok-push, else-not-shares_site, else-not-shares_site-via-then-not-shares_site+then-not-holds_one+else-not-safe_with, else-not-shares_site-via-then-not-shares_site+else-not-holds_one, else-not-shares_site-via-else-not-shares_site}

pub loop-loss-init : goal.loop-loss-init
loop-loss-init c =
    let C = c.args.catalog.now in
    let losses = c.deref-loss-items.result.now in
    let all = subst (AreAllLosses C c.site_count.result) (sym c.deref-loss-items.ensures.value) c.in_ok-losses.ensures in
    subst (IsSearched C c.args.lost losses 0) (sym c.new-fatal.ensures.items) (begin C c.args.lost losses c.site_count.result all)

pub loop-loss-preserved : goal.loop-loss-preserved
loop-loss-preserved c =
    let C = c.args.catalog.now in
    let K = c.args.lost in
    let losses = c.deref-loss-items.result.now in
    let all = subst (AreAllLosses C c.site_count.result) (sym c.deref-loss-items.ensures.value) c.in_ok-losses.ensures in
    let i = c.loop-loss.loss-index in
    let found = c.loop-loss.fatal.items in
    let L = c.loss-item.result in
    let at = item_at losses i L c.loop-loss-test.true c.loss-item.is in
    let s = c.loop-loss.invariant in
    elim c.if-not-shares_site.branch [
      | then-not-shares_site+then-not-holds_one+then-not-safe_with+in_ok-push w ↦
          let new : ¬ HoldsOne found L = λ h. false≢true (sym w.if-not-holds_one.true ∙ w.holds_one.ensures.1 (subst (λ Ls. HoldsOne Ls L) (sym w.as_slice.ensures.value) h)) in
          subst (λ f. IsSearched C K losses (i + 1) f.items) (sym w.fatal-is) (subst (IsSearched C K losses (i + 1)) (sym w.in_ok-push.ensures.items)
          (add C K losses c.site_count.result all i found s L at w.if-not-shares_site.ensures new (λ h. false≢true (sym w.if-not-safe_with.true ∙ w.safe_with.ensures.1 h))))
      | else-not-shares_site w ↦ subst (λ f. IsSearched C K losses (i + 1) f.items) (sym w.fatal-is) (elim w.else-not-shares_site.branch [
        | else-not-shares_site-via-then-not-shares_site+then-not-holds_one+else-not-safe_with v ↦ skip C K losses c.site_count.result all i found s L at (λ u. absurd (u (v.safe_with.ensures.0 v.if-not-safe_with.false)))
        | else-not-shares_site-via-then-not-shares_site+else-not-holds_one v ↦ skip C K losses c.site_count.result all i found s L at (λ u. subst (λ Ls. HoldsOne Ls L) v.as_slice.ensures.value (v.holds_one.ensures.0 v.if-not-holds_one.false))
        | else-not-shares_site-via-else-not-shares_site v ↦ (let x = v.if-not-shares_site.ensures in skip_lost C K losses c.site_count.result all i found s L at x.0 x.1 x.2)
      ])
    ]

pub returns : goal.returns
returns c =
    let C = c.args.catalog.now in
    let losses = c.deref-loss-items.result.now in
    let all = subst (AreAllLosses C c.site_count.result) (sym c.deref-loss-items.ensures.value) c.in_ok-losses.ensures in
    finish C c.args.lost losses c.site_count.result all c.loop-loss.loss-index c.loop-loss.fatal.items c.loop-loss.invariant c.site_count.ensures.count c.loop-loss-test.false
