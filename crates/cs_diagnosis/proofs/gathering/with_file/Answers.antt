use Rattle.std.proofs.Common.{sym, subst, ◌∙◌}
use Rattle.cs_schema.proofs.Ascending.{false≢true}
use Rattle.cs_diagnosis.specs.Conflicts.{AreAllHit}
use Rattle.cs_diagnosis.specs.declared.conflicts.Conflicts.{Conflicts}
use Rattle.cs_diagnosis.proofs.Gathered.{pairs_more, pairs_less, pairs_hit}
use Rattle.cs_diagnosis.proofs.gathering.with_file.Goals as goal
use Rattle.cs_diagnosis.proofs.gathering.with_file.Goals.{then-has, else-has}

pub loop-other-preserved : goal.loop-other-preserved
loop-other-preserved c L =
    let site = c.args.site in
    let others = c.args.others in
    let other = c.loop-other.other in
    let before = c.loop-other.invariant L in
    elim c.if-has.branch [
      | then-has w ↦
          let more = w.with_pair-all.ensures L in (
            λ hit. let both = more.0 (subst (λ (k : Conflicts). AreAllHit k L) w.all-is hit) in let old = before.0 both.0 in (old.0, pairs_more L site others other (λ m. both.1) old.1),
            λ both. let less = pairs_less L site others other both.1 in subst (λ (k : Conflicts). AreAllHit k L) (sym w.all-is) (more.1 (before.1 (both.0, less.0), less.1 (sym c.has.ensures.value ∙ w.if-has.true))),
          )
      | else-has w ↦ (
        λ hit. let old = before.0 (subst (λ (k : Conflicts). AreAllHit k L) w.all-is hit) in (old.0, pairs_more L site others other (λ m. false≢true (sym w.if-has.false ∙ c.has.ensures.value ∙ m)) old.1),
        λ both. subst (λ (k : Conflicts). AreAllHit k L) (sym w.all-is) (before.1 (both.0, (pairs_less L site others other both.1).0)),
      )
    ]

pub returns : goal.returns
returns c L =
    let all = c.loop-other.invariant L in
    let pairs = pairs_hit L c.args.site c.args.others c.count-sites.ensures.sites c.loop-other.other c.loop-other-test.false in (
      λ hit. let both = all.0 hit in (both.0, pairs.0 both.1),
      λ both. all.1 (both.0, pairs.1 both.1),
    )
