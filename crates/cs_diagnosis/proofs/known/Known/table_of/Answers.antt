use Rattle.std.proofs.Common.{sym, ap, ◌∙◌, arith}
use Rattle.std.specs.List.{slice_get}
use Rattle.std.proofs.lemmas.Option.{slice_get_within}
use Rattle.cs_schema.proofs.Ascending.{false≢true}
use Rattle.cs_diagnosis.specs.Conflicts.{AreAllHit}
use Rattle.cs_diagnosis.specs.declared.conflicts.Conflicts.{Conflicts}
use Rattle.cs_design.proofs.Items.{item_at, below_next}
use Rattle.cs_diagnosis.proofs.known.Known.table_of.Goals as goal

pub loop-place-init : goal.loop-place-init
loop-place-init c n k l = absurd (omega (arith, l))

pub returns-then-are_hit : goal.returns-then-are_hit
returns-then-are_hit c =
    let at = item_at c.deref-conflicts-items.result.now c.loop-place.place c.conflicts-item.result c.loop-place-test.true c.conflicts-item.is in
    (c.conflicts-item.result, ap (λ l. slice_get l c.loop-place.place) (sym c.deref-conflicts-items.ensures.value) ∙ at, c.are_hit.ensures.0 c.if-are_hit.true)

pub loop-place-preserved : goal.loop-place-preserved
loop-place-preserved c =
    let at = item_at c.deref-conflicts-items.result.now c.loop-place.place c.conflicts-item.result c.loop-place-test.true c.conflicts-item.is in
    below_next (λ (k : Conflicts). AreAllHit k c.args.loss → ⊥) c.deref-conflicts-items.result.now c.loop-place.place c.conflicts-item.result at
    (λ hit. false≢true (sym c.if-are_hit.false ∙ c.are_hit.ensures.1 hit)) c.loop-place.invariant

pub returns : goal.returns
returns c = λ n k at.
    let there = ap (λ l. slice_get l n) c.deref-conflicts-items.ensures.value ∙ at in
    let low = slice_get_within c.deref-conflicts-items.result.now n k there in
    c.loop-place.invariant n k (omega (arith, low, c.loop-place-test.false)) there
