use Rattle.std.proofs.Common.{◌∙◌, ◌∷◌, [], inl, inr, None, Some, List, sym, subst, refl}
use Rattle.std.proofs.lemmas.Result.{on_ok_weaker}
use Rattle.cs_schema.specs.Lists.{IsIn}
use Rattle.cs_schema.specs.Rows.{Row}
use Rattle.cs_schema.proofs.Ascending.{false≢true}
use Rattle.cs_schema.proofs.Lists.{append_left, append_right}
use Rattle.cs_recovery.specs.Holding.{HoldsSurvivors}
use Rattle.cs_rebuild.specs.OnStore.{table_on}
use Rattle.cs_diagnosis.specs.Candidates.{AreConflictsOf}
use Rattle.cs_diagnosis.specs.Tried.{IsTried}
use Rattle.cs_diagnosis.specs.Walks.{AreWalks, IsPlanKept}
use Rattle.cs_diagnosis.specs.declared.known.Known.{Known}
use Rattle.cs_diagnosis.specs.declared.walks.Walks.{Walks}
use Rattle.cs_diagnosis.proofs.Searched.{new_tried, new_known, no_outcome, table_outcome, walked_itself, on_ok_both}
use Rattle.cs_diagnosis.proofs.WalkedOnce.{once_more}
use Rattle.cs_diagnosis.proofs.explaining.walk_loss.Goals as goal

pub table_of-requires-after_bounds : goal.table_of-requires-after_bounds
table_of-requires-after_bounds g c κs within =
    let m = c.args.remains.now in
    let is = rw c.in-Some.is at (c.in_ok-find_candidate.ensures c.requires.read.0 c.requires.read.1) in
    subst (λ D. Rattle.cs_schema.specs.Rows.IsTable D (table_on c.in-Some.candidate.store)) (sym is.catalog) is.table

pub returns-in-None : goal.returns-in-None
returns-in-None g c =
    let m = c.args.remains.now in
    let C = m.catalog.now in
    let L = c.args.loss in
    let before = c.args.known.now in
    let tables = before.conflicts.items in
    let like = walked_itself C m.first L c.requires.within c.requires.safe in
    record {
      tried = on_ok_weaker c.keep.result (λ kept F read known.
          let none = rw c.in-None.is at (c.in_ok-find_candidate.ensures F read) in (
            IsTried.none (λ T held. none L T like held) refl refl,
            record {
              count = known.count;
              each = known.each;
              walks = kept.1 F m.first (no_outcome C F m.first L none) known.walks;
              once = once_more before.walks c.keep.new.self tables tables (λ k i. i) known.once C F m.first L c.requires.within c.requires.safe known.walks c.requires.unknown c.requires.unrefuted
                  None (inl (λ T held. none L T like held)) kept.0;
            },
          )) (on_ok_both _ _ c.keep.result c.keep.ensures.kept c.keep.ensures.walks);
      kept = on_ok_weaker c.keep.result (λ kept. (None, kept)) c.keep.ensures.kept;
    }

pub returns-in_ok-table-in-Some-clause-tried : goal.returns-in_ok-table-in-Some-clause-tried
returns-in_ok-table-in-Some-clause-tried g c =
    let m = c.args.remains.now in
    let C = m.catalog.now in
    let L = c.args.loss in
    let candidate = c.in-Some.candidate in
    let conflicts = candidate.conflicts in
    let table = c.in_ok-table-in-Some.table in
    let hit = c.are_hit.ensures.0 c.if-are_hit.true in
    let before = c.args.known.now in
    let tables = before.conflicts.items in
    let walked : Known = record { conflicts = before.conflicts; walks = c.keep-in-Some.new.self } in
    let now = c.keep_new.new.known in
    let kept = c.in_ok-keep-in-Some.ensures in
    on_ok_weaker c.keep_new.result (λ new F read known.
    let is = rw c.in-Some.is at (c.in_ok-find_candidate.ensures F read) in
    let are = subst (λ T. AreConflictsOf C F m.first T conflicts) (sym c.in_ok-table-in-Some.ensures) is.conflicts in
    let walks = subst (AreWalks C F m.first) (sym new.walks) (kept.walks F m.first (table_outcome C F m.first L candidate is) known.walks) in
    let once = once_more before.walks now.walks tables now.conflicts.items (λ k i. subst (IsIn k) (sym new.conflicts_too) (append_left tables (conflicts ∷ []) k i)) known.once C F m.first L c.requires.within c.requires.safe known.walks c.requires.unknown c.requires.unrefuted
    (Some conflicts) (inr (conflicts, refl, subst (IsIn conflicts) (sym new.conflicts_too) (append_right tables (conflicts ∷ []) conflicts (inl refl))))
    (subst (λ (w : Walks). IsPlanKept C L (Some conflicts) before.walks w) (sym new.walks) kept.kept) in (
      new_tried C F m.first L c.requires.within table conflicts are hit c.args.findings.now c.keep_new.new.findings walked now new before.walks known c.requires.unknown,
      new_known C F m.first L c.requires.within table conflicts are hit c.args.findings.now c.keep_new.new.findings walked now new before.walks known walks once,
    )) c.keep_new.ensures

pub returns-in_ok-table-in-Some-clause-kept : goal.returns-in_ok-table-in-Some-clause-kept
returns-in_ok-table-in-Some-clause-kept g c =
    let C = c.args.remains.now.catalog.now in
    let conflicts = c.in-Some.candidate.conflicts in
    on_ok_weaker c.keep_new.result (λ new. (Some conflicts, subst (λ (w : Walks). IsPlanKept C c.args.loss (Some conflicts) c.args.known.now.walks w) (sym new.walks) c.in_ok-keep-in-Some.ensures.kept)) c.keep_new.ensures

pub returns-else-are_hit-clause-tried : goal.returns-else-are_hit-clause-tried
returns-else-are_hit-clause-tried g c =
    let m = c.args.remains.now in
    let C = m.catalog.now in
    let L = c.args.loss in
    let candidate = c.in-Some.candidate in
    let before = c.args.known.now in
    let tables = before.conflicts.items in
    let like = walked_itself C m.first L c.requires.within c.requires.safe in
    let kept = c.in_ok-keep-in-Some.ensures in
    λ F read known.
    let is = rw c.in-Some.is at (c.in_ok-find_candidate.ensures F read) in
    let missed : (T : List Row) → ¬ HoldsSurvivors C F L T = λ T held.
    let hit = c.are_hit.ensures.1 ((is.conflicts L c.requires.within).1 (subst (HoldsSurvivors C F L) (is.only L T like held) held)) in
    false≢true (sym c.if-are_hit.false ∙ hit) in (
      IsTried.none missed refl refl,
      record {
        count = known.count;
        each = known.each;
        walks = kept.walks F m.first (table_outcome C F m.first L candidate is) known.walks;
        once = once_more before.walks c.keep-in-Some.new.self tables tables (λ k i. i) known.once C F m.first L c.requires.within c.requires.safe known.walks c.requires.unknown c.requires.unrefuted
            (Some candidate.conflicts) (inl missed) kept.kept;
      },
    )
