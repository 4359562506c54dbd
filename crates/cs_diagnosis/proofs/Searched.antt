-- What trying a loss adds to what was found and to what is known.
use Rattle.std.proofs.Common.{◌≡◌, ℕ, ◌+◌, ◌<◌, ◌⊎◌, ◌∷◌, ◌++◌, [], List, length, Some, refl, sym, ap, subst, ◌∙◌, inl, inr, arith, get_or, Result, Ok, Err, OnOk}
use Rattle.std.specs.List.{slice_get}
use Rattle.std.proofs.lemmas.Option.{same_Some, none-some, slice_get_within}
use Rattle.cs_schema.specs.CatalogData.{CatalogData}
use Rattle.cs_schema.specs.FileNames.{FileContents}
use Rattle.cs_schema.specs.Losses.{Sites}
use Rattle.cs_schema.specs.Rows.{Row}
use Rattle.cs_safety.specs.Safety.{IsSafe}
use Rattle.cs_safety.specs.Within.{IsWithin}
use Rattle.cs_recovery.specs.Holding.{HoldsSurvivors}
use Rattle.cs_rebuild.specs.OnStore.{table_on}
use Rattle.cs_diagnosis.specs.Candidates.{AreConflictsOf, IsCandidate, HasNoTable, IsWalkedLike}
use Rattle.cs_diagnosis.specs.Conflicts.{AreAllHit}
use Rattle.cs_diagnosis.specs.declared.candidate.Candidate.{Candidate}
use Rattle.cs_diagnosis.specs.declared.conflicts.Conflicts.{Conflicts}
use Rattle.cs_design.proofs.Items.{kept_or_last}
use Rattle.cs_diagnosis.specs.declared.search.Findings.{Findings}
use Rattle.cs_diagnosis.specs.Findings.{IsTableAt}
use Rattle.cs_diagnosis.specs.Tried.{IsTried}
use Rattle.cs_diagnosis.specs.Diagnoses.{rows_found}
use Rattle.cs_diagnosis.specs.Known.{AreWalkedOnce, IsKnown, IsKeptTable, NoneIsHit}
use Rattle.cs_diagnosis.specs.Walks.{AreWalks, IsWalkOutcome}
use Rattle.cs_diagnosis.specs.declared.known.Known.{Known}
use Rattle.cs_diagnosis.specs.declared.tables.FoundTable.{FoundTable}
use Rattle.cs_diagnosis.specs.declared.walks.Walks.{Walks}

-- the item of another list of the same length at the same index
beside : {X Y : Type 0} (xs : List X) (ys : List Y) (n : ℕ) (x : X) → slice_get xs n ≡ Some x → length ys ≡ length xs → (y : Y) × (slice_get ys n ≡ Some y)
beside xs [] n x at same = absurd (let l = slice_get_within xs n x at in omega (arith, l, same))
beside xs (y ∷ ys) n x at same = (get_or (y ∷ ys) n y, Rattle.std.proofs.lemmas.Option.slice_get-get_or (y ∷ ys) n y (let l = slice_get_within xs n x at in omega (arith, l, same)))

-- two facts about one success
pub on_ok_both : {X E : Type 0} (P Q : Type 0) (r : Result X E) → OnOk r P → OnOk r Q → OnOk r (P × Q)
on_ok_both P Q (Ok x) p q = (p, q)
on_ok_both P Q (Err e) p q = tt

module _ (C : CatalogData) (F : FileContents) (first L : Sites) (around : IsWithin first L) where
  module _ (tables : List FoundTable) (known : Known) (is : IsKnown C F first tables known) where
    -- a table that was found is held if the loss contains a site of each of its conflicts
    pub found_held : (n : ℕ) (c : Conflicts) → slice_get known.conflicts.items n ≡ Some c → AreAllHit c L → (T : List Row) × IsTableAt rows_found tables n T × HoldsSurvivors C F L T
    found_held n c at hit =
        let t = beside known.conflicts.items tables n c at (sym is.count) in
        (rows_found t.0, (t.0, t.1, refl), (is.each n t.0 c t.1 at L around).0 hit)

    -- no table that was found is held if the loss misses a conflict of each
    pub none_held : NoneIsHit known.conflicts.items L → (n : ℕ) (T : List Row) → IsTableAt rows_found tables n T → ¬ HoldsSurvivors C F L T
    none_held none n T at held =
        let c = beside tables known.conflicts.items n at.0 at.1 is.count in
        none n c.0 c.1 ((is.each n at.0 c.0 at.1 c.1 L around).1 (subst (HoldsSurvivors C F L) (sym at.2) held))

  -- ---- a table that was not found before

  module _ (table : FoundTable) (conflicts : Conflicts) (are : AreConflictsOf C F first (rows_found table) conflicts) (hit : AreAllHit conflicts L) (old new : Findings FoundTable) (before now : Known) (kept : IsKeptTable L table conflicts old new before now) where
    -- what was known before the walk
    module _ (walks : Walks) (known : IsKnown C F first old.tables.items (record { conflicts = before.conflicts; walks = walks })) where
      pub new_tried : NoneIsHit before.conflicts.items L → IsTried (HoldsSurvivors C F L) rows_found L old new
      new_tried none = IsTried.new_table table (none_held old.tables.items (record { conflicts = before.conflicts; walks = walks }) known none) ((are L around).0 hit) kept.explanations kept.tables

      pub new_known : AreWalks C F first now.walks → AreWalkedOnce now.walks now.conflicts.items → IsKnown C F first new.tables.items now
      new_known outcomes once = record {
        count = ap length kept.conflicts_too ∙ Rattle.std.proofs.Common.length-append before.conflicts.items (conflicts ∷ []) ∙ ap (λ n. n + 1) known.count ∙ sym (Rattle.std.proofs.Common.length-append old.tables.items (table ∷ [])) ∙ sym (ap length kept.tables);
        each = λ n t c a b. go n t c (kept_or_last old.tables.items table n t (ap (λ l. slice_get l n) (sym kept.tables) ∙ a)) (kept_or_last before.conflicts.items conflicts n c (ap (λ l. slice_get l n) (sym kept.conflicts_too) ∙ b));
        walks = outcomes;
        once = once;
      }
        where
          go : (n : ℕ) (t : FoundTable) (c : Conflicts) → (slice_get old.tables.items n ≡ Some t) ⊎ ((n ≡ length old.tables.items) × (t ≡ table)) → (slice_get before.conflicts.items n ≡ Some c) ⊎ ((n ≡ length before.conflicts.items) × (c ≡ conflicts)) → AreConflictsOf C F first (rows_found t) c
          go n t c (inl a) (inl b) = known.each n t c a b
          go n t c (inl a) (inr b) = absurd (let l = slice_get_within old.tables.items n t a in let e = b.0 in omega (arith, l, e, known.count))
          go n t c (inr a) (inl b) = absurd (let l = slice_get_within before.conflicts.items n c b in let e = a.0 in omega (arith, l, e, known.count))
          go n t c (inr a) (inr b) = subst (λ x. AreConflictsOf C F first (rows_found x) c) (sym a.1) (subst (AreConflictsOf C F first (rows_found table)) (sym b.1) are)

-- ---- the result of a walk

-- a loss has the same walk as itself
pub walked_itself : (C : CatalogData) (first L : Sites) → IsWithin first L → IsSafe C L → IsWalkedLike C first L L
walked_itself C first L around safe = record { around = around; safe = safe; alike = λ S w h. h }

pub no_outcome : (C : CatalogData) (F : FileContents) (first L : Sites) → HasNoTable C F first L → IsWalkOutcome C F first L Rattle.std.proofs.Common.None
no_outcome C F first L none = record {
  held = λ M T like held. absurd (none M T like held);
  hit = λ M c like is hit. absurd (none-some c is);
}

pub table_outcome : (C : CatalogData) (F : FileContents) (first L : Sites) (candidate : Candidate) → IsCandidate C F first L candidate → IsWalkOutcome C F first L (Some candidate.conflicts)
table_outcome C F first L candidate is = record {
  held = λ M T like held. (candidate.conflicts, refl, (is.conflicts M like.around).1 (subst (HoldsSurvivors C F M) (is.only M T like held) held));
  hit = λ M c like same hit. (table_on candidate.store, (is.conflicts M like.around).0 (subst (λ (k : Conflicts). AreAllHit k M) (sym (same_Some candidate.conflicts c same)) hit));
}
