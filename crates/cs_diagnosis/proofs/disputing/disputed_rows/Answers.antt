use Rattle.std.proofs.Common.{◌≡◌, ◌∷◌, [], List, length, refl, sym, ap, subst, ◌∙◌, arith, inl, inr, Some}
use Rattle.std.proofs.lemmas.Bool.{cases_lt}
use Rattle.std.specs.List.{slice_get}
use Rattle.cs_schema.specs.Lists.{IsIn}
use Rattle.cs_schema.proofs.Lists.{append_left, append_right, in_append}
use Rattle.cs_diagnosis.specs.Disputed.{AreOfTables}
use Rattle.cs_diagnosis.specs.declared.disputing.TableDisputes.{TableDisputes}
use Rattle.cs_diagnosis.specs.declared.tables.FoundTable.{FoundTable}
use Rattle.cs_diagnosis.proofs.DisputedTables.{are_tables}
use Rattle.cs_diagnosis.proofs.disputing.disputed_rows.Goals as goal

pub add_disputes-requires-clause-tables : goal.add_disputes-requires-clause-tables
add_disputes-requires-clause-tables c n t at =
    let d = c.requires in
    are_tables c.args.catalog.now d.0 c.args.diagnosis.now.reach.at_most c.args.diagnosis.now.explanations.items c.args.diagnosis.now.tables.items d.3.explanations n t
    (subst (λ (l : List FoundTable). slice_get l n ≡ Some t) c.as_slice-tables.ensures.value at)

pub loop-first-preserved : goal.loop-first-preserved
loop-first-preserved c =
    let old = c.loop-first.found.items in
    let made = c.in_ok-add_disputes.ensures in
    let now = c.add_disputes.new.found.items in
    let kept = λ (x : TableDisputes) (i : IsIn x old). subst (IsIn x) (sym made.1) (append_left old (made.0 ∷ []) x i) in
    record {
      each = λ x i. elim (in_append old (made.0 ∷ []) x (subst (IsIn x) made.1 i)) [
        | inl before ↦ c.loop-first.invariant.each x before
        | inr last ↦ elim last [ inl e ↦ subst (AreOfTables c.args.catalog.now c.as_slice-tables.result.now c.args.at_most) (sym e) made.2 | inr nothing ↦ absurd nothing ]
      ];
      every = λ m n low high. let x = c.loop-first.invariant.every m n low high in (x.0, kept x.0 x.1, x.2, x.3);
      last = λ m low. elim (cases_lt m c.loop-first.first) [
        | inl l ↦ (let x = c.loop-first.invariant.last m l in (x.0, kept x.0 x.1, x.2, x.3))
        | inr l ↦ (let same : c.loop-first.first ≡ m = omega (arith, low, l) in (made.0, subst (IsIn made.0) (sym made.1) (append_right old (made.0 ∷ []) made.0 (inl refl)), made.3 ∙ same, made.4))
      ];
    }

pub loop-second-preserved : goal.loop-second-preserved
loop-second-preserved c =
    let past = c.loop-first-test.false in
    record {
      each = c.loop-first.invariant.each;
      every = λ m n low high. elim (cases_lt n c.loop-second.second) [
        | inl l ↦ c.loop-first.invariant.every m n low l
        | inr l ↦ (let same : n ≡ c.loop-second.second = omega (arith, high, l) in
            let x = c.loop-first.invariant.last m (omega (arith, low, same, past)) in
            (x.0, x.1, x.2, x.3 ∙ sym same))
      ];
    }

pub returns : goal.returns
returns c =
    let past = c.loop-second-test.false in
    let size = ap length c.as_slice-tables.ensures.value in
    record {
      each = λ x i. subst (λ (l : List FoundTable). AreOfTables c.args.catalog.now l c.args.at_most x) c.as_slice-tables.ensures.value (c.loop-second.invariant.each x i);
      every = λ m n low high. c.loop-second.invariant.every m n low (omega (arith, high, past, size));
    }
