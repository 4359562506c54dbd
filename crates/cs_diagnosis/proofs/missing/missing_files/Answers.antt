use Rattle.std.proofs.Common.{◌≡◌, ◌∙◌, ◌++◌, ◌+◌, [], ◌∷◌, None, inl, inr, refl, sym, ap, subst, take, arith, get_or}
use Rattle.std.proofs.lemmas.List.{take_more, take_all}
use Rattle.std.proofs.lemmas.Option.{none-some, slice_get-get_or}
use Rattle.cs_schema.specs.declared.file_name.FileName.{FileName}
use Rattle.cs_schema.specs.FileNames.{HasName, Survives}
use Rattle.cs_schema.specs.Lists.{IsIn}
use Rattle.cs_schema.proofs.Lists.{append_left, append_right, in_at, in_append}
use Rattle.cs_schema.proofs.Surviving.{surviving_names}
use Rattle.cs_store.specs.FileSet.{contents_of}
use Rattle.cs_inspection.specs.declared.badness.Badness.{Badness}
use Rattle.cs_diagnosis.proofs.missing.missing_files.Goals as goal
use Rattle.cs_diagnosis.proofs.missing.missing_files.Goals.{in-Some, in-None+in_ok-push-in-None}

missing_one : (n m : FileName) → n ≡ m → ◌≡◌ {A = FileName × Badness} (n, Badness.Missing) (m, Badness.Missing)
missing_one n m e = ap (λ (x : FileName). (x, Badness.Missing)) e

pub loop-name-preserved : goal.loop-name-preserved
loop-name-preserved c =
    let C = c.args.catalog.now in
    let F = contents_of c.args.files.now in
    let names = c.deref-name-items.result.now in
    let k = c.loop-name.name-index in
    let name = get_or names k (FileName.Seg 0 0) in
    let there = in_at names k name (slice_get-get_or names k (FileName.Seg 0 0) (omega (arith, c.loop-name-test.true))) in
    let named = ((surviving_names C c.none.result c.projection_count-rules.ensures.rules name).0 (subst (IsIn name) (c.deref-name-items.ensures.value ∙ c.in_ok-names.ensures.names) there)).0 in
    let one_more : take (k + 1) names ≡ take k names ++ name ∷ [] = take_more names k (FileName.Seg 0 0) (omega (arith, c.loop-name-test.true)) in
    elim c.match-get.branch [
      | in-Some w ↦ record {
        each = λ b i. c.loop-name.invariant.each b (subst (λ m. IsIn b m.items) w.missing-is i);
        all = λ n i none. subst (λ m. IsIn {X = FileName × Badness} (n, Badness.Missing) m.items) (sym w.missing-is)
            (elim (in_append (take k names) (name ∷ []) n (subst (IsIn n) one_more i)) [
              | inl before ↦ c.loop-name.invariant.all n before none
              | inr last ↦ elim last [
                | inl same ↦ absurd (none-some w.in-Some.field-0.now (sym none ∙ ap F same ∙ sym w.in-Some.ensures))
                | inr end ↦ absurd end
              ]
            ]);
      }
      | in-None+in_ok-push-in-None w ↦
          let pushed = w.in_ok-push-in-None.ensures.items in
          record {
            each = λ b i. elim (in_append c.loop-name.missing.items _ b (subst (IsIn b) pushed (subst (λ m. IsIn b m.items) w.missing-is i))) [
              | inl before ↦ c.loop-name.invariant.each b before
              | inr last ↦ elim last [
                | inl same ↦ subst (λ (x : FileName × Badness). HasName C x.0 × (F x.0 ≡ None)) (sym same) (named, sym w.in-None.ensures)
                | inr none ↦ absurd none
              ]
            ];
            all = λ n i none. subst (λ m. IsIn {X = FileName × Badness} (n, Badness.Missing) m.items) (sym w.missing-is) (subst (IsIn (n, Badness.Missing)) (sym pushed)
                (elim (in_append (take k names) (name ∷ []) n (subst (IsIn n) one_more i)) [
                  | inl before ↦ append_left c.loop-name.missing.items _ (n, Badness.Missing) (c.loop-name.invariant.all n before none)
                  | inr last ↦ elim last [
                    | inl same ↦ append_right c.loop-name.missing.items _ (n, Badness.Missing) (inl (missing_one n name same))
                    | inr end ↦ absurd end
                  ]
                ]));
          }
    ]

pub returns-clause-all : goal.returns-clause-all
returns-clause-all c n has none =
    let names = c.deref-name-items.result.now in
    let there : Survives c.args.catalog.now [] n = (has, refl) in
    let whole : take c.loop-name.name-index names ≡ names = take_all c.loop-name.name-index names (omega (arith, c.loop-name-test.false)) in
    let named : IsIn n names = subst (IsIn n) (sym (c.deref-name-items.ensures.value ∙ c.in_ok-names.ensures.names)) ((surviving_names c.args.catalog.now c.none.result c.projection_count-rules.ensures.rules n).1 (subst (λ L. Survives c.args.catalog.now L n) (sym c.none.ensures) there)) in
    c.loop-name.invariant.all n (subst (IsIn n) (sym whole) named) none
