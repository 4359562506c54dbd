use Rattle.std.proofs.Common.{◌≡◌, ◌++◌, refl, sym, ap, ◌∙◌, arith, subst, List, ℕ}
use Rattle.std.specs.List.{zip, list_all}
use Rattle.cs_schema.specs.Lists.{IsIn}
use Rattle.cs_segment.specs.SegmentFile.{sealed}
use Rattle.cs_jix.specs.JoinIndex.{Place, IsJoinIndexFile}
use Rattle.cs_jix.specs.Entries.{join_head, is_allowed}
use Rattle.cs_jix.proofs.JoinLemmas.{no_head, no_number, bad_count, bad_entries, read_file, zip_length, one_reading}
use Rattle.cs_jix.proofs.reading.read_jix_text.Goals as goal
use Rattle.cs_jix.proofs.reading.read_jix_text.Goals.{then-count-gt-DELTA_KEYS-via-then-count-gt-DELTA_KEYS, then-count-gt-DELTA_KEYS-via-else-count-gt-DELTA_KEYS+then-body-count}

pub returns-in_default-clause-refused : goal.returns-in_default-clause-refused
returns-in_default-clause-refused c _ es f =
    let front : c.as_slice.result.now ≡ join_head c.args.p c.args.s c.args.q = c.as_slice.ensures ∙ c.head-front.ensures in
    no_head c.args.p c.args.s c.args.q (sealed c.args.text.now) c.args.text.now refl
    (λ rest e. c.in_default.ensures.none rest (e ∙ ap (λ (x : List ℕ). x ++ rest) (sym front))) es f

pub returns-in_default-number-clause-refused : goal.returns-in_default-number-clause-refused
returns-in_default-number-clause-refused c _ es f =
    let front : c.as_slice.result.now ≡ join_head c.args.p c.args.s c.args.q = c.as_slice.ensures ∙ c.head-front.ensures in
    no_number c.args.p c.args.s c.args.q (sealed c.args.text.now) c.args.text.now refl
    c.in-Some.rest.now (c.in-Some.ensures.found ∙ ap (λ (x : List ℕ). x ++ c.in-Some.rest.now) front) c.in_default-number.ensures.none es f

pub returns-then-count-gt-DELTA_KEYS-clause-refused : goal.returns-then-count-gt-DELTA_KEYS-clause-refused
returns-then-count-gt-DELTA_KEYS-clause-refused c _ es f =
    let front : c.as_slice.result.now ≡ join_head c.args.p c.args.s c.args.q = c.as_slice.ensures ∙ c.head-front.ensures in
    bad_count c.args.p c.args.s c.args.q (sealed c.args.text.now) c.args.text.now refl
    c.in-Some.rest.now c.in-Some-number.body.now c.in-Some-number.count (c.in-Some.ensures.found ∙ ap (λ (x : List ℕ). x ++ c.in-Some.rest.now) front)
    c.in-Some-number.ensures.found.0 c.in-Some-number.ensures.found.1
    (λ l m. elim c.then-count-gt-DELTA_KEYS.branch [
      | then-count-gt-DELTA_KEYS-via-then-count-gt-DELTA_KEYS w ↦ absurd (omega arith)
      | then-count-gt-DELTA_KEYS-via-else-count-gt-DELTA_KEYS+then-body-count w ↦ absurd (omega arith)
    ]) es f

pub returns-then-not-all_allowed-clause-refused : goal.returns-then-not-all_allowed-clause-refused
returns-then-not-all_allowed-clause-refused c _ es f =
    let front : c.as_slice.result.now ≡ join_head c.args.p c.args.s c.args.q = c.as_slice.ensures ∙ c.head-front.ensures in
    bad_entries c.args.p c.args.s c.args.q (sealed c.args.text.now) c.args.text.now refl
    c.in-Some.rest.now c.in-Some-number.body.now c.in-Some-number.count (c.in-Some.ensures.found ∙ ap (λ (x : List ℕ). x ++ c.in-Some.rest.now) front)
    c.in-Some-number.ensures.found.0
    (zip c.in_ok-segments.segments.items c.in_ok-segments.keys.items)
    (λ e i. c.all_allowed.ensures.fit e (subst (λ (x : List Place). IsIn e x) (sym (λ j. zip (c.deref.ensures.value j) (c.deref-2.ensures.value j))) i))
    c.in_ok-segments.ensures.text (ap (list_all is_allowed) (sym (λ j. zip (c.deref.ensures.value j) (c.deref-2.ensures.value j))) ∙ sym c.all_allowed.ensures.all ∙ c.if-not-all_allowed.true) es f

pub returns-clause-found : goal.returns-clause-found
returns-clause-found c =
    let front : c.as_slice.result.now ≡ join_head c.args.p c.args.s c.args.q = c.as_slice.ensures ∙ c.head-front.ensures in
    subst (λ (x : List Place). IsJoinIndexFile c.args.p c.args.s c.args.q (sealed c.args.text.now) x) (sym c.from_parts.ensures)
    (read_file c.args.p c.args.s c.args.q (sealed c.args.text.now) c.args.text.now refl
    c.in-Some.rest.now c.in-Some-number.body.now c.in-Some-number.count (c.in-Some.ensures.found ∙ ap (λ (x : List ℕ). x ++ c.in-Some.rest.now) front)
    c.in-Some-number.ensures.found.0 (omega arith)
    (zip c.in_ok-segments.segments.items c.in_ok-segments.keys.items) (zip_length c.in_ok-segments.segments.items c.in_ok-segments.keys.items (c.in_ok-segments.ensures.segments ∙ sym c.in_ok-segments.ensures.keys) ∙ c.in_ok-segments.ensures.keys)
    c.in_ok-segments.ensures.text (sym (λ i. list_all is_allowed (zip (c.deref.ensures.value i) (c.deref-2.ensures.value i))) ∙ sym c.all_allowed.ensures.all ∙ c.if-not-all_allowed.false))

pub returns-clause-only : goal.returns-clause-only
returns-clause-only c = λ es f. one_reading c.args.p c.args.s c.args.q (sealed c.args.text.now) es c.from_parts.result f (
    let front : c.as_slice.result.now ≡ join_head c.args.p c.args.s c.args.q = c.as_slice.ensures ∙ c.head-front.ensures in
    subst (λ (x : List Place). IsJoinIndexFile c.args.p c.args.s c.args.q (sealed c.args.text.now) x) (sym c.from_parts.ensures)
    (read_file c.args.p c.args.s c.args.q (sealed c.args.text.now) c.args.text.now refl
    c.in-Some.rest.now c.in-Some-number.body.now c.in-Some-number.count (c.in-Some.ensures.found ∙ ap (λ (x : List ℕ). x ++ c.in-Some.rest.now) front)
    c.in-Some-number.ensures.found.0 (omega arith)
    (zip c.in_ok-segments.segments.items c.in_ok-segments.keys.items) (zip_length c.in_ok-segments.segments.items c.in_ok-segments.keys.items (c.in_ok-segments.ensures.segments ∙ sym c.in_ok-segments.ensures.keys) ∙ c.in_ok-segments.ensures.keys)
    c.in_ok-segments.ensures.text (sym (λ i. list_all is_allowed (zip (c.deref.ensures.value i) (c.deref-2.ensures.value i))) ∙ sym c.all_allowed.ensures.all ∙ c.if-not-all_allowed.false)))
