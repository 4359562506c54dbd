use Rattle.std.proofs.Common.{rules, ◌≡◌, ℕ, List, ◌-◌, [], slice_index, refl, sym, inl, inr, ap, ◌∙◌, arith}
use Rattle.std.proofs.lemmas.List.{get_or-set_same, get_or-set_other, length-set}
use Rattle.std.proofs.lemmas.Bool.{cases_lt}
use Rattle.sha2.proofs.Schedule256.{slice_index-schedule_first, slice_index-schedule_next}
use Rattle.cs_digests.specs.Lanes.{of_four}
use Rattle.cs_digests.proofs.schedule.make_words.Goals as goal

pub load-preserved : goal.load-preserved
load-preserved c = (
  search rules,
  λ k j lt low. elim (cases_lt k c.load.i) [
    | inl a ↦ ap (λ (v : List ℕ). slice_index v j) (get_or-set_other c.load.w c.load.i k c.words_at.result [] (omega arith)) ∙ c.load.invariant.1 k j a low
    | inr b ↦
        let e : c.load.i ≡ k = omega arith in
        rw (← e) (ap (λ (v : List ℕ). slice_index v j) (get_or-set_same c.load.w c.load.i c.words_at.result [] (omega (arith, c.load.invariant.0))) ∙ c.words_at.ensures j low)
  ],
)

pub schedule-init : goal.schedule-init
schedule-init c j low = record {
  long = c.load.invariant.0;
  each = λ k lt. c.load.invariant.1 k j (omega arith) low ∙ sym (slice_index-schedule_first (of_four c.args.b0.now c.args.b1.now c.args.b2.now c.args.b3.now j) 48 k lt);
}

pub schedule-preserved : goal.schedule-preserved
schedule-preserved c j low =
    let b = of_four c.args.b0.now c.args.b1.now c.args.b2.now c.args.b3.now j in
    let t = c.schedule.t in
    let w = c.schedule.w in
    let held = c.schedule.invariant j low in
    let there = held.long in
    record {
      long = length-set w t c.word_after.result ∙ there;
      each = λ k lt. elim (cases_lt k t) [
        | inl a ↦ ap (λ (v : List ℕ). slice_index v j) (get_or-set_other w t k c.word_after.result [] (omega arith)) ∙ held.each k a
        | inr d ↦
            let e : t ≡ k = omega arith in
            rw (← e)
            (ap (λ (v : List ℕ). slice_index v j) (get_or-set_same w t c.word_after.result [] (omega (arith, there)))
            ∙ c.word_after.ensures j low
            ∙ rw (held.each (t - 2) (omega arith), held.each (t - 7) (omega arith), held.each (t - 15) (omega arith), held.each (t - 16) (omega arith)) refl
            ∙ sym (slice_index-schedule_next b 48 t (omega arith) (omega arith)))
      ];
    }

pub returns : goal.returns
returns c j low =
    let done : c.schedule.t ≡ 64 = omega (arith, c.schedule.auto.t-end (omega arith)) in
    rw done at c.schedule.invariant j low
