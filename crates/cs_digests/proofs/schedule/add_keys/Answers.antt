use Rattle.std.proofs.Common.{◌≡◌, ℕ, List, [], slice_index, refl, inl, inr, ap, ◌∙◌, arith}
use Rattle.std.proofs.lemmas.List.{get_or-set_same, get_or-set_other, length-set}
use Rattle.std.proofs.lemmas.Bool.{cases_lt}
use Rattle.cs_digests.proofs.schedule.add_keys.Goals as goal

pub keys-init : goal.keys-init
keys-init c = (c.told-w, λ b j low held. record { long = held.long; each = λ t lt. absurd (omega arith); rest = λ t le lt. held.each t lt })

pub keys-preserved : goal.keys-preserved
keys-preserved c = (
  length-set c.keys.w c.keys.t c.add.result ∙ c.keys.invariant.0,
  λ b j low held.
      let so = c.keys.invariant.1 b j low held in
      let w = c.keys.w in
      let t = c.keys.t in
      record {
        long = length-set w t c.add.result ∙ so.long;
        each = λ k lt. elim (cases_lt k t) [
          | inl a ↦ ap (λ (v : List ℕ). slice_index v j) (get_or-set_other w t k c.add.result [] (omega arith)) ∙ so.each k a
          | inr d ↦
              let e : t ≡ k = omega arith in
              rw (← e) (ap (λ (v : List ℕ). slice_index v j) (get_or-set_same w t c.add.result [] (omega (arith, so.long))) ∙ c.add.ensures j low ∙ rw (c.all.ensures j low, so.rest t (omega arith) (omega arith)) refl)
        ];
        rest = λ k le lt. ap (λ (v : List ℕ). slice_index v j) (get_or-set_other w t k c.add.result [] (omega arith)) ∙ so.rest k (omega arith) lt;
      },
)

pub returns : goal.returns
returns c = λ b j low held.
    let done : c.keys.t ≡ 64 = omega (arith, c.keys.auto.t-end) in
    rw done at c.keys.invariant.1 b j low held
