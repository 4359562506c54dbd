use Rattle.std.proofs.Common.{◌≡◌, ◌∙◌, sym, subst, inl, inr}
use Rattle.std.specs.declared.cmp.Ordering.TheVariants.{Less}
use Rattle.std.proofs.lemmas.Option.{none-some, same_Some}
use Rattle.cs_schema.specs.FileNames.{name_cmp}
use Rattle.cs_schema.proofs.Ascending.{false≢true}
use Rattle.cs_rebuild.specs.Reading.{resealed}
use Rattle.cs_rebuild.proofs.Answered.{body_or_rows}
use Rattle.cs_rebuild.proofs.LeastBad.{body_first, digest_bad, digest_before}
use Rattle.cs_rebuild.proofs.sound_files.lesser.Goals as goal

pub returns-in-None : goal.returns-in-None
returns-in-None c C L F cat first h = elim h [
  | inl m ↦ absurd (c.in_default.not-Memory m)
  | inr v ↦ elim (body_or_rows C cat F L c.args.fault v) [
    | inl bad ↦ absurd (none-some bad.0 (c.in-None.ensures.named (resealed F) bad.0 bad.1.fault))
    | inr rows ↦ inr (digest_bad C cat F L c.args.unsealed first rows.0)
  ]
]

pub returns-then-is_before : goal.returns-then-is_before
returns-then-is_before c C L F cat first h = elim h [
  | inl m ↦ inl m
  | inr v ↦ elim (body_or_rows C cat F L c.args.fault v) [
    | inl bad ↦
        let same : c.in-Some.bad ≡ bad.0 = same_Some c.in-Some.bad bad.0 (c.in-Some.ensures.named (resealed F) bad.0 bad.1.fault) in
        inr (body_first C cat F L c.args.unsealed first bad.0 c.args.fault bad.1 (subst (λ n. name_cmp n c.args.unsealed ≡ Less) same (c.is_before.ensures.0 c.if-is_before.true)))
    | inr rows ↦ absurd (rows.1 c.in-Some.ensures.file)
  ]
]

pub returns : goal.returns
returns c C L F cat first h = elim h [
  | inl m ↦ absurd (c.in_default.not-Memory m)
  | inr v ↦ elim (body_or_rows C cat F L c.args.fault v) [
    | inl bad ↦
        let same : c.in-Some.bad ≡ bad.0 = same_Some c.in-Some.bad bad.0 (c.in-Some.ensures.named (resealed F) bad.0 bad.1.fault) in
        inr (digest_before C cat F L c.args.unsealed first bad.0 c.args.fault bad.1 (λ less. false≢true (sym c.if-is_before.false ∙ c.is_before.ensures.1 (subst (λ n. name_cmp n c.args.unsealed ≡ Less) (sym same) less))))
    | inr rows ↦ inr (digest_bad C cat F L c.args.unsealed first rows.0)
  ]
]
