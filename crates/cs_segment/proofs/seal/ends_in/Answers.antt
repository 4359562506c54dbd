use Rattle.std.proofs.Common.{◌≡◌, ◌-◌, length, take, drop, sym, ap, ◌∙◌, subst, true}
use Rattle.std.proofs.lemmas.Slice.Eq.{bytes_eq-Decides}
use Rattle.std.proofs.lemmas.List.{take-append-drop}
use Rattle.cs_segment.specs.Bodies.{IsSealed}
use Rattle.cs_segment.proofs.Sealing.{followed}
use Rattle.cs_segment.proofs.seal.ends_in.Goals as goal

pub returns : goal.returns
returns c = λ yes.
    let bytes = c.args.bytes.now in
    let n = length bytes - 32 in
    let end = (bytes_eq-Decides c.split_at.result.1.now c.as_slice.result.now).0 (sym c.eq.ensures ∙ yes) ∙ c.as_slice.ensures ∙ c.requires in
    let is : drop n bytes ≡ c.split_at.result.1.now = ap (λ m. drop m bytes) (sym c.saturating_sub.ensures) ∙ sym c.split_at.ensures.back in
    subst (λ b. IsSealed b true) (take-append-drop n bytes) (followed (take n bytes) (drop n bytes) (is ∙ end))
