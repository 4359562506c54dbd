use Rattle.std.proofs.Common.{◌≡◌, ℕ, List, [], map, Bor, true, inl, inr, arith, sym, ap, ◌∙◌, subst, get_or}
use Rattle.std.proofs.lemmas.Bool.{cases_lt}
use Rattle.std.proofs.lemmas.Option.{get_or_from_slice_get, slice_get_within}
use Rattle.sha2.specs.Sha256.{sha256}
use Rattle.cs_schema.proofs.Lists.{at_in}
use Rattle.cs_segment.specs.Bodies.{IsSealed}
use Rattle.cs_segment.proofs.Sealing.{digest_at}
use Rattle.cs_segment.proofs.seal.are_sealed.Goals as goal

no_file : Bor (List ℕ)
no_file = record { ref_ptr = (0, 0); now = [] }

pub ends_in-requires : goal.ends_in-requires
unfolding no_file
ends_in-requires c =
    let made : c.in-Ok-digests_of.digests.items ≡ map (λ (t : Bor (List ℕ)). sha256 t.now) c.in-Ok.texts.items = c.in-Ok-digests_of.ensures ∙ ap (map (λ (t : Bor (List ℕ)). sha256 t.now)) c.deref.ensures.value in
    c.index.ensures ∙ digest_at c.args.files.now c.in-Ok.texts.items c.in-Ok-digests_of.digests.items c.loop-i.i no_file c.index.result.now c.in-Ok.ensures made c.loop-i-test.true

pub loop-i-preserved : goal.loop-i-preserved
unfolding no_file
loop-i-preserved c k f low at = elim (cases_lt k c.loop-i.i) [
  | inl before ↦ c.loop-i.invariant k f before at
  | inr past ↦
      let is : k ≡ c.loop-i.i = omega (arith, past, low) in
      subst (λ (b : Bor (List ℕ)). IsSealed b.now true) (ap (λ n. get_or c.args.files.now n no_file) (sym is) ∙ get_or_from_slice_get c.args.files.now k f no_file at) (c.ends_in.ensures c.if-not-ends_in.false)
]

pub returns : goal.returns
returns c = λ _ f is.
    let at = at_in c.args.files.now f is in
    c.loop-i.invariant at.0 f (omega (arith, c.loop-i-test.false, slice_get_within c.args.files.now at.0 f at.1)) at.1
