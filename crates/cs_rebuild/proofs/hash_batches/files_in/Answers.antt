use Rattle.std.proofs.Common.{◌≡◌, ℕ, List, Bor, [], inl, inr, arith, sym, ap, ◌∙◌, subst, get_or}
use Rattle.std.proofs.lemmas.Bool.{cases_lt}
use Rattle.std.proofs.lemmas.Option.{get_or_from_slice_get, slice_get_within}
use Rattle.cs_schema.specs.Lists.{IsIn}
use Rattle.cs_schema.proofs.Lists.{append_left, append_right}
use Rattle.cs_rebuild.proofs.hash_batches.files_in.Goals as goal

no_file : Bor (List ℕ)
no_file = record { ref_ptr = (0, 0); now = [] }

pub loop-i-preserved : goal.loop-i-preserved
unfolding no_file
loop-i-preserved c k f low at own = elim (cases_lt k c.loop-i.i) [
  | inl before ↦ subst (IsIn f) (sym c.in_ok-push.ensures.items) (append_left c.loop-i.own.items _ f (c.loop-i.invariant k f before at own))
  | inr past ↦
      let is : k ≡ c.loop-i.i = omega (arith, past, low) in
      let same = sym (get_or_from_slice_get c.args.files.now k f no_file at) ∙ ap (λ n. get_or c.args.files.now n no_file) is in
      subst (IsIn f) (sym c.in_ok-push.ensures.items) (append_right c.loop-i.own.items _ f (inl same))
]

pub loop-i-preserved-then-batches-i : goal.loop-i-preserved-then-batches-i
loop-i-preserved-then-batches-i c k f low at own = elim (cases_lt k c.loop-i.i) [
  | inl before ↦ c.loop-i.invariant k f before at own
  | inr past ↦
      let is : c.loop-i.i ≡ k = omega (arith, past, low) in
      absurd (c.if-batches-i.true (ap (λ n. get_or c.args.batches.now n 0) is ∙ own))
]

pub returns : goal.returns
returns c = λ k f at own. c.loop-i.invariant k f (omega (arith, c.loop-i-test.false, slice_get_within c.args.files.now k f at)) at own
