use Rattle.std.proofs.Common.{◌≡◌, ◌∷◌, ◌++◌, ◌+◌, ◌<◌, [], List, ℕ, length, sym, subst, take, get_or, suc, arith, ap, ◌∙◌}
use Rattle.std.proofs.Math.Seq.{take-suc}
use Rattle.std.proofs.lemmas.List.{take_all}
use Rattle.std.proofs.lemmas.Option.{none-some, same_Some, slice_get-get_or}
use Rattle.cs_schema.specs.declared.file_name.FileName.{FileName}
use Rattle.cs_schema.proofs.Lists.{in_at}
use Rattle.cs_store.specs.FileSet.{contents_of}
use Rattle.cs_rebuild.specs.Reading.{AreSealedAmong, reseal}
use Rattle.cs_rebuild.proofs.Sealing.{sealed_more, stands_before}
use Rattle.cs_rebuild.proofs.digests.first_unsealed.Goals as goal

-- the names so far, and one more
one_more : (names : List FileName) (i : ℕ) → i < length names → take i names ++ get_or names i (FileName.Seg 0 0) ∷ [] ≡ take (i + 1) names
one_more names i low =
    let e : suc i ≡ i + 1 = omega arith in
    sym (take-suc names i (FileName.Seg 0 0) low) ∙ ap (λ n. take n names) e

pub loop-name-preserved-in_default : goal.loop-name-preserved-in_default
loop-name-preserved-in_default c =
    let F = contents_of c.args.files.now in
    let names = c.args.names.now in
    let i = c.loop-name.name-index in
    subst (AreSealedAmong F) (one_more names i c.loop-name-test.true)
    (sealed_more F (take i names) (get_or names i (FileName.Seg 0 0)) c.loop-name.invariant (λ bytes e. absurd (none-some bytes (c.in_default.ensures ∙ e))))

pub loop-name-preserved : goal.loop-name-preserved
loop-name-preserved c =
    let F = contents_of c.args.files.now in
    let names = c.args.names.now in
    let i = c.loop-name.name-index in
    let right : c.in-Some.bytes.now ≡ reseal c.in-Some.bytes.now = c.is_sealed.ensures.found c.if-not-is_sealed.false in
    subst (AreSealedAmong F) (one_more names i c.loop-name-test.true)
    (sealed_more F (take i names) (get_or names i (FileName.Seg 0 0)) c.loop-name.invariant (λ bytes e. subst (λ b. b ≡ reseal b) (same_Some c.in-Some.bytes.now bytes (c.in-Some.ensures ∙ e)) right))

pub returns-then-not-is_sealed : goal.returns-then-not-is_sealed
returns-then-not-is_sealed c =
    let names = c.args.names.now in
    let i = c.loop-name.name-index in
    let low = c.loop-name-test.true in
    record {
      named = in_at names i (get_or names i (FileName.Seg 0 0)) (slice_get-get_or names i (FileName.Seg 0 0) low);
      bytes = c.in-Some.bytes.now;
      there = sym c.in-Some.ensures;
      unsealed = c.is_sealed.ensures.none c.if-not-is_sealed.true;
      before = λ m b is less e. c.loop-name.invariant m b (stands_before names c.requires i (FileName.Seg 0 0) low m is less) e;
    }

pub returns : goal.returns
returns c = subst (AreSealedAmong (contents_of c.args.files.now)) (take_all c.loop-name.name-index c.args.names.now (omega arith)) c.loop-name.invariant
