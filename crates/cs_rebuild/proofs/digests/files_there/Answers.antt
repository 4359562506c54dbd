use Rattle.std.proofs.Common.{◌≡◌, ◌∷◌, ◌++◌, ◌+◌, [], List, ℕ, length, ◌<◌, sym, subst, take, get_or, suc, arith, ap, ◌∙◌}
use Rattle.std.proofs.Math.Seq.{take-suc}
use Rattle.cs_schema.specs.declared.file_name.FileName.{FileName}
use Rattle.cs_schema.specs.Lists.{IsIn}
use Rattle.cs_store.specs.FileSet.{contents_of}
use Rattle.cs_rebuild.proofs.Sealing.{there_more, not_there}
use Rattle.cs_rebuild.proofs.digests.files_there.Goals as goal

-- the names so far, and one more
one_more : (names : List FileName) (i : ℕ) → i < length names → take i names ++ get_or names i (FileName.Seg 0 0) ∷ [] ≡ take (i + 1) names
one_more names i low =
    let e : suc i ≡ i + 1 = omega arith in
    sym (take-suc names i (FileName.Seg 0 0) low) ∙ ap (λ n. take n names) e

pub loop-name-preserved : goal.loop-name-preserved
loop-name-preserved c =
    let F = contents_of c.args.files.now in
    let names = c.args.names.now in
    let i = c.loop-name.name-index in
    let all = there_more F (take i names) (get_or names i (FileName.Seg 0 0)) c.loop-name.there.items c.in-Some.bytes c.loop-name.invariant c.in-Some.ensures in
    λ n bytes is e. rw c.in_ok-push.ensures.items (all n bytes (subst (λ (l : List FileName). IsIn n l) (sym (one_more names i c.loop-name-test.true)) is) e)

pub loop-name-preserved-in_default : goal.loop-name-preserved-in_default
loop-name-preserved-in_default c =
    let F = contents_of c.args.files.now in
    let names = c.args.names.now in
    let i = c.loop-name.name-index in
    let all = not_there F (take i names) (get_or names i (FileName.Seg 0 0)) c.loop-name.there.items c.loop-name.invariant c.in_default.ensures in
    λ n bytes is e. all n bytes (subst (λ (l : List FileName). IsIn n l) (sym (one_more names i c.loop-name-test.true)) is) e
