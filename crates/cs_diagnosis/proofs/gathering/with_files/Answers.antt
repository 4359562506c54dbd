use Rattle.std.proofs.Common.{arith}
use Rattle.std.proofs.lemmas.Option.{slice_get_within}
use Rattle.cs_schema.proofs.Lists.{in_at, at_in}
use Rattle.cs_design.proofs.Items.{item_at, below_next}
use Rattle.cs_diagnosis.specs.Pairs.{IsHit}
use Rattle.cs_diagnosis.proofs.gathering.with_files.Goals as goal

pub with_file-all-requires : goal.with_file-all-requires
with_file-all-requires c =
    let files = c.args.files.now in
    let at = item_at files c.loop-file.file-index c.file-item.result c.loop-file-test.true c.file-item.is in
    c.requires c.file-item.result (in_at files c.loop-file.file-index c.file-item.result at)

pub loop-file-preserved : goal.loop-file-preserved
loop-file-preserved c L =
    let files = c.args.files.now in
    let i = c.loop-file.file-index in
    let at = item_at files i c.file-item.result c.loop-file-test.true c.file-item.is in
    let before = c.loop-file.invariant L in
    let more = c.with_file-all.ensures L in (
      λ hit. let both = more.0 hit in let old = before.0 both.0 in (old.0, below_next (IsHit L) files i c.file-item.result at both.1 old.1),
      λ both. more.1 (before.1 (both.0, λ k x l e. both.1 k x (omega (arith, l)) e), both.1 i c.file-item.result (omega arith) at),
    )

pub returns : goal.returns
returns c L =
    let files = c.args.files.now in
    let all = c.loop-file.invariant L in (
      λ hit. let both = all.0 hit in (both.0, λ x i. let at = at_in files x i in both.1 at.0 x (let l = slice_get_within files at.0 x at.1 in omega (arith, l, c.loop-file-test.false)) at.1),
      λ both. all.1 (both.0, λ k x l e. both.1 x (in_at files k x e)),
    )
