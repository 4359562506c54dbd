use Rattle.std.proofs.Common.{◌<◌, length, sym, ap, ◌∙◌, arith}
use Rattle.std.specs.Prelude.{◌&&◌}
use Rattle.std.specs.List.{zip, list_all}
use Rattle.std.proofs.lemmas.List.{take_all}
use Rattle.std.proofs.lemmas.List.Folds.{list_all_at, list_all_more}
use Rattle.std.proofs.lemmas.Slice.Zip.{get_or-zip}
use Rattle.cs_jix.specs.Entries.{is_allowed}
use Rattle.cs_jix.proofs.JoinLemmas.{zip_length, zip_fits}
use Rattle.cs_jix.proofs.reading.all_allowed.Goals as goal

pub returns-then-not-is_allowed-clause-all : goal.returns-then-not-is_allowed-clause-all
returns-then-not-is_allowed-clause-all c =
    let l = zip_length c.args.segments.now c.args.keys.now c.requires in
    let h : c.loop-i.i < length (zip c.args.segments.now c.args.keys.now) = omega arith in
    sym (list_all_at is_allowed (zip c.args.segments.now c.args.keys.now) c.loop-i.i (0, 0) h
    (ap is_allowed (get_or-zip c.args.segments.now c.args.keys.now c.loop-i.i (0, 0) (omega (arith, c.requires)) c.loop-i-test.true) ∙ sym c.is_allowed.ensures ∙ c.if-not-is_allowed.true))

pub loop-i-preserved : goal.loop-i-preserved
loop-i-preserved c =
    let l = zip_length c.args.segments.now c.args.keys.now c.requires in
    let h : c.loop-i.i < length (zip c.args.segments.now c.args.keys.now) = omega arith in
    list_all_more is_allowed (zip c.args.segments.now c.args.keys.now) c.loop-i.i (0, 0) h
    ∙ (λ i. c.loop-i.invariant i && (ap is_allowed (get_or-zip c.args.segments.now c.args.keys.now c.loop-i.i (0, 0) (omega (arith, c.requires)) c.loop-i-test.true) ∙ sym c.is_allowed.ensures ∙ c.if-not-is_allowed.false) i)

pub returns-clause-all : goal.returns-clause-all
returns-clause-all c =
    let l = zip_length c.args.segments.now c.args.keys.now c.requires in
    sym c.loop-i.invariant ∙ ap (list_all is_allowed) (take_all c.loop-i.i (zip c.args.segments.now c.args.keys.now) (omega arith))

pub returns-clause-fit : goal.returns-clause-fit
returns-clause-fit c = zip_fits c.args.segments.now c.args.keys.now (λ i. omega (arith, c.type_inv.segments i)) (λ i. omega (arith, c.type_inv.keys i))

pub returns-then-not-is_allowed-clause-fit : goal.returns-then-not-is_allowed-clause-fit
returns-then-not-is_allowed-clause-fit c = zip_fits c.args.segments.now c.args.keys.now (λ i. omega (arith, c.type_inv.segments i)) (λ i. omega (arith, c.type_inv.keys i))
