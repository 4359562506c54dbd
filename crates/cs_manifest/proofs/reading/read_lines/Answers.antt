use Rattle.std.proofs.Common.{ℕ, ◌<◌, List, [], IsSome, length, map, take, get_or, sym, subst, arith}
use Rattle.std.proofs.lemmas.List.{map_more}
use denote.Ref.{Bor}
use Rattle.cs_manifest.specs.Reading.{AreLinesOf}
use Rattle.cs_manifest.proofs.ReadingLemmas.{no_lines, read_more, stops_at}
use Rattle.cs_manifest.proofs.reading.read_lines.Goals as goal

no_line : Bor (List ℕ)
no_line = record { ref_ptr = (0, 0); now = [] }

pub loop-i-init : goal.loop-i-init
loop-i-init c = no_lines c.new-manifest.result c.new-manifest.ensures

pub loop-i-preserved : goal.loop-i-preserved
unfolding no_line
loop-i-preserved c =
    let within : c.loop-i.i < length c.args.lines.now = omega arith in
    let line = get_or c.args.lines.now c.loop-i.i no_line in
    subst (λ texts. AreLinesOf texts c.add.new.self) (sym (map_more (λ x. x.now) c.args.lines.now c.loop-i.i no_line within))
    (read_more (map (λ x. x.now) (take c.loop-i.i c.args.lines.now)) c.loop-i.manifest c.loop-i.invariant line.now c.in-Some.path.now c.entry_of.new.digest c.add.new.self c.in-Some.ensures (rw c.in-Ok-true.field-0-test at c.in-Ok-true.ensures))

pub returns-in_default : goal.returns-in_default
unfolding no_line
returns-in_default c =
    let within : c.loop-i.i < length c.args.lines.now = omega arith in
    let line = get_or c.args.lines.now c.loop-i.i no_line in
    (line.now, map (λ x. x.now) (take c.loop-i.i c.args.lines.now), stops_at c.args.lines.now c.loop-i.i no_line c.loop-i.manifest within c.loop-i.invariant, c.in_default.ensures)

pub returns-in-Ok-false : goal.returns-in-Ok-false
unfolding no_line
returns-in-Ok-false c =
    let within : c.loop-i.i < length c.args.lines.now = omega arith in
    let line = get_or c.args.lines.now c.loop-i.i no_line in
    let named = rw c.in-Ok-false.field-0-test at c.in-Ok-false.ensures in (
      line.now,
      map (λ x. x.now) (take c.loop-i.i c.args.lines.now),
      stops_at c.args.lines.now c.loop-i.i no_line c.loop-i.manifest within c.loop-i.invariant,
      (c.in-Some.path.now, c.entry_of.new.digest, c.in-Some.ensures, subst IsSome (c.loop-i.invariant.says c.in-Some.path.now) named),
    )
