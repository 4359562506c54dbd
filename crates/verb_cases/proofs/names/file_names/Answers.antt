use Rattle.std.proofs.Common.{arith, map}
use Rattle.std.specs.FinMap.{entries, len-entries}
use Rattle.std.proofs.Math.Seq.{take-length}
use Rattle.std.proofs.lemmas.List.{map-append, length-map}
use Rattle.cs_schema.specs.FileNames.{file_path}
use Rattle.verb_cases.proofs.Taking.{take_next_made}
use Rattle.verb_cases.proofs.names.file_names.Goals as goal

pub loop-i-preserved : goal.loop-i-preserved
loop-i-preserved c =
    let next = take_next_made (λ file. file_path file.0) (entries c.args.files.now) c.loop-i.i _ c.at-name.ensures in
    grind (arith, map-append, next)

pub returns : goal.returns
returns c =
    let all = take-length (map (λ file. file_path file.0) (entries c.args.files.now)) in
    let count = length-map (entries c.args.files.now) (λ file. file_path file.0) in
    grind (arith, all, count, len-entries c.args.files.now)
