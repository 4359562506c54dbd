use Rattle.std.proofs.Common.{◌≡◌, Some, arith}
use Rattle.cs_rebuild.specs.FilesToWrite.{all_files}
use Rattle.cs_rebuild.specs.OnStore.{held_on, table_on, written_on}
use Rattle.cs_rebuild.proofs.Keeping.{no_rest}
use Rattle.cs_rebuild.proofs.WrittenFiles.{one_put}
use Rattle.cs_rebuild.proofs.FilesToWrite.{all_left, all_names, last_taken, one_less_left, none_left}
use Rattle.cs_rebuild.proofs.writing.collect_files.Goals as goal

pub loop-name-init : goal.loop-name-init
loop-name-init c =
    let x = c.args.store.now in
    record {
      texts = c.requires.texts;
      left = all_left (λ file. file.0) (written_on x) (all_files x.catalog.now x.loss) c.args.made.items c.in_ok-files.files c.in_ok-files.ensures c.requires.named (all_names x.catalog.now x.loss c.projection_count-rules.ensures.rules (held_on x) (table_on x));
    }

pub loop-name-preserved : goal.loop-name-preserved
loop-name-preserved c =
    let all = written_on c.args.store.now in
    let rest = c.loop-name.made.items in
    let new = c.pop.new.self.items in
    let split = c.in-Some.ensures.items in
    let texts = last_taken (λ file. all file.0 ≡ Some file.1.items) rest new (c.in-Some.name, c.in-Some.bytes) split c.loop-name.invariant.texts in
    let put = one_put all c.loop-name.files c.put.new.self c.in-Some.name c.in-Some.bytes.items texts.1 c.in_ok-put.ensures.ok in
    record {
      texts = texts.0;
      left = one_less_left (λ file. file.0) all rest new (c.in-Some.name, c.in-Some.bytes) c.loop-name.files c.put.new.self split put.0 put.1 c.loop-name.invariant.left;
    }

pub returns : goal.returns
returns c =
    let none = (no_rest _ c.pop.result c.in_default.not-Some c.pop.ensures.cases).0 in
    none_left (λ file. file.0) (written_on c.args.store.now) c.loop-name.made.items c.loop-name.files (omega (arith, none)) c.loop-name.invariant.left
