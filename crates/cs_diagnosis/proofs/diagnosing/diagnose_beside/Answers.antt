use Rattle.std.proofs.lemmas.Result.{IfOk-weaker}
use Rattle.cs_store.specs.FileSet.{contents_of}
use Rattle.cs_diagnosis.proofs.GoodFiles.{told_beside}
use Rattle.cs_diagnosis.proofs.diagnosing.diagnose_beside.Goals as goal

pub diagnose_read-requires-clause-read : goal.diagnose_read-requires-clause-read
diagnose_read-requires-clause-read g c κs within =
    let m = c.args.remains.now in
    let F = contents_of c.args.files.now in
    let told = told_beside m.catalog.now c.args.remains.now.rules F c.args.unreadable.now c.requires.absent m.first m.survivors.now c.requires.read c.requires.missing c.others-rest.result c.others-rest.ensures c.in-Ok.bad.items c.in-Ok.ensures in
    (F, c.args.unreadable.now, c.requires.read, told)

pub returns-in-Ok : goal.returns-in-Ok
returns-in-Ok g c =
    let m = c.args.remains.now in
    let F = contents_of c.args.files.now in
    let told = told_beside m.catalog.now c.args.remains.now.rules F c.args.unreadable.now c.requires.absent m.first m.survivors.now c.requires.read c.requires.missing c.others-rest.result c.others-rest.ensures c.in-Ok.bad.items c.in-Ok.ensures in
    IfOk-weaker c.diagnose_read.result _ _ (λ d h. h F c.args.unreadable.now c.requires.read told) c.diagnose_read.ensures
