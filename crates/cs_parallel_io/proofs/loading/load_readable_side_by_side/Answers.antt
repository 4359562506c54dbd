use Rattle.std.proofs.Common.{sym, subst}
use Rattle.std.proofs.lemmas.Result.{IfOk-weaker}
use Rattle.cs_schema.specs.FileNames.{surviving}
use Rattle.cs_parallel_io.specs.Ahead.{SaysAll}
use Rattle.cs_parallel_io.proofs.Stands.{readable_behind}
use Rattle.cs_parallel_io.proofs.loading.load_readable_side_by_side.Goals as goal

pub returns-clause-ok : goal.returns-clause-ok
returns-clause-ok g c =
    let answers = g.S.SharedSource.answers in
    let fails = g.S.SharedSource.fails in
    IfOk-weaker c.load_readable.result _ _
    (λ found loads. readable_behind (λ a. a.source.now) (λ a. SaysAll answers fails a.source.now a.reads.items) answers fails c.args.source.now (surviving c.args.catalog.now c.args.loss) c.in_ok-ahead.ahead c.load_readable.new.source c.in_ok-ahead.ensures.behind (subst (λ s. SaysAll answers fails s c.in_ok-ahead.ahead.reads.items) (sym c.in_ok-ahead.ensures.behind) c.in_ok-ahead.ensures.said) found.files found.unreadable.items loads)
    c.load_readable.ensures.ok
