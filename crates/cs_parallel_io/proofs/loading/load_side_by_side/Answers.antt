use Rattle.std.proofs.Common.{inl, inr, sym, subst}
use Rattle.std.proofs.lemmas.Result.{IfOk-weaker, IfErr-weaker}
use Rattle.cs_schema.specs.FileNames.{surviving}
use Rattle.cs_parallel_io.specs.Ahead.{SaysAll}
use Rattle.cs_parallel_io.proofs.Stands.{loads_behind, stops_behind}
use Rattle.cs_parallel_io.proofs.loading.load_side_by_side.Goals as goal

pub returns-in-Ok-clause-ok : goal.returns-in-Ok-clause-ok
returns-in-Ok-clause-ok g c =
    let answers = g.S.SharedSource.answers in
    let fails = g.S.SharedSource.fails in
    IfOk-weaker c.load.result _ _
    (λ files loads. loads_behind (λ a. a.source.now) (λ a. SaysAll answers fails a.source.now a.reads.items) answers fails c.args.source.now (surviving c.args.catalog.now c.args.loss) c.in-Ok.ahead c.load.new.source c.in-Ok.ensures.behind (subst (λ s. SaysAll answers fails s c.in-Ok.ahead.reads.items) (sym c.in-Ok.ensures.behind) c.in-Ok.ensures.said) files loads)
    c.load.ensures.ok

pub returns-in-Ok-clause-err : goal.returns-in-Ok-clause-err
returns-in-Ok-clause-err g c =
    let answers = g.S.SharedSource.answers in
    let fails = g.S.SharedSource.fails in
    IfErr-weaker c.load.result _ _
    (λ fault stops. elim stops [ inl memory ↦ inl memory | inr why ↦ inr (stops_behind (λ a. a.source.now) (λ a. SaysAll answers fails a.source.now a.reads.items) answers fails c.args.source.now (surviving c.args.catalog.now c.args.loss) c.in-Ok.ahead c.load.new.source c.in-Ok.ensures.behind (subst (λ s. SaysAll answers fails s c.in-Ok.ahead.reads.items) (sym c.in-Ok.ensures.behind) c.in-Ok.ensures.said) fault why) ])
    c.load.ensures.err
