use Rattle.std.proofs.Common.{ℕ, List, sym, ◌∙◌, ap, subst, map, arith}
use Rattle.cs_store.specs.FileSet.{contents_of}
use Rattle.cs_rebuild.specs.Reading.{resealed}
use Rattle.cs_schema.specs.Lists.{IsIn}
use Rattle.cs_jix.specs.JoinIndex.{Place}
use Rattle.cs_recovery.specs.Contents.{IsJoinOf}
use Rattle.cs_rebuild.proofs.Verdicts.{memory_or}
use Rattle.cs_rebuild.proofs.Names.{join_sound, one_target, no_target, in_push}
use Rattle.cs_rebuild.proofs.files_of.SegmentSource.read_joins.Goals as goal

pub loop-q-preserved-then-not-has_join : goal.loop-q-preserved-then-not-has_join
loop-q-preserved-then-not-has_join c =
    record {
      targets = no_target c.args.self.now.catalog.now c.args.self.now.p c.loop-q.q _ (sym c.has_join.ensures ∙ c.if-not-has_join.true) c.loop-q.invariant.targets;
      joins = c.loop-q.invariant.joins;
    }

pub returns-in-Err-clause-err : goal.returns-in-Err-clause-err
returns-in-Err-clause-err c =
    memory_or _ c.in-Err.ensures.err (λ h. record {
      target = c.loop-q.q;
      below = omega (arith, c.projection_count-q-end.ensures.count);
      declared = sym c.has_join.ensures ∙ c.if-not-has_join.false;
      refused = h;
      before = join_sound c.args.self.now.catalog.now (resealed (contents_of c.args.self.now.files.now)) c.args.self.now.p c.args.self.now.s c.args.self.now.exists c.loop-q.joins.items c.loop-q.q c.loop-q.invariant.targets c.loop-q.invariant.joins;
    })

pub loop-q-preserved : goal.loop-q-preserved
loop-q-preserved c =
    let pushed = c.in-Ok-push.ensures.items in
    record {
      targets = ap (λ l. map (λ (j : ℕ × List Place). j.0) l) pushed ∙ one_target c.args.self.now.catalog.now c.args.self.now.p c.loop-q.q c.loop-q.joins.items c.in-Ok.join (sym c.has_join.ensures ∙ c.if-not-has_join.false) c.loop-q.invariant.targets;
      joins = subst (λ l. (j : ℕ × List Place) → IsIn j l → IsJoinOf (resealed (contents_of c.args.self.now.files.now)) c.args.self.now.p c.args.self.now.s j.0 j.1) (sym pushed)
          (in_push (λ (j : ℕ × List Place). IsJoinOf (resealed (contents_of c.args.self.now.files.now)) c.args.self.now.p c.args.self.now.s j.0 j.1) c.loop-q.joins.items (c.loop-q.q, c.in-Ok.join) c.loop-q.invariant.joins c.in-Ok.ensures.ok);
    }
