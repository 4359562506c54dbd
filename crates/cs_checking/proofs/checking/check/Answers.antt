use Rattle.std.proofs.Common.{◌≡◌, ◌==◌, ◌∙◌, List, ℕ, ap, length, not, subst}
use Rattle.cs_schema.specs.FileNames.{surviving}
use Rattle.cs_schema.specs.declared.file_name.FileName.{FileName}
use Rattle.cs_store.specs.FileSet.{contents_of}
use Rattle.cs_store.specs.LoadReadable.{LoadsReadable}
use Rattle.cs_parallel_io.specs.Standing.{standing}
use Rattle.cs_checking.specs.Checks.{IsJudged}
use Rattle.cs_checking.proofs.checking.check.Goals as goal

pub returns-in-Ok-judge-clause-ok : goal.returns-in-Ok-judge-clause-ok
returns-in-Ok-judge-clause-ok g c =
    let read : c.as_slice-unreadable.result.now ≡ c.in-Ok-load_readable_side_by_side.found.unreadable.items = cc in
    record {
      files = c.in-Ok-load_readable_side_by_side.found.files;
      unreadable = c.in-Ok-load_readable_side_by_side.found.unreadable.items;
      store = c.in-Ok.found.1;
      left = c.in-Ok.found.1;
      finds = c.in-Ok.ensures.ok;
      loads = subst (λ (L : List ℕ). LoadsReadable (standing g.P.Store.SharedSource.answers) (standing g.P.Store.SharedSource.fails) (surviving c.in-Ok.found.0 L) c.in-Ok.found.1 c.in-Ok-load_readable_side_by_side.found.files c.in-Ok-load_readable_side_by_side.found.unreadable.items c.in-Ok.found.1) c.none.ensures c.in-Ok-load_readable_side_by_side.ensures.ok;
      judged = subst (λ (U : List FileName). IsJudged c.in-Ok.found.0 (contents_of c.in-Ok-load_readable_side_by_side.found.files) U c.args.request.now.k c.in-Ok-judge.bad.items c.in-Ok-judge.verdict) read c.in-Ok-judge.ensures;
      is_unreadable = ap not (c.is_empty-is_unreadable.ensures ∙ ap (λ (names : List FileName). length names == 0) read);
      unfinished = c.in-Ok-unfinished.ensures;
    }

pub invariant_of-result : goal.invariant_of-result
invariant_of-result g c = record { named = λ b is. (c.in-Ok-judge.ensures.inspected.each b.0 b.1 is).0 }
