use Rattle.std.proofs.Common.{List, subst, sym}
use Rattle.cs_schema.specs.declared.file_name.FileName.{FileName}
use Rattle.cs_store.specs.FileSet.{contents_of}
use Rattle.cs_inspection.specs.Laws.{AreAbsent}
use Rattle.cs_diagnosis.specs.Diagnoses.{IsDiagnosis}
use Rattle.cs_diagnosis.specs.Disputed.{AreAllDisputes}
use Rattle.cs_restoring.proofs.Unreadable.{absent}
use Rattle.cs_parallel_io.specs.Standing.{standing}
use Rattle.pinepolo_answers.specs.OnlyLoss.{AreFatalBeside}
use Rattle.pinepolo_verbs.specs.Changed.{AreChanged}
use Rattle.pinepolo_verbs.proofs.diagnosing.diagnose.Goals as goal

pub diagnose-requires-clause-at_most : goal.diagnose-requires-clause-at_most
diagnose-requires-clause-at_most g c κs within = c.args.request.now.sites_in_limits

pub diagnose-requires-clause-absent : goal.diagnose-requires-clause-absent
diagnose-requires-clause-absent g c κs within =
    let found = c.in-Ok-read_trusted.found in
    subst (AreAbsent (contents_of found.files)) (sym c.as_slice-unreadable.ensures.value) (absent (contents_of found.files) found.unreadable.items c.in-Ok-read_trusted.ensures.apart)

pub returns-in-Ok-new-clause-ok : goal.returns-in-Ok-new-clause-ok
returns-in-Ok-new-clause-ok g c =
    let catalog = c.in-Ok-find_trusted.found.0 in
    let found = c.in-Ok-read_trusted.found in
    record {
      catalog = catalog;
      files = found.files;
      unreadable = found.unreadable.items;
      manifest = c.in-Ok.manifest;
      reached = c.manifest_if.new.places;
      store = c.in-Ok-find_trusted.found.1;
      left = c.in-Ok-find_trusted.found.1;
      reads_manifest = c.in-Ok.ensures.ok;
      finds = c.in-Ok-find_trusted.ensures.ok;
      loads = c.in-Ok-read_trusted.ensures.loads;
      is = record {
        catalog = c.in-Ok-new.ensures.found.0;
        diagnosis = subst (IsDiagnosis catalog (contents_of found.files) found.unreadable.items c.args.request.now.at_most) (sym c.in-Ok-new.ensures.found.1)
            (subst (λ (U : List FileName). IsDiagnosis catalog (contents_of found.files) U c.args.request.now.at_most c.in-Ok-diagnose_files.diagnosis) c.as_slice-unreadable.ensures.value c.in-Ok-diagnose_files.ensures);
        disputed = subst (λ d. AreAllDisputes catalog d.tables.items c.args.request.now.disputes c.in-Ok-new.diagnosed.disputes.items) (sym c.in-Ok-new.ensures.found.1)
            (subst (λ v. AreAllDisputes catalog c.in-Ok-diagnose_files.diagnosis.tables.items c.args.request.now.disputes v.items) (sym c.in-Ok-new.ensures.compared.0) c.in-Ok-disputed_rows.ensures);
        fatal = subst (λ d. AreFatalBeside catalog d c.in-Ok-new.diagnosed.fatal.items) (sym c.in-Ok-new.ensures.found.1) c.in-Ok-new.ensures.fatal;
        changed = subst (λ v. AreChanged catalog c.in-Ok.manifest (standing g.P.Store.SharedSource.answers) (standing g.P.Store.SharedSource.fails) c.in-Ok-find_trusted.found.1 found.unreadable.items v.items) (sym c.in-Ok-new.ensures.compared.1)
            (subst (λ (U : List FileName). AreChanged catalog c.in-Ok.manifest (standing g.P.Store.SharedSource.answers) (standing g.P.Store.SharedSource.fails) c.in-Ok-find_trusted.found.1 U c.in-Ok-changed_files.changed.items) c.as_slice-unreadable.ensures.value c.in-Ok-changed_files.ensures);
      };
      unfinished = rw c.in-Ok-new.ensures.compared.2 c.in-Ok-unfinished.ensures;
    }
