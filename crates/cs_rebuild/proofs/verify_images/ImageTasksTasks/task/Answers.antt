use Rattle.std.proofs.Common.{ℕ, inr, get_or}
use Rattle.std.proofs.lemmas.Option.{slice_get-get_or}
use Rattle.cs_schema.proofs.Lists.{in_at}
use Rattle.cs_store.specs.declared.fault.Fault.{Fault}
use Rattle.cs_rows.specs.Survivors.{contents_of}
use Rattle.cs_order.specs.Tables.{table_of}
use Rattle.cs_rebuild.specs.Verifying.{is_misplaced}
use Rattle.cs_rebuild.proofs.Firsts.{piece_sound, piece_faulty}
use Rattle.cs_rebuild.proofs.verify_images.ImageTasksTasks.task.Goals as goal

pub is_placed-requires : goal.is_placed-requires
is_placed-requires g c =
    let xs = c.args.self.now.segments.now in
    c.args.self.now.survive (get_or xs c.args.i (0, 0)) (in_at xs c.args.i (get_or xs c.args.i (0, 0)) (slice_get-get_or xs c.args.i (0, 0) c.requires))

pub returns-then-is_placed-clause-ok : goal.returns-then-is_placed-clause-ok
returns-then-is_placed-clause-ok g c =
    let o = c.args.self.now.store.now in
    (piece_sound (is_misplaced o.catalog.now (contents_of o.survivors.now) (table_of o.catalog.now o.walked.rows)) (λ (a : ℕ × ℕ). Fault.Misplaced a.0 a.1) c.args.self.now.segments.now c.args.i (0, 0) c.is_placed.result c.requires c.if-is_placed.true c.is_placed.ensures, tt)

pub returns-else-is_placed-clause-err : goal.returns-else-is_placed-clause-err
returns-else-is_placed-clause-err g c =
    let o = c.args.self.now.store.now in
    inr (piece_faulty (is_misplaced o.catalog.now (contents_of o.survivors.now) (table_of o.catalog.now o.walked.rows)) (λ (a : ℕ × ℕ). Fault.Misplaced a.0 a.1) c.args.self.now.segments.now c.args.i (0, 0) c.is_placed.result c.requires c.if-is_placed.false c.is_placed.ensures)
