use Rattle.std.proofs.Common.{ℕ, inr, get_or}
use Rattle.std.proofs.lemmas.Option.{slice_get-get_or}
use Rattle.cs_schema.proofs.Lists.{in_at}
use Rattle.cs_store.specs.declared.fault.Fault.{Fault}
use Rattle.cs_rows.specs.Survivors.{contents_of}
use Rattle.cs_order.specs.Tables.{table_of}
use Rattle.cs_rebuild.specs.Verifying.{is_misled}
use Rattle.cs_rebuild.proofs.Firsts.{piece_sound, piece_faulty}
use Rattle.cs_rebuild.proofs.verify_join_indexes.JoinIndexTasksTasks.task.Goals as goal

pub is_led-requires : goal.is_led-requires
is_led-requires g c =
    let xs = c.args.self.now.joins.now in
    c.args.self.now.survive (get_or xs c.args.i (0, 0, 0)) (in_at xs c.args.i (get_or xs c.args.i (0, 0, 0)) (slice_get-get_or xs c.args.i (0, 0, 0) c.requires))

pub returns-then-is_led-clause-ok : goal.returns-then-is_led-clause-ok
returns-then-is_led-clause-ok g c =
    let o = c.args.self.now.store.now in
    (piece_sound (is_misled o.catalog.now o.loss (contents_of o.survivors.now) (table_of o.catalog.now o.walked.rows)) (λ (a : ℕ × ℕ × ℕ). Fault.Misled a.0 a.1 a.2) c.args.self.now.joins.now c.args.i (0, 0, 0) c.is_led.result c.requires c.if-is_led.true c.is_led.ensures, tt)

pub returns-else-is_led-clause-err : goal.returns-else-is_led-clause-err
returns-else-is_led-clause-err g c =
    let o = c.args.self.now.store.now in
    inr (piece_faulty (is_misled o.catalog.now o.loss (contents_of o.survivors.now) (table_of o.catalog.now o.walked.rows)) (λ (a : ℕ × ℕ × ℕ). Fault.Misled a.0 a.1 a.2) c.args.self.now.joins.now c.args.i (0, 0, 0) c.is_led.result c.requires c.if-is_led.false c.is_led.ensures)
