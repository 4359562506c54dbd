use Rattle.std.proofs.Common.{inl, inr}
use Rattle.cs_commands.proofs.program.recover_store.Goals as goal

pub returns-in-Err-Memory-clause-err : goal.returns-in-Err-Memory-clause-err
returns-in-Err-Memory-clause-err g c =
    inr (c.in-Ok-rebuild_owned.rebuilt, c.load_store.new.places, record { catalog = c.in-Ok.loaded.0; files = c.in-Ok.loaded.1; loads = c.in-Ok.ensures.ok; answer = c.in-Ok-rebuild_owned.ensures.answer }, inr (_, c.in-Err-Memory.ensures.err))

pub returns-in-Err-Device-clause-err : goal.returns-in-Err-Device-clause-err
returns-in-Err-Device-clause-err g c =
    inr (c.in-Ok-rebuild_owned.rebuilt, c.load_store.new.places, record { catalog = c.in-Ok.loaded.0; files = c.in-Ok.loaded.1; loads = c.in-Ok.ensures.ok; answer = c.in-Ok-rebuild_owned.ensures.answer }, inr (_, c.in-Err-Device.ensures.err))

pub returns-clause-err : goal.returns-clause-err
returns-clause-err g c =
    inr (c.in-Ok-rebuild_owned.rebuilt, c.load_store.new.places, record { catalog = c.in-Ok.loaded.0; files = c.in-Ok.loaded.1; loads = c.in-Ok.ensures.ok; answer = c.in-Ok-rebuild_owned.ensures.answer }, inl (_, c.in-Ok-output.ensures.ok))

pub returns-in-Ok-save_batch-clause-ok : goal.returns-in-Ok-save_batch-clause-ok
returns-in-Ok-save_batch-clause-ok g c =
    record {
      rebuilt = c.in-Ok-rebuild_owned.rebuilt;
      reached = c.load_store.new.places;
      output = c.in-Ok-output.sink;
      marked = c.in-Ok-save_batch.ensures.ok.0;
      rebuilds = record { catalog = c.in-Ok.loaded.0; files = c.in-Ok.loaded.1; loads = c.in-Ok.ensures.ok; answer = c.in-Ok-rebuild_owned.ensures.answer };
      made = c.in-Ok-output.ensures.ok;
      saved = c.in-Ok-save_batch.ensures.ok.1;
      counted = c.len.ensures.count;
    }
