use Rattle.std.proofs.Common.{inl}
use Rattle.cs_rebuild.proofs.VerifiedStores.{recovered}
use Rattle.cs_rebuild.proofs.endings.recovered_files.Goals as goal

pub returns-in-Err : goal.returns-in-Err
returns-in-Err g c F read = c.in-Err.ensures.err F read

pub returns-in-Ok-write_files : goal.returns-in-Ok-write_files
returns-in-Ok-write_files g c F read = recovered c.in-Ok.store c.in-Ok.ensures.of F (c.in-Ok.ensures.ok F read) c.in-Ok-write_files.files c.in-Ok-write_files.ensures.ok

pub returns : goal.returns
returns g c F read = inl c.in-Err-write_files.ensures.err
