use Rattle.std.proofs.Common.{◌≤◌, arith}
use Rattle.std.proofs.Math.Nat.{mul-le-mul_left}
use Rattle.cs_rebuild.proofs.segment_encoder.column_size.Goals as goal

pub returns : goal.returns
returns c =
    let few : c.min-row.result ≤ 265 = omega (arith, c.min-row.ensures) in
    omega (arith, c.saturating_mul.ensures, mul-le-mul_left {m = c.min-row.result} {n = 265} c.args.rows few)
