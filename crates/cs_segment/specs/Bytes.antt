-- Numbers in files: unsigned and big-endian.
use Rattle.std.specs.Prelude.{ℕ, List}
use Rattle.std.specs.Int.{w16, w32, to_be_bytes}

abbrev pub be16 : ℕ → List ℕ
be16 n = to_be_bytes w16 n

abbrev pub be32 : ℕ → List ℕ
be32 n = to_be_bytes w32 n
