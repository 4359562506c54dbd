use Rattle.std.proofs.Common.{List, ℕ, ◌++◌, ap, sym, ◌∙◌}
use Rattle.cs_segment.specs.Bytes.{be16, be32}
use Rattle.cs_segment.proofs.Heads.{named_is, placed_is}
use Rattle.cs_segment.proofs.reader.read_head.Goals as goal

pub returns-in_err-placed-clause-none : goal.returns-in_err-placed-clause-none
returns-in_err-placed-clause-none c = rw c.from_residual-in_err-placed.ensures (λ rows rest h.
    c.in_err-placed.ensures.none (be16 c.args.s ++ (be32 rows ++ (be16 c.args.width ++ rest)))
    (named_is c.args.p c.args.s c.args.width c.args.bytes.now c.in_ok-named.named.now rows rest c.in_ok-named.ensures.found h
    ∙ ap (λ (a : List ℕ). a ++ (be16 c.args.s ++ (be32 rows ++ (be16 c.args.width ++ rest)))) (sym c.to_be_bytes.ensures)))

pub returns-in_err-counted-clause-none : goal.returns-in_err-counted-clause-none
returns-in_err-counted-clause-none c = rw c.from_residual-in_err-counted.ensures (λ rows rest h.
    c.in_err-counted.ensures.none (be32 rows ++ (be16 c.args.width ++ rest))
    (placed_is c.args.p c.args.s c.args.width c.args.bytes.now c.in_ok-named.named.now c.to_be_bytes.result c.in_ok-placed.placed.now rows rest c.in_ok-named.ensures.found c.to_be_bytes.ensures c.in_ok-placed.ensures.found h
    ∙ ap (λ (a : List ℕ). a ++ (be32 rows ++ (be16 c.args.width ++ rest))) (sym c.to_be_bytes-2.ensures)))
