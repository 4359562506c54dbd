use Rattle.std.proofs.Common.{List, ℕ, ◌++◌, ap, sym, ◌∙◌, arith}
use Rattle.cs_segment.specs.Bytes.{be16}
use Rattle.cs_delta.proofs.HeadTexts.{counts_text, placed_is, counts_are}
use Rattle.cs_delta.proofs.reading.read_counts.Goals as goal

pub returns-in_err-placed-clause-none : goal.returns-in_err-placed-clause-none
returns-in_err-placed-clause-none c = rw c.from_residual.ensures (λ rows top rest h.
    c.in_err-placed.ensures.none (be16 c.args.s ++ counts_text rows top rest)
    (h.text ∙ ap (λ (a : List ℕ). a ++ (be16 c.args.s ++ counts_text rows top rest)) (sym c.to_be_bytes.ensures)))

pub returns-in_err-counted-clause-none : goal.returns-in_err-counted-clause-none
returns-in_err-counted-clause-none c = rw c.from_residual-in_err-counted.ensures (λ rows top rest h.
    c.in_err-counted.ensures.none (counts_text rows top rest)
    (placed_is c.args.p c.args.s c.args.bytes.now c.to_be_bytes.result c.in_ok-placed.placed.now rows top rest c.to_be_bytes.ensures c.in_ok-placed.ensures.found h
    ∙ ap (λ (a : List ℕ). a ++ counts_text rows top rest) (sym c.to_be_bytes-2.ensures)))

pub returns-then-rows-gt-SEGMENT_ROWS-clause-none : goal.returns-then-rows-gt-SEGMENT_ROWS-clause-none
returns-then-rows-gt-SEGMENT_ROWS-clause-none c = λ rows top rest h.
    let same = counts_are c.args.p c.args.s c.args.bytes.now c.to_be_bytes.result c.in_ok-placed.placed.now c.to_be_bytes-2.result c.in_ok-counted.counted.now c.in_ok-rows.topped.now c.in_ok-top.rest.now c.in_ok-rows.rows c.in_ok-top.top rows top rest
    c.to_be_bytes.ensures c.in_ok-placed.ensures.found c.to_be_bytes-2.ensures c.in_ok-counted.ensures.found c.in_ok-rows.ensures.found.0 c.in_ok-rows.ensures.found.1 c.in_ok-top.ensures.found.0 c.in_ok-top.ensures.found.1 h in
    let n = same.0 in
    let m = same.1 in
    let a = h.count in
    let b = h.least_top in
    let d = h.top_limit in
    grind arith
