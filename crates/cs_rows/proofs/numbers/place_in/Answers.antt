use Rattle.std.proofs.Common.{◌≡◌, ◌<◌, ◌==◌, arith, sym, Bool, true, false, ℕ, eqb, eq-eqb, eqb-true, get_or, length}
use Rattle.std.proofs.lemmas.List.Sums.{position_or_len_is}
use Rattle.cs_safety.proofs.Distances.{differs}
use Rattle.cs_rows.proofs.numbers.place_in.Goals as goal

pub returns-then-column-c : goal.returns-then-column-c
returns-then-column-c c =
    sym (position_or_len_is (λ (d : ℕ). d == c.args.c) c.args.columns.now c.loop-j.j 0 (omega arith)
    (λ k h. differs (get_or c.args.columns.now k 0) c.args.c (c.loop-j.invariant k h) (eqb (get_or c.args.columns.now k 0) c.args.c) Rattle.std.proofs.Common.refl)
    (λ h. eq-eqb (get_or c.args.columns.now c.loop-j.j 0) c.args.c c.if-column-c.true))

pub returns : goal.returns
returns c =
    sym (position_or_len_is (λ (d : ℕ). d == c.args.c) c.args.columns.now (length c.args.columns.now) 0 (omega arith)
    (λ k h. differs (get_or c.args.columns.now k 0) c.args.c (c.loop-j.invariant k (omega arith)) (eqb (get_or c.args.columns.now k 0) c.args.c) Rattle.std.proofs.Common.refl)
    (λ h. absurd (omega arith)))
