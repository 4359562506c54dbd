use Rattle.std.proofs.Common.{◌≡◌, ◌<◌, ◌≤◌, ℕ, List, length, sym, subst, ⊎_elim, arith, true, false, ◌==◌}
use Rattle.std.specs.List.{list_any, position_or_len}
use Rattle.std.proofs.lemmas.Bool.{cases_lt}
use Rattle.cs_safety.specs.Paths.{holds_column}
use Rattle.cs_rows.proofs.FirstLemmas.{all_below, fails_below, found_in, missing_in}
use Rattle.cs_rows.proofs.catalog_of.has_all_columns.Goals as goal

pub returns-then-place_in-columns : goal.returns-then-place_in-columns
returns-then-place_in-columns c =
    let C = c.args.survivors.now.catalog in
    let n : ℕ = c.loop-c.c in
    let columns : List ℕ = c.columns_of-columns.result.now in
    let past : length columns ≤ position_or_len (λ d. d == n) columns = subst (λ (k : ℕ). length columns ≤ k) c.place_in.ensures c.if-place_in-columns.true in
    sym (fails_below (holds_column C c.args.p) (length C.columns) n (omega (arith, c.loop-c-test.true, c.column_count-c-end.ensures.count)) (subst (λ (l : List ℕ). list_any (λ d. d == n) l ≡ false) c.columns_of-columns.ensures (missing_in n columns past)))

pub loop-c-preserved : goal.loop-c-preserved
loop-c-preserved c k h =
    let C = c.args.survivors.now.catalog in
    let n : ℕ = c.loop-c.c in
    let columns : List ℕ = c.columns_of-columns.result.now in
    let there : position_or_len (λ d. d == n) columns < length columns = subst (λ (m : ℕ). m < length columns) c.place_in.ensures c.if-place_in-columns.false in
    let held : holds_column C c.args.p n ≡ true = subst (λ (l : List ℕ). list_any (λ d. d == n) l ≡ true) c.columns_of-columns.ensures (found_in n columns there) in
    ⊎_elim
    (λ (less : k < n). c.loop-c.invariant k less)
    (λ (ge : n ≤ k). let here : n ≡ k = omega arith in subst (λ (m : ℕ). holds_column C c.args.p m ≡ true) here held)
    (cases_lt k n)

pub returns : goal.returns
returns c =
    sym (all_below (holds_column c.args.survivors.now.catalog c.args.p) (length c.args.survivors.now.catalog.columns) (λ k h. c.loop-c.invariant k (omega (arith, h, c.loop-c-test.false, c.column_count-c-end.ensures.count))))
