use Rattle.std.proofs.Common.{◌≡◌, ◌+◌, ◌<◌, ℕ, true, ap, sym, ◌∙◌, Option, Some, None, SomeIff, is_some, arith}
use Rattle.cs_schema.proofs.Ascending.{false≢true}
use Rattle.cs_rows.specs.WalkedView.{count_of}
use Rattle.cs_rows.proofs.WalkedLemmas.{length_rows}
use Rattle.cs_diagnosis.proofs.disputing.disputes_of.Goals as goal

-- a checked sum that exists is the sum
summed : (o : Option ℕ) (P : Type 0) (n : ℕ) → SomeIff o P n → is_some o ≡ true → P
summed None P n told e = absurd (false≢true e)
summed (Some m) P n told e = told.0

pub find_disputes-requires-clause-few : goal.find_disputes-requires-clause-few
find_disputes-requires-clause-few c =
    let few : c.rows.result + c.rows-2.result < 18446744073709551616 = summed c.checked_add.result _ _ c.checked_add.ensures c.if-is_none.ensures in
    let first : count_of c.as_slice.result.now ≡ c.rows.result = ap count_of c.as_slice.ensures.value ∙ sym (c.rows.ensures ∙ length_rows c.args.first.now.columns.items (count_of c.args.first.now.columns.items)) in
    let second : count_of c.as_slice-2.result.now ≡ c.rows-2.result = ap count_of c.as_slice-2.ensures.value ∙ sym (c.rows-2.ensures ∙ length_rows c.args.second.now.columns.items (count_of c.args.second.now.columns.items)) in
    omega (arith, few, first, second)
