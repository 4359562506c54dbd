use Rattle.std.proofs.Common.{◌++◌, length, ap, ◌∙◌, arith}
use Rattle.std.proofs.lemmas.List.{length-append}
use Rattle.cs_codec.proofs.runs.RunsPart.followed_by.Goals as goal

pub overflow_add-count : goal.overflow_add-count
overflow_add-count g c = omega (arith, c.self.invariant.short, c.self.invariant.count_is, c.other.invariant.short, c.other.invariant.count_is)

pub append_to-requires-clause-short : goal.append_to-requires-clause-short
append_to-requires-clause-short g c = omega (arith, ap length c.in_ok-values.ensures.cells, length-append c.args.self c.args.other, c.requires)

pub append_to-requires-clause-runs : goal.append_to-requires-clause-runs
append_to-requires-clause-runs g c = c.in_ok-values.ensures.runs

pub invariant_of-result : goal.invariant_of-result
invariant_of-result g c =
    let size = ap length (c.in_ok-append_to.ensures.cells ∙ ap (λ z. z ++ c.args.other) c.in_ok-values.ensures.cells) in
    record {
      runs = c.in_ok-append_to.ensures.runs;
      short = omega (arith, size, c.requires);
      count_is = omega (arith, size, length-append c.args.self c.args.other, c.self.invariant.count_is, c.other.invariant.count_is, ap length c.self.view_is, ap length c.other.view_is);
    }

pub returns : goal.returns
returns g c = c.in_ok-append_to.ensures.cells ∙ ap (λ z. z ++ c.args.other) c.in_ok-values.ensures.cells
