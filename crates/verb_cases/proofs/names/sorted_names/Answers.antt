use Rattle.std.proofs.Common.{◌≡◌, arith, map, string_bytes, subst}
use Rattle.std.specs.List.Sorted.{IsPermutation}
use Rattle.std.proofs.lemmas.List.Sorted.{IsPermutation-map}
use Rattle.verb_cases.specs.Standing.{names_of}
use Rattle.verb_cases.proofs.names.sorted_names.Goals as goal

pub returns : goal.returns
returns c =
    let same : map string_bytes c.push_if-2.new.names.items ≡ names_of c.args.store.now = grind arith in
    subst (λ before. IsPermutation before (map string_bytes c.sort_unstable.new.self.items)) same (IsPermutation-map string_bytes _ _ c.sort_unstable.ensures.permutation)
