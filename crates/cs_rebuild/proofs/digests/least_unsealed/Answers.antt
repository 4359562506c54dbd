use Rattle.std.proofs.Common.{sym, subst, ◌∙◌}
use Rattle.std.specs.List.Sorted.{IsStrictlySortedBy}
use Rattle.cs_schema.specs.FileNames.{name_cmp}
use Rattle.cs_store.specs.FileSet.{contents_of}
use Rattle.cs_rebuild.specs.Reading.{AreSealedAmong, AreDigestsAmong}
use Rattle.cs_rebuild.proofs.digests.least_unsealed.Goals as goal

pub returns-then-are_sealed : goal.returns-then-are_sealed
returns-then-are_sealed g c =
    subst (AreSealedAmong (contents_of c.args.files.now)) (c.as_slice.ensures.value ∙ c.in_ok-names.ensures.names) (c.are_sealed.ensures c.if-are_sealed.true)

pub first_unsealed-requires : goal.first_unsealed-requires
first_unsealed-requires g c = subst (IsStrictlySortedBy name_cmp) (sym c.as_slice-2.ensures.value) c.in_ok-names.ensures.order

pub returns : goal.returns
returns g c =
    subst (λ names. AreDigestsAmong (contents_of c.args.files.now) names c.first_unsealed.result) (c.as_slice-2.ensures.value ∙ c.in_ok-names.ensures.names) c.first_unsealed.ensures
