-- What a store answers whose sites have sources of their own.
use Rattle.std.specs.Prelude.{◌≡◌, ◌-◌, ℕ, List, Option, None, Some, MatchOption, IsSomeAnd, slice_set}
use Rattle.cs_schema.specs.declared.file_name.FileName.{FileName}
use Rattle.cs_store.specs.declared.fault.StoreFault.{StoreFault}
use Rattle.cs_store.specs.declared.fault.StoreFault.TheVariants.{Device}
use Rattle.cs_sites.specs.Routing.{site_of, source_at}

-- the source of a site said this of the name, and may have changed; those of the other sites stay as they were
pub record SaysOnly {S X : Type 0} (says : S → FileName → X → S → Type 0) (sources : List (Option S)) (site : ℕ) (source : S) (name : FileName) (x : X) (after : List (Option S)) : Type 0 where
  pub left : S
  pub said : says source name x left
  pub others : after ≡ slice_set sources (site - 1) (Some left)

module _ {S : Type 0} (routes : List (List ℕ)) (sources : List (Option S)) (name : FileName) where
  -- A read gave this file: the source of the name's site gave it. A name of no site has no file.
  abbrev pub GivesFile : (S → FileName → Option (List ℕ) → S → Type 0) → Option (List ℕ) → List (Option S) → Type 0
  GivesFile gives file after =
      MatchOption (site_of routes name) ((file ≡ None) × (after ≡ sources))
      (λ site. IsSomeAnd (source_at sources site) (λ source. SaysOnly gives sources site source name file after))

  -- A read was refused: the source of the name's site refused it, or the site is away and no source was asked.
  abbrev pub RefusesFile : (S → FileName → StoreFault → S → Type 0) → StoreFault → List (Option S) → Type 0
  RefusesFile refuses fault after =
      IsSomeAnd (site_of routes name)
      (λ site. MatchOption (source_at sources site) ((fault ≡ Device) × (after ≡ sources)) (λ source. SaysOnly refuses sources site source name fault after))

  -- the same of sources that stay as they are
  abbrev pub AnswersFile : (S → FileName → Option (List ℕ) → Type 0) → Option (List ℕ) → Type 0
  AnswersFile answers file =
      MatchOption (site_of routes name) (file ≡ None)
      (λ site. IsSomeAnd (source_at sources site) (λ source. answers source name file))

  abbrev pub FailsFile : (S → FileName → StoreFault → Type 0) → StoreFault → Type 0
  FailsFile fails fault =
      IsSomeAnd (site_of routes name)
      (λ site. MatchOption (source_at sources site) (fault ≡ Device) (λ source. fails source name fault))
