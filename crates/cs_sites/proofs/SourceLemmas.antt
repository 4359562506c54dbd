-- The source of a site, by its place among the sources.
use Rattle.std.proofs.Common.{◌≡◌, ◌<◌, ◌-◌, ℕ, List, length, Option, slice_index_or, slice_get, sym, ap, ◌∙◌}
use Rattle.std.proofs.lemmas.Option.{slice_get-get_or}
use Rattle.std.specs.Prelude.{option_and_then}
use Rattle.cs_sites.specs.Routing.{source_at}

module _ {S : Type 0} (sources : List (Option S)) (site at : ℕ) (place : at ≡ site - 1) where
  -- what stands at the place of a site is its source
  pub source_here : (x : Option S) → at < length sources → x ≡ slice_index_or sources at x → source_at sources site ≡ x
  source_here x within is =
      ap (λ n. option_and_then (λ source. source) (slice_get sources n)) (sym place)
      ∙ ap (option_and_then (λ source. source)) (slice_get-get_or sources at x within)
      ∙ sym is
