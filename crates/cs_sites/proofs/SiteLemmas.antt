-- The site of each file of a catalog.
use Rattle.std.proofs.Common.{◌≡◌, ◌==◌, ◌<◌, ℕ, true, length, Some, IsTrue, slice_index, slice_get, ap, refl, rules, arith, ◌∙◌}
use Rattle.std.proofs.lemmas.Option.{slice_get-get_or, slice_get-map}
use Rattle.std.proofs.lemmas.Map.Keys.{any_passes_from_place}
use Rattle.std.specs.Prelude.{option_and_then, option_map}
use Rattle.cs_schema.specs.declared.file_name.FileName.{FileName}
use Rattle.cs_schema.specs.declared.file_name.FileName.TheVariants as file
use Rattle.cs_schema.specs.CatalogData.{CatalogData, projection, no_projection, HasSegment}
use Rattle.cs_schema.specs.FileNames.{HasName, projection_of, segment_of}
use Rattle.cs_schema.specs.Lists.{member}
use Rattle.cs_sites.specs.Routing.{routes_of}
use Rattle.cs_sites.specs.Laws.{FilesHaveSites}

-- a name of a catalog has one of its segments
has_segment : (C : CatalogData) (name : FileName) → HasName C name → HasSegment C (projection_of name) (segment_of name)
has_segment C (file.Seg p s) h = h
has_segment C (file.Del p s) h = h
has_segment C (file.Jix p s q) h = h.0

eqb-itself : (n : ℕ) → (n == n) ≡ true
eqb-itself n = search rules

pub have_sites : FilesHaveSites
have_sites C rules_of name h =
    let p = projection_of name in
    let s = segment_of name in
    let inside = has_segment C name h in
    let P = projection C p in
    let keeps = rules_of.projections p inside.0 in
    let within : s < length P.sites = omega (arith, keeps.sites, inside.1) in
    let route : slice_get (routes_of C) p ≡ Some P.sites = slice_get-map (λ q. q.sites) C.projections p ∙ ap (option_map (λ q. q.sites)) (slice_get-get_or C.projections p no_projection inside.0) in
    let stands : slice_get P.sites s ≡ Some (slice_index P.sites s) = slice_get-get_or P.sites s 0 within in
    let site = slice_index P.sites s in
    let among : IsTrue (member P.sites site) = any_passes_from_place (λ y. y == site) P.sites s site stands (eqb-itself site) in
    let range = keeps.site_range site among in (
      site,
      record {
        is = ap (option_and_then (λ sites. slice_get sites s)) route ∙ stands;
        low = range.0;
        high = range.1;
        taken = λ L. refl;
      },
    )
