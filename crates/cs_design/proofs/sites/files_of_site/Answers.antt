use Rattle.std.proofs.Common.{◌≡◌, ℕ, ◌≤◌, ◌==◌, Bool, true, false, not, refl, sym, ap, subst, ◌∙◌, arith, eqb-true, eq-eqb, Vec, Global, Result, Ok, Err}
use Rattle.std.specs.Prelude.{◌↔◌, IfOk}
use Rattle.cs_schema.specs.declared.file_name.FileName.{FileName}
use Rattle.cs_schema.specs.CatalogData.{CatalogData, HasSegment, projection}
use Rattle.cs_schema.specs.CatalogRules.{IsCatalog}
use Rattle.cs_schema.specs.FileNames.{HasName, name_cmp, surviving, projection_of, segment_of}
use Rattle.std.specs.List.Sorted.{IsStrictlySortedBy}
use Rattle.std.specs.declared.alloc.AllocError.{AllocError}
use Rattle.cs_schema.specs.Losses.{Sites}
use Rattle.cs_schema.specs.Lists.{IsIn, member}
use Rattle.cs_schema.proofs.Ascending.{false≢true}
use Rattle.cs_schema.proofs.Lists.{member_at}
use Rattle.cs_schema.proofs.Surviving.{surviving_names}
use Rattle.cs_design.specs.Fatal.{AreFilesOfSite, site_of}
use Rattle.cs_design.proofs.sites.files_of_site.Goals as goal

-- the segment to which a name of the catalog belongs
its_segment : (C : CatalogData) (n : FileName) → HasName C n → HasSegment C (projection_of n) (segment_of n)
its_segment C (FileName.Seg p s) h = h
its_segment C (FileName.Del p s) h = h
its_segment C (FileName.Jix p s q) h = h.0

decided : (x site : ℕ) → (not (x == site) ≡ false → x ≡ site)
decided x site e = go (x == site) refl e
  where
    go : (b : Bool) → (x == site) ≡ b → not b ≡ false → x ≡ site
    go true f n = eqb-true x site f
    go false f n = false≢true (sym n)

stands : (C : CatalogData) (cat : IsCatalog C) (L : Sites) (site : ℕ) → ((x : ℕ) → 1 ≤ x → x ≤ C.sites → member L x ≡ not (x == site)) → (n : FileName) → IsIn n (surviving C L) ↔ (HasName C n × (site_of C n ≡ site))
stands C cat L site all n = (
  λ i. let s = (surviving_names C L cat n).0 i in let r = range s.0 in (s.0, decided (site_of C n) site (sym (all (site_of C n) r.0 r.1) ∙ s.1)),
  λ h. let r = range h.0 in (surviving_names C L cat n).1 (h.0, all (site_of C n) r.0 r.1 ∙ ap not (eq-eqb (site_of C n) site h.1)),
)
  where
    range : HasName C n → (1 ≤ site_of C n) × (site_of C n ≤ C.sites)
    range h =
        let g = its_segment C n h in
        let P = cat.projections (projection_of n) g.0 in
        let low = g.1 in
        let size = P.sites in
        P.site_range (site_of C n) (member_at (projection C (projection_of n)).sites (segment_of n) 0 (omega (arith, low, size)))

whole : (C : CatalogData) (L : Sites) (site : ℕ) (r : Result (Vec FileName Global) AllocError) → IfOk r (λ names. names.items ≡ surviving C L) → IfOk r (λ names. IsStrictlySortedBy name_cmp names.items)
    → ((n : FileName) → IsIn n (surviving C L) ↔ (HasName C n × (site_of C n ≡ site))) → IfOk r (λ names. AreFilesOfSite C site names.items)
whole C L site (Ok names) e o f = record { members = λ n. subst (λ xs. IsIn n xs ↔ (HasName C n × (site_of C n ≡ site))) (sym e) (f n); in_order = o }
whole C L site (Err e) a o f = tt

pub returns : goal.returns
returns c =
    let C = c.args.catalog.now in
    let cat = c.site_count.ensures.rules in
    let sites = c.site_count.ensures.count in
    whole C c.all_but-others.result c.args.site c.surviving.result c.surviving.ensures.names c.surviving.ensures.order
    (stands C cat c.all_but-others.result c.args.site (λ x l h. c.all_but-others.ensures x l (omega (arith, h, sites))))
