-- Sites are in their range.
use Rattle.std.proofs.Common.{◌≡◌, ℕ, ◌<◌, ◌≤◌, Bool, true, false, length, refl, arith}
use Rattle.cs_schema.specs.declared.file_name.FileName.{FileName}
use Rattle.cs_schema.specs.CatalogData.{CatalogData, projection, HasSegment}
use Rattle.cs_schema.specs.CatalogRules.{IsCatalog}
use Rattle.cs_schema.specs.Lists.{member}
use Rattle.cs_schema.specs.Losses.{Sites, IsSites}
use Rattle.cs_schema.proofs.Lists.{member_at}
use Rattle.cs_recovery.specs.Conflicts.{site_of}

-- only numbers from 1 to 16 are lost sites
pub no_site : (L : Sites) → IsSites L → (x : ℕ) → ((1 ≤ x) × (x ≤ 16) → ⊥) → false ≡ member L x
no_site L sites x out = go (member L x) refl
  where
    go : (b : Bool) → member L x ≡ b → false ≡ member L x
    go true e = absurd (out (sites.1 x e))
    go false e = Rattle.std.proofs.Common.sym e

pub site_range : (C : CatalogData) → IsCatalog C → (p s : ℕ) → HasSegment C p s → (1 ≤ site_of C (FileName.Seg p s)) × (site_of C (FileName.Seg p s) ≤ 16)
site_range C cat p s here =
    let P = cat.projections p here.0 in
    let r = P.site_range (site_of C (FileName.Seg p s)) (member_at (projection C p).sites s 0 (let l = here.1 in omega (arith, l, P.sites))) in
    let low = r.0 in
    let high = r.1 in
    (low, let most = cat.site_range.1 in omega (arith, high, most))
