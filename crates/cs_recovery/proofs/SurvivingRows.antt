-- The rows of surviving segments, and where each is.
use Rattle.std.proofs.Common.{◌≡◌, ℕ, List, map, refl, sym, ap, subst, Bool, true, false, not, length, arith}
use Rattle.std.specs.List.{filter}
use Rattle.cs_schema.specs.CatalogData.{CatalogData, segments}
use Rattle.cs_schema.specs.Lists.{IsIn}
use Rattle.cs_schema.specs.Losses.{Sites, lost}
use Rattle.cs_schema.specs.Lists.{numbers_below}
use Rattle.cs_rows.specs.Walk.{Contents, At, segment_rows, projection_rows}
use Rattle.cs_rows.specs.WalkByRows.{Reached, surviving_rows}
use Rattle.cs_schema.proofs.Ascending.{false≢true, in_filter, filter_in}
use Rattle.cs_schema.proofs.Lists.{in_map, map_in, in_range, range_in}
use Rattle.cs_recovery.proofs.WalkedRows.{in_flat_map, flat_map_in}
use Rattle.cs_recovery.proofs.RowLevels.{IsKeptRow}

module _ (C : CatalogData) (L : Sites) (S : Contents) where
  pub not_so : (b : Bool) → not b ≡ true → b ≡ false
  not_so true e = false≢true e
  not_so false e = refl

  abbrev stays : ℕ → At → Bool
  stays p at = not (lost C L p at.0)

  abbrev of_projection : ℕ → List (ℕ × At)
  of_projection p = map (λ (at : At). (p, at)) (filter (stays p) (projection_rows C S p))

  pub surviving_kept : (x : Reached) → IsIn x (surviving_rows C L S) → IsKeptRow C L S x.0 x.1
  surviving_kept x h =
      let a = in_flat_map of_projection (numbers_below (length C.projections)) x h in
      let p : ℕ = a.0 in
      let b = in_map (λ (at : At). (p, at)) (filter (stays p) (projection_rows C S p)) x a.2 in
      let c = in_filter (stays p) (projection_rows C S p) b.0 b.1 in
      let d = in_flat_map (segment_rows S p) (numbers_below (segments C p)) b.0 c.0 in
      let e = in_map (λ (i : ℕ). (d.0, i)) (numbers_below (length (S.image p d.0).pairs)) b.0 d.2 in
      let lp = (in_range 0 (length C.projections) p a.1).1 in
      let ls = (in_range 0 (segments C p) d.0 d.1).1 in
      let li = (in_range 0 (length (S.image p d.0).pairs) e.0 e.1).1 in
      let k : IsKeptRow C L S p (d.0, e.0) = record { exists = omega (arith, lp); segment = omega (arith, ls); kept = subst (λ (w : At). lost C L p w.0 ≡ false) e.2 (not_so (lost C L p b.0.0) c.1); position = omega (arith, li) } in
      subst (λ (w : Reached). IsKeptRow C L S w.0 w.1) (sym b.2) (subst (IsKeptRow C L S p) (sym e.2) k)

  pub kept_surviving : (p : ℕ) (at : At) → IsKeptRow C L S p at → IsIn (p, at) (surviving_rows C L S)
  kept_surviving p at k =
      let i : IsIn at (segment_rows S p at.0) = map_in (λ i. (at.0, i)) (numbers_below (length (S.image p at.0).pairs)) at.1 (range_in 0 (length (S.image p at.0).pairs) at.1 (omega arith) (omega (arith, k.position))) in
      let s : IsIn at (projection_rows C S p) = flat_map_in (segment_rows S p) (numbers_below (segments C p)) at.0 at (range_in 0 (segments C p) at.0 (omega arith) (omega (arith, k.segment))) i in
      let f : IsIn at (filter (stays p) (projection_rows C S p)) = filter_in (stays p) (projection_rows C S p) at s (ap not k.kept) in
      flat_map_in of_projection (numbers_below (length C.projections)) p (p, at) (range_in 0 (length C.projections) p (omega arith) (omega (arith, k.exists))) (map_in (λ (at : At). (p, at)) (filter (stays p) (projection_rows C S p)) at f)
