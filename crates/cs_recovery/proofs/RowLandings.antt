-- The row at which a landing of a walk by rows is.
use Rattle.std.proofs.Common.{◌≡◌, ℕ, refl, ap, Option, Some, None}
use Rattle.std.proofs.lemmas.Option.{none-some, same_Some}
use Rattle.cs_rows.specs.Walk.{At}
use Rattle.cs_rows.specs.WalkByRows.{Reached, Landing, row_landing, lost_landing}

abbrev pub row_in : Landing → Option At
row_in Landing.astray = None
row_in Landing.in_lost = None
row_in (Landing.at_row at) = Some at

pub row_landed : (q : ℕ) (l : Landing) (x : Reached) → row_landing (q, l) ≡ Some x → (q ≡ x.0) × (l ≡ Landing.at_row x.1)
row_landed q Landing.astray x e = absurd (none-some x e)
row_landed q Landing.in_lost x e = absurd (none-some x e)
row_landed q (Landing.at_row at) x e = let z = same_Some (q, at) x e in (ap (λ (w : Reached). w.0) z, ap (λ (w : Reached). Landing.at_row w.1) z)

pub lost_landed : (q : ℕ) (l : Landing) (x : ℕ) → lost_landing (q, l) ≡ Some x → (q ≡ x) × (l ≡ Landing.in_lost)
lost_landed q Landing.astray x e = absurd (none-some x e)
lost_landed q Landing.in_lost x e = (same_Some q x e, refl)
lost_landed q (Landing.at_row at) x e = absurd (none-some x e)
