-- The cells of a layer, as they are stored.
use Rattle.std.proofs.Common.{◌≡◌, ℕ, List, [], ◌∷◌, ◌++◌, map, length, get_or, refl, ap, ◌∙◌}
use Rattle.std.specs.List.{All}
use Rattle.std.proofs.lemmas.List.{map_push, get_or_append_left}
use Rattle.std.proofs.lemmas.List.Elements.{All-head, All-tail}
use Rattle.std.proofs.Math.Seq.{get_or-append_seam}
use Rattle.cs_schema.specs.declared.cells.Value.{Value}
use Rattle.cs_delta.specs.declared.layer_cells.CellPlace.{CellPlace}
use Rattle.cs_delta.specs.LayerCellsView.{placed, IsThere}

-- a text that is appended to the block changes no cell
kept : (texts : List (List ℕ)) (t : List ℕ) (places : List CellPlace) → All (IsThere texts) places → map (placed (texts ++ t ∷ [])) places ≡ map (placed texts) places
kept texts t [] h = refl
kept texts t (CellPlace.Int int ∷ places) h = ap (λ (vs : List Value). Value.Int int ∷ vs) (kept texts t places (All-tail (IsThere texts) (CellPlace.Int int) places h))
kept texts t (CellPlace.Text at ∷ places) h =
    let here : get_or (texts ++ t ∷ []) at [] ≡ get_or texts at [] = get_or_append_left texts (t ∷ []) [] at (All-head (IsThere texts) (CellPlace.Text at) places h) in
    ap (λ (b : List ℕ). Value.Text b ∷ map (placed (texts ++ t ∷ [])) places) here
    ∙ ap (λ (vs : List Value). Value.Text (get_or texts at []) ∷ vs) (kept texts t places (All-tail (IsThere texts) (CellPlace.Text at) places h))

text_pushed : (texts : List (List ℕ)) (t : List ℕ) (places : List CellPlace) → All (IsThere texts) places → map (placed (texts ++ t ∷ [])) (places ++ CellPlace.Text (length texts) ∷ []) ≡ map (placed texts) places ++ Value.Text t ∷ []
text_pushed texts t places h =
    map_push (placed (texts ++ t ∷ [])) places (CellPlace.Text (length texts))
    ∙ ap (λ (b : List ℕ). map (placed (texts ++ t ∷ [])) places ++ Value.Text b ∷ []) (get_or-append_seam texts t [] [])
    ∙ ap (λ (vs : List Value). vs ++ Value.Text t ∷ []) (kept texts t places h)

-- a text that is appended to the block, and its cell
pub text_added : (texts new : List (List ℕ)) (t : List ℕ) (places more : List CellPlace) (cells : List Value) (number : ℕ) → map (placed texts) places ≡ cells → All (IsThere texts) places → number ≡ length texts → new ≡ texts ++ t ∷ [] → more ≡ places ++ CellPlace.Text number ∷ [] → map (placed new) more ≡ cells ++ Value.Text t ∷ []
text_added texts new t places more cells number v h n et ep = rw (ep, et, n) (text_pushed texts t places h ∙ ap (λ (vs : List Value). vs ++ Value.Text t ∷ []) v)
