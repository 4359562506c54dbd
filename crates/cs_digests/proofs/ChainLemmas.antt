-- Lists of messages of which blocks are taken in.
use Rattle.std.proofs.Common.{◌≡◌, ℕ, List, map, sym, ap, ◌∙◌, get_or}
use Rattle.std.specs.Prelude.{slice_set}
use Rattle.std.proofs.Math.ListN.{get_or-map}
use Rattle.std.proofs.Math.Seq.{map-set_same}

-- an element is set to what f cannot tell from the one that stood there at first
pub set_alike : {A B : Type 0} (f : A → B) (first now : List A) (i : ℕ) (x y : A) → map f now ≡ map f first → x ≡ get_or first i x → f y ≡ f x → map f (slice_set now i y) ≡ map f first
set_alike f first now i x y alike there same =
    let here : f (get_or now i x) ≡ f x = sym (get_or-map f now i x) ∙ ap (λ l. get_or l i (f x)) alike ∙ get_or-map f first i x ∙ ap f (sym there) in
    map-set_same f now i y x (same ∙ sym here) ∙ alike
