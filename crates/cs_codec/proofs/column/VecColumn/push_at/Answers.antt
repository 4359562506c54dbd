use Rattle.std.proofs.Common.{◌≡◌, ◌++◌, ◌∷◌, [], ℕ, Some, get_or, take, sym, ap, ◌∙◌, append_assoc}
use Rattle.std.specs.Prelude.{slice_get}
use Rattle.std.proofs.lemmas.Option.{slice_get-get_or}
use Rattle.cs_schema.proofs.Blocks.{texts_at_more}
use Rattle.cs_codec.specs.Columns.{cells_at}
use Rattle.cs_codec.proofs.column.VecColumn.push_at.Goals as goal

pub loop-place-preserved : goal.loop-place-preserved
loop-place-preserved g c =
    let xs = c.args.other.now.items in
    let places = c.args.places.now in
    let i = c.loop-place.place-index in
    let x = c.index-as_slice-place.result in
    let place : ℕ = get_or places i 0 in
    let before = c.reserve.new.self.items in
    let there : slice_get xs place ≡ Some x = slice_get-get_or xs place x (c.requires i c.loop-place-test.true) ∙ ap Some (sym (c.index-as_slice-place.is ∙ ap (λ l. get_or l place x) c.as_slice.ensures.value)) in
    c.in_ok-push.ensures.items
    ∙ ap (λ z. c.loop-place.self.items ++ z ∷ []) c.copy.ensures
    ∙ ap (λ z. z ++ x ∷ []) c.loop-place.invariant
    ∙ append_assoc before (cells_at xs (take i places)) (x ∷ [])
    ∙ ap (λ z. before ++ z) (sym (texts_at_more xs places i x c.loop-place-test.true there))
