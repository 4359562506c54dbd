use Rattle.std.proofs.Common.{◌≡◌, ◌+◌, ◌<◌, [], ◌∷◌, ◌++◌, ℕ, List, length, take, get_or, Some, sym, ap, ◌∙◌, append_assoc, arith}
use Rattle.std.specs.Prelude.{slice_get}
use Rattle.cs_schema.specs.Blocks.{texts_at}
use Rattle.cs_schema.proofs.Blocks.{texts_at_more}
use Rattle.cs_schema.proofs.texts.push_each.Goals as goal

step : (initial before after xs : List (List ℕ)) (places : List ℕ) (i : ℕ) (t : List ℕ) → i < length places → before ≡ initial ++ texts_at xs (take i places)
    → slice_get xs (get_or places i 0) ≡ Some t → after ≡ before ++ t ∷ [] → after ≡ initial ++ texts_at xs (take (i + 1) places)
step initial before after xs places i t h was there added =
    added
    ∙ ap (λ r. r ++ t ∷ []) was
    ∙ append_assoc initial (texts_at xs (take i places)) (t ∷ [])
    ∙ ap (λ r. initial ++ r) (sym (texts_at_more xs places i t h there))

pub loop-place-preserved : goal.loop-place-preserved
loop-place-preserved c =
    step c.reserve.new.self c.loop-place.texts c.push.new.self c.args.other.now c.args.places.now c.loop-place.place-index c.get.result.now
    (omega arith) c.loop-place.invariant c.get.ensures.value c.in_ok-push.ensures.ok
