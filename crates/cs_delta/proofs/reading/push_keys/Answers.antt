use Rattle.std.proofs.Common.{◌++◌, [], ◌∷◌, ℕ, List, Vec, Global, ap, sym, ◌∙◌}
use Rattle.std.proofs.lemmas.List.{append-nil}
use Rattle.std.specs.List.{filter_map}
use Rattle.cs_delta.specs.declared.item.Item.{Item}
use Rattle.cs_delta.specs.ItemView.{change_of}
use Rattle.cs_delta.specs.DeltaFile.{inserted_key}
use Rattle.cs_delta.proofs.KeyLists.{keys_step}
use Rattle.cs_delta.proofs.reading.push_keys.Goals as goal
use Rattle.cs_delta.proofs.reading.push_keys.Goals.{in-Insert+in_ok-push-in-Insert, in-Delete, in-Modify}

pub loop-i-preserved : goal.loop-i-preserved
loop-i-preserved c =
    let old = c.loop-i.keys.items in
    let given : Item → List ℕ = λ (x : Item). filter_map inserted_key (change_of x ∷ []) in
    keys_step c.args.layer.now c.loop-i.i (change_of c.item.result) c.args.keys.now.items old c.match-item.keys.items c.item.ensures c.loop-i.invariant
    (elim c.match-item.branch [
      | in-Insert+in_ok-push-in-Insert w ↦ ap (λ (v : Vec ℕ Global). v.items) w.keys-is ∙ w.in_ok-push-in-Insert.ensures.items ∙ ap (λ (x : Item). old ++ given x) (sym w.in-Insert.is)
      | in-Delete w ↦ ap (λ (v : Vec ℕ Global). v.items) w.keys-is ∙ sym (append-nil old) ∙ ap (λ (x : Item). old ++ given x) (sym w.in-Delete.is)
      | in-Modify w ↦ ap (λ (v : Vec ℕ Global). v.items) w.keys-is ∙ sym (append-nil old) ∙ ap (λ (x : Item). old ++ given x) (sym w.in-Modify.is)
    ])
