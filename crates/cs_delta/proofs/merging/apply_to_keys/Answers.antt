use Rattle.std.proofs.Common.{ℕ, List, [], ◌∷◌, ◌++◌, ap, subst, ◌∙◌}
use Rattle.cs_delta.specs.declared.item.Item.{Item}
use Rattle.cs_delta.specs.ItemView.{change_of, key_edits}
use Rattle.cs_delta.specs.MergeSteps.{Makes}
use Rattle.cs_delta.proofs.MakeSteps.{put_makes, cut_makes}
use Rattle.cs_delta.proofs.merging.apply_to_keys.Goals as goal

pub returns-in_ok-push-in-Insert-clause-steps : goal.returns-in_ok-push-in-Insert-clause-steps
returns-in_ok-push-in-Insert-clause-steps c = λ rest target m.
    let P : Item → Type 0 = λ i. Makes c.args.base.now target c.args.out.now.items c.args.done (key_edits (change_of i ∷ rest)) in
    put_makes c.args.base.now target c.args.out.now.items c.push.new.self.items c.args.done c.in-Insert.at c.in-Insert.key (key_edits rest)
    (subst P c.in-Insert.is m)
    (c.in_ok-push-in-Insert.ensures.items ∙ ap (λ (a : List ℕ). a ++ c.in-Insert.key ∷ []) c.in_ok-extend_from_slice-in-Insert.ensures.items)

pub returns-in_ok-extend_from_slice-in-Delete-clause-steps : goal.returns-in_ok-extend_from_slice-in-Delete-clause-steps
returns-in_ok-extend_from_slice-in-Delete-clause-steps c = λ rest target m.
    let P : Item → Type 0 = λ i. Makes c.args.base.now target c.args.out.now.items c.args.done (key_edits (change_of i ∷ rest)) in
    cut_makes c.args.base.now target c.args.out.now.items c.extend_from_slice-in-Delete.new.self.items c.args.done c.in-Delete.at 0 (key_edits rest)
    (subst P c.in-Delete.is m)
    c.in_ok-extend_from_slice-in-Delete.ensures.items
