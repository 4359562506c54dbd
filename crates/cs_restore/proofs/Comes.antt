-- What an undo comes to.
use Rattle.std.proofs.Common.{⊎_elim, sym, ◌∙◌}
use Rattle.cs_restore.specs.Undoing.{StoppedUndoGoesOn, UndoBringsBack}

pub brings_back : UndoBringsBack
brings_back d c back e names only kept undone n = ⊎_elim
    (λ same. ⊎_elim (λ was. same ∙ was) (λ among. undone.each n among ∙ kept n among) (only n))
    (λ among. undone.each n among ∙ kept n among) (undone.others n)

pub goes_on_again : StoppedUndoGoesOn
goes_on_again back d c e f names part again once n = ⊎_elim
    (λ same. ⊎_elim
    (λ was. ⊎_elim (λ first. same ∙ was ∙ sym first) (λ among. again.each n among ∙ sym (once.each n among)) (once.others n))
    (λ new. again.each n new.0 ∙ sym (once.each n new.0)) (part n))
    (λ among. again.each n among ∙ sym (once.each n among)) (again.others n)
