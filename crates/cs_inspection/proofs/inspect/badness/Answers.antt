use Rattle.std.proofs.Common.{sym, ◌∙◌, ap, refl}
use Rattle.std.specs.Option.{option_map}
use Rattle.cs_inspection.specs.BadFiles.{IsBad}
use Rattle.cs_inspection.proofs.Unreadable.{listed, unlisted}
use Rattle.cs_inspection.proofs.inspect.badness.Goals as goal

pub returns-then-contains : goal.returns-then-contains
returns-then-contains g c = IsBad.unreadable (listed c.args.unreadable.now c.args.name (sym c.contains.ensures.value ∙ c.if-contains.true)) refl

pub returns-in_default : goal.returns-in_default
returns-in_default g c =
    IsBad.missing (unlisted c.args.unreadable.now c.args.name (sym c.contains.ensures.value ∙ c.if-contains.false)) (sym c.get.ensures ∙ ap (option_map (λ bytes. bytes.now)) c.in_default.is) refl

pub returns-in-Ok-true : goal.returns-in-Ok-true
returns-in-Ok-true g c = record {
  readable = unlisted c.args.unreadable.now c.args.name (sym c.contains.ensures.value ∙ c.if-contains.false);
  bytes = c.in-Some.bytes.now;
  there = sym c.get.ensures ∙ ap (option_map (λ bytes. bytes.now)) c.in-Some.is;
  undamaged = rw c.in-Ok-true.field-0-test at c.in-Ok-true.ensures;
}

pub returns-in-Ok-false : goal.returns-in-Ok-false
returns-in-Ok-false g c =
    IsBad.damaged (unlisted c.args.unreadable.now c.args.name (sym c.contains.ensures.value ∙ c.if-contains.false)) c.in-Some.bytes.now (sym c.get.ensures ∙ ap (option_map (λ bytes. bytes.now)) c.in-Some.is)
    (rw c.in-Ok-false.field-0-test at c.in-Ok-false.ensures) refl
