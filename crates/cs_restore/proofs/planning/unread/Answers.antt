use Rattle.std.proofs.Common.{Some, ◌≡◌, sym, ap, subst, ◌∙◌, arith, inl, inr, get_or}
use Rattle.std.specs.List.{slice_get}
use Rattle.std.proofs.lemmas.Bool.{cases_lt}
use Rattle.std.proofs.lemmas.Option.{same_Some, slice_get-get_or, slice_get_within}
use Rattle.cs_schema.specs.declared.file_name.FileName.{FileName}
use Rattle.cs_schema.specs.Lists.{IsIn}
use Rattle.cs_schema.proofs.Ascending.{false≢true}
use Rattle.cs_schema.proofs.Lists.{at_in}
use Rattle.cs_schema.proofs.Surviving.{surviving_names}
use Rattle.cs_restore.proofs.Found.{found_in, listed}
use Rattle.cs_restore.proofs.planning.unread.Goals as goal

pub loop-name-preserved : goal.loop-name-preserved
loop-name-preserved c k n l g =
    let names = c.deref-name-items.result.now in
    let i = c.loop-name.name-index in
    let name = get_or names i (FileName.Seg 0 0) in
    let at = slice_get-get_or names i (FileName.Seg 0 0) (omega (arith, c.loop-name-test.true)) in
    elim (cases_lt k i) [
      | inl below ↦ c.loop-name.invariant k n below g
      | inr above ↦
          (let same : i ≡ k = omega (arith, l, above) in
          let one = same_Some n name (sym g ∙ ap (slice_get names) (sym same) ∙ at) in
          λ is. false≢true (sym c.if-contains.false ∙ c.contains.ensures.value ∙ listed name c.args.unreadable.now (subst (λ m. IsIn m c.args.unreadable.now) one is)))
    ]

pub returns : goal.returns
returns c n survives is =
    let names = c.deref-name-items.result.now in
    let among = subst (IsIn n) (sym (c.deref-name-items.ensures.value ∙ c.in_ok-names.ensures.names)) ((surviving_names c.args.catalog.now c.args.loss c.projection_count-rules.ensures.rules n).1 survives) in
    let place = at_in names n among in
    let low = slice_get_within names place.0 n place.1 in
    c.loop-name.invariant place.0 n (omega (arith, low, c.loop-name-test.false)) place.1 is

pub returns-then-contains : goal.returns-then-contains
returns-then-contains c =
    let names = c.deref-name-items.result.now in
    let i = c.loop-name.name-index in
    let name = get_or names i (FileName.Seg 0 0) in
    let same = c.deref-name-items.ensures.value ∙ c.in_ok-names.ensures.names in
    record {
      place = i;
      at = subst (λ l. slice_get l i ≡ Some name) same (slice_get-get_or names i (FileName.Seg 0 0) (omega (arith, c.loop-name-test.true)));
      unread = found_in name c.args.unreadable.now (sym c.contains.ensures.value ∙ c.if-contains.true);
      before = λ k n less at. c.loop-name.invariant k n less (subst (λ l. slice_get l k ≡ Some n) (sym same) at);
    }
