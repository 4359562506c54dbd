use Rattle.std.proofs.Common.{◌≡◌, refl, sym, ap, ◌∙◌, arith, inl, inr, Some, None, get_or}
use Rattle.std.specs.List.{slice_get}
use Rattle.std.proofs.lemmas.Bool.{cases_lt}
use Rattle.std.proofs.lemmas.Option.{same_Some, slice_get-get_or, slice_get_within}
use Rattle.cs_schema.specs.declared.file_name.FileName.{FileName}
use Rattle.cs_schema.proofs.Ascending.{false≢true}
use Rattle.cs_schema.proofs.Lists.{in_at, at_in}
use Rattle.cs_store.specs.FileSet.{contents_of}
use Rattle.cs_diagnosis.proofs.absent.are_absent.Goals as goal

none_some : {X : Type 0} (x : X) → Some x ≡ None → ⊥
none_some x e = cc

pub returns-in-Some : goal.returns-in-Some
returns-in-Some c =
    let names = c.args.names.now in
    let i = c.loop-name.name-index in
    let name = get_or names i (FileName.Seg 0 0) in
    let at = slice_get-get_or names i (FileName.Seg 0 0) (omega (arith, c.loop-name-test.true)) in
    (λ e. absurd (false≢true e), λ absent. absurd (none_some _ (c.in-Some.ensures ∙ absent name (in_at names i name at))))

pub loop-name-preserved : goal.loop-name-preserved
loop-name-preserved c k n l g =
    let names = c.args.names.now in
    let i = c.loop-name.name-index in
    let name = get_or names i (FileName.Seg 0 0) in
    let at = slice_get-get_or names i (FileName.Seg 0 0) (omega (arith, c.loop-name-test.true)) in
    elim (cases_lt k i) [
      | inl below ↦ c.loop-name.invariant k n below g
      | inr above ↦
          (let same : i ≡ k = omega (arith, l, above) in
          ap (contents_of c.args.files.now) (same_Some n name (sym g ∙ ap (slice_get names) (sym same) ∙ at)) ∙ sym c.in-None.ensures)
    ]

pub returns : goal.returns
returns c = (
  λ t n i.
      let place = at_in c.args.names.now n i in
      let low = slice_get_within c.args.names.now place.0 n place.1 in
      c.loop-name.invariant place.0 n (omega (arith, low, c.loop-name-test.false)) place.1,
  λ a. refl,
)
