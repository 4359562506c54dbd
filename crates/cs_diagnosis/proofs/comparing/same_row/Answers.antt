use Rattle.std.proofs.Common.{◌≡◌, refl, sym, ap, ◌∙◌, arith, inl, inr}
use Rattle.std.proofs.lemmas.Bool.{cases_lt}
use Rattle.std.proofs.lemmas.Option.{same_Some}
use Rattle.std.specs.List.{slice_get}
use Rattle.cs_schema.specs.Values.{values}
use Rattle.cs_schema.proofs.Ascending.{false≢true}
use Rattle.cs_schema.proofs.Lists.{in_at}
use Rattle.cs_design.proofs.Items.{item_at}
use Rattle.cs_diagnosis.proofs.TableRows.{as_wide, alike_rows, alike_cells}
use Rattle.cs_diagnosis.proofs.comparing.same_row.Goals as goal

pub bounds-second-c : goal.bounds-second-c
bounds-second-c c =
    let wide = as_wide c.args.catalog.now c.args.first.now c.requires.first c.args.i c.requires.here in
    let wide' = as_wide c.args.catalog.now c.args.second.now c.requires.second c.args.j c.requires.there in
    omega (arith, wide, wide', c.loop-c-test.true)

pub same-requires-clause-here : goal.same-requires-clause-here
same-requires-clause-here c =
    let at = item_at c.args.first.now c.loop-c.c c.index-first-c.result (omega (arith, c.loop-c-test.true)) c.index-first-c.is in
    let long = c.requires.first.even.lengths c.index-first-c.result (in_at c.args.first.now c.loop-c.c c.index-first-c.result at) in
    let here = c.requires.here in
    omega (arith, long, here)

pub same-requires-clause-there : goal.same-requires-clause-there
same-requires-clause-there c =
    let wide = as_wide c.args.catalog.now c.args.first.now c.requires.first c.args.i c.requires.here in
    let wide' = as_wide c.args.catalog.now c.args.second.now c.requires.second c.args.j c.requires.there in
    let at = item_at c.args.second.now c.loop-c.c c.index-second-c.result (omega (arith, wide, wide', c.loop-c-test.true)) c.index-second-c.is in
    let long = c.requires.second.even.lengths c.index-second-c.result (in_at c.args.second.now c.loop-c.c c.index-second-c.result at) in
    let there = c.requires.there in
    omega (arith, long, there)

pub returns-then-not-same : goal.returns-then-not-same
returns-then-not-same c =
    let C = c.args.catalog.now in
    let a = c.args.first.now in
    let b = c.args.second.now in
    let wide = as_wide C a c.requires.first c.args.i c.requires.here in
    let wide' = as_wide C b c.requires.second c.args.j c.requires.there in
    let at = item_at a c.loop-c.c c.index-first-c.result (omega (arith, c.loop-c-test.true)) c.index-first-c.is in
    let by = item_at b c.loop-c.c c.index-second-c.result (omega (arith, wide, wide', c.loop-c-test.true)) c.index-second-c.is in (
      λ e. absurd (false≢true e),
      λ e.
          let same = alike_cells C a b c.requires.first c.requires.second c.args.i c.args.j c.requires.here c.requires.there e c.loop-c.c c.index-first-c.result c.index-second-c.result at by in
          absurd (false≢true (sym c.if-not-same.true ∙ c.same.ensures.1 same)),
    )

pub loop-c-preserved : goal.loop-c-preserved
loop-c-preserved c k x y l g h =
    let C = c.args.catalog.now in
    let a = c.args.first.now in
    let b = c.args.second.now in
    let i = c.loop-c.c in
    let X = c.index-first-c.result in
    let Y = c.index-second-c.result in
    let wide = as_wide C a c.requires.first c.args.i c.requires.here in
    let wide' = as_wide C b c.requires.second c.args.j c.requires.there in
    let at = item_at a i X (omega (arith, c.loop-c-test.true)) c.index-first-c.is in
    let by = item_at b i Y (omega (arith, wide, wide', c.loop-c-test.true)) c.index-second-c.is in
    elim (cases_lt k i) [
      | inl below ↦ c.loop-c.invariant k x y below g h
      | inr above ↦
          (let same : i ≡ k = omega (arith, l, above) in
          let first = same_Some X x (sym at ∙ ap (slice_get a) same ∙ g) in
          let second = same_Some Y y (sym by ∙ ap (slice_get b) same ∙ h) in
          ap (λ z. slice_get (values z) c.args.i) (sym first) ∙ c.same.ensures.0 c.if-not-same.false ∙ ap (λ z. slice_get (values z) c.args.j) second)
    ]

pub returns : goal.returns
returns c = (
  λ t. alike_rows c.args.catalog.now c.args.first.now c.args.second.now c.requires.first c.requires.second c.args.i c.args.j c.requires.here c.requires.there (λ k x y l g h. c.loop-c.invariant k x y (omega (arith, l, c.loop-c-test.false)) g h),
  λ e. refl,
)
